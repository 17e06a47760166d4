-- What a look-up finds: the longest match, the entry with an equal key, and the place that a new entry takes.
use Rattle.std.specs.Prelude.{Option, Some, None}
use Rattle.std.proofs.Common.{◌≡◌, ℕ, zero, suc, ◌+◌, ◌-◌, ◌<◌, ◌≤◌, true, false, ◌&&◌, ltb, ◌⊎◌, List, [], ◌∷◌, length, get_or, drop, sym, refl, ap, ◌∙◌, subst, inl, inr, arith, length-drop, get_or-drop, drop-drop, ltb-false, ltb-true}
use lib.ListN.{get_or-eq_default}
use Rattle.laws.specs.Choice.{choose}
use Rattle.laws.proofs.Choices.{choose_yes, choose_no, and_left, and_right, and_both}
use Rattle.laws.proofs.Orders.{lt_or_le, told}
use Rattle.laws.proofs.Tests.{eq_or_ne, refuted, not_both}
use Rattle.unc.specs.names.Names.{same_name}
use Rattle.unc.specs.names.Paths.{matches}
use Rattle.cache.specs.order.Entries.{Referral, Place, free, used}
use Rattle.cache.specs.order.Memory.{Kind}
use Rattle.cache_lookup.specs.Lookup.{longer_match, prefix_units, longest_from, longest_match, has_key, with_key_from, with_key, first_free_from, place_age, oldest_from, oldest, found_or, new_place}

-- what is left of a list: its first element and the rest
module _ {ℓ} {A : Type ℓ} where
  rest_first : (qs : List A) (i : ℕ) (p : A) (ps : List A) (z : A) → p ∷ ps ≡ drop i qs → get_or qs i z ≡ p
  rest_first qs i p ps z h =
      let e : i + 0 ≡ i = omega arith in
      ap (λ (j : ℕ). get_or qs j z) (sym e) ∙ (sym (get_or-drop i qs 0 z) ∙ ap (λ (l : List A). get_or l 0 z) (sym h))

  rest_rest : (qs : List A) (i : ℕ) (p : A) (ps : List A) → p ∷ ps ≡ drop i qs → ps ≡ drop (i + 1) qs
  rest_rest qs i p ps h = ap (drop 1) h ∙ drop-drop 1 i qs

  rest_inside : (qs : List A) (i : ℕ) (p : A) (ps : List A) → p ∷ ps ≡ drop i qs → i < length qs
  rest_inside qs i p ps h = omega (arith, ap length h, length-drop i qs)

  rest_none : (qs : List A) (i : ℕ) → [] ≡ drop i qs → length qs ≤ i
  rest_none qs i h = omega (arith, ap length h, length-drop i qs)

-- used places lie inside the list
pub used_inside : {E : Type 0} (ps : List (Place E)) (i : ℕ) (e : E) → get_or ps i free ≡ used e → i < length ps
used_inside ps i e h = go (lt_or_le i (length ps))
  where
    go : (i < length ps) ⊎ (length ps ≤ i) → i < length ps
    go (inl u) = u
    go (inr u) = absurd (let z : ◌≡◌ {A = ℕ} 0 1 = cc (get_or-eq_default ps free {n = i} u) in omega arith)

-- the longest match
module _ (path : List ℕ) (qs : List (Place Referral)) where
  -- an entry whose prefix matches
  pub record Matches (i : ℕ) (e : Referral) : Type 0 where
    pub here : get_or qs i free ≡ used e
    pub matched : matches e.prefix path ≡ true

  data Best : Option ℕ → ℕ → Type 0 where
    none : Best None 0
    best_at : (b : ℕ) (e : Referral) → Matches b e → Best (Some b) (length e.prefix)

  Bounded : ℕ → ℕ → Type 0
  Bounded i n = (j : ℕ) (e : Referral) → j < i → Matches j e → length e.prefix ≤ n

  record Searched (r : Option ℕ) : Type 0 where
    units : ℕ
    best : Best r units
    bound : Bounded (length qs) units

  -- one place more under a bound
  more_free : (i n : ℕ) → Bounded i n → get_or qs i free ≡ free → Bounded (i + 1) n
  unfolding Bounded
  more_free i n c h j e u m = go (eq_or_ne j i)
    where
      go : (j ≡ i) ⊎ (j ≡ i → ⊥) → length e.prefix ≤ n
      go (inl q) = absurd (let z : ◌≡◌ {A = ℕ} 0 1 = cc (ap (λ (x : ℕ). get_or qs x free) q, m.here) in omega arith)
      go (inr q) = c j e (omega arith) m

  more_used : (i n : ℕ) → Bounded i n → (n' : ℕ) → n ≤ n' → (a : Referral) → get_or qs i free ≡ used a → (matches a.prefix path ≡ true → length a.prefix ≤ n')
      → Bounded (i + 1) n'
  unfolding Bounded
  more_used i n c n' l a h f j e u m = go (eq_or_ne j i)
    where
      go : (j ≡ i) ⊎ (j ≡ i → ⊥) → length e.prefix ≤ n'
      go (inl q) =
          let same : a ≡ e = cc (ap (λ (x : ℕ). get_or qs x free) q, m.here) in
          subst (λ (x : Referral). length x.prefix ≤ n') same (f (ap (λ (x : Referral). matches x.prefix path) same ∙ m.matched))
      go (inr q) = let v : length e.prefix ≤ n = c j e (omega arith) m in omega arith

  search_all : (i : ℕ) (best : Option ℕ) (n : ℕ) (ps : List (Place Referral)) → ps ≡ drop i qs → Best best n → Bounded i n → Searched (longest_from path i best n ps)
  unfolding longest_from longer_match prefix_units choose Bounded
  search_all i best n [] h b c =
      record { units = n; best = b; bound = λ j e u m. let v : length qs ≤ i = rest_none qs i h in c j e (omega arith) m }
  search_all i best n (free ∷ ps) h b c =
      search_all (i + 1) best n ps (rest_rest qs i free ps h) b (more_free i n c (rest_first qs i free ps free h))
  search_all i best n (used a ∷ ps) h b c =
      go (told (ltb n (length a.prefix) && matches a.prefix path)) (λ best' n' b' c'. search_all (i + 1) best' n' ps (rest_rest qs i (used a) ps h) b' c')
    where
      here : get_or qs i free ≡ used a
      here = rest_first qs i (used a) ps free h

      go : ((ltb n (length a.prefix) && matches a.prefix path) ≡ true) ⊎ ((ltb n (length a.prefix) && matches a.prefix path) ≡ false)
          → ((best' : Option ℕ) (n' : ℕ) → Best best' n' → Bounded (i + 1) n' → Searched (longest_from path (i + 1) best' n' ps))
          → Searched (longest_from path (i + 1) (choose (ltb n (length a.prefix) && matches a.prefix path) (Some i) best)
          (choose (ltb n (length a.prefix) && matches a.prefix path) (length a.prefix) n) ps)
      go (inl t) r =
          let u : n < length a.prefix = ltb-true n (length a.prefix) (and_left _ _ t) in
          rw t
          (r (Some i) (length a.prefix)
          (best_at i a (record { here = here; matched = and_right (ltb n (length a.prefix)) _ t }))
          (more_used i n c (length a.prefix) (omega arith) a here (λ m. omega arith)))
      go (inr t) r =
          rw t
          (r best n b
          (more_used i n c n (omega arith) a here
          (λ m. ltb-false n (length a.prefix) (refuted _ (λ s. not_both (and_both s m) t)))))

  searched : Searched (longest_match path qs)
  unfolding longest_match Bounded
  searched = search_all 0 None 0 qs refl none (λ j e u m. absurd (omega arith))

  -- what is found is a match, and no other match is longer
  pub record LongestAt (i : ℕ) : Type 0 where
    pub entry : Referral
    pub found : Matches i entry
    pub longest : (j : ℕ) (e : Referral) → Matches j e → length e.prefix ≤ length entry.prefix

  pub longest_found : (i : ℕ) → longest_match path qs ≡ Some i → LongestAt i
  unfolding Bounded
  longest_found i h = go (longest_match path qs) searched.units h searched.best searched.bound
    where
      go : (r : Option ℕ) (n : ℕ) → r ≡ Some i → Best r n → ((j : ℕ) (e : Referral) → j < length qs → Matches j e → length e.prefix ≤ n) → LongestAt i
      go r n e none c = absurd (let z : ◌≡◌ {A = ℕ} 0 1 = cc in omega arith)
      go r n e (best_at b a m) c =
          let same : b ≡ i = cc in
          record {
            entry = a;
            found = subst (λ (x : ℕ). Matches x a) same m;
            longest = λ j x u. c j x (used_inside qs j x u.here) u;
          }

  -- where nothing is found nothing matches, but for an empty prefix, which no good entry has
  pub longest_none : longest_match path qs ≡ None → (j : ℕ) (e : Referral) → Matches j e → length e.prefix ≡ 0
  unfolding Bounded
  longest_none h = go (longest_match path qs) searched.units h searched.best searched.bound
    where
      go : (r : Option ℕ) (n : ℕ) → r ≡ None → Best r n → ((j : ℕ) (e : Referral) → j < length qs → Matches j e → length e.prefix ≤ n)
          → (j : ℕ) (e : Referral) → Matches j e → length e.prefix ≡ 0
      go r n e none c j x u = let v : length x.prefix ≤ 0 = c j x (used_inside qs j x u.here) u in omega arith
      go r n e (best_at b a m) c j x u = absurd (let z : ◌≡◌ {A = ℕ} 0 1 = cc in omega arith)

-- the entry with an equal key
module _ {E : Type 0} (k : Kind E) (name : List ℕ) where
  pub record KeyAt (ps : List (Place E)) (i : ℕ) : Type 0 where
    pub entry : E
    pub here : get_or ps i free ≡ used entry
    pub same : same_name (k.key entry) name ≡ true

  -- it lies where it is found, counted from n
  key_found_from : (ps : List (Place E)) (n i : ℕ) → with_key_from k name n ps ≡ Some i → (n ≤ i) × KeyAt ps (i - n)
  unfolding with_key_from has_key choose
  key_found_from [] n i h = absurd (let z : ◌≡◌ {A = ℕ} 0 1 = cc in omega arith)
  key_found_from (free ∷ ps) n i h =
      let r = key_found_from ps (n + 1) i h in
      let u : n + 1 ≤ i = r.0 in
      let e : i - n ≡ suc (i - (n + 1)) = omega arith in
      (omega arith, record { entry = r.1.entry; here = rw e r.1.here; same = r.1.same })
  key_found_from (used a ∷ ps) n i h = go (told (same_name (k.key a) name)) (key_found_from ps (n + 1) i)
    where
      go : (same_name (k.key a) name ≡ true) ⊎ (same_name (k.key a) name ≡ false)
          → (with_key_from k name (n + 1) ps ≡ Some i → (n + 1 ≤ i) × KeyAt ps (i - (n + 1))) → (n ≤ i) × KeyAt (used a ∷ ps) (i - n)
      go (inl t) f =
          let q : n ≡ i = cc (choose_yes (Some n) (with_key_from k name (n + 1) ps) t) in
          let z : i - n ≡ 0 = omega arith in
          (omega arith, record { entry = a; here = rw z refl; same = t })
      go (inr t) f =
          let r = f (sym (choose_no (Some n) (with_key_from k name (n + 1) ps) t) ∙ h) in
          let u : n + 1 ≤ i = r.0 in
          let e : i - n ≡ suc (i - (n + 1)) = omega arith in
          (omega arith, record { entry = r.1.entry; here = rw e r.1.here; same = r.1.same })

  pub key_found : (ps : List (Place E)) (i : ℕ) → with_key k name ps ≡ Some i → KeyAt ps i
  unfolding with_key
  key_found ps i h = subst (KeyAt ps) (let z : i - 0 ≡ i = omega arith in z) (key_found_from ps 0 i h).1

-- the place that a new entry takes: the lowest free one
pub record FreeAt (ps : List (Place Referral)) (i : ℕ) : Type 0 where
  pub inside : i < length ps
  pub here : get_or ps i free ≡ free
  pub lowest : (j : ℕ) → j < i → get_or ps j free ≡ free → ⊥

free_from : (ps : List (Place Referral)) (n i : ℕ) → first_free_from n ps ≡ Some i → (n ≤ i) × FreeAt ps (i - n)
unfolding first_free_from
free_from [] n i h = absurd (let z : ◌≡◌ {A = ℕ} 0 1 = cc in omega arith)
free_from (free ∷ ps) n i h =
    let q : n ≡ i = cc in
    let z : i - n ≡ 0 = omega arith in
    (omega arith, record { inside = omega arith; here = rw z refl; lowest = λ j u e. omega arith })
free_from (used a ∷ ps) n i h =
    let r = free_from ps (n + 1) i h in
    let u : n + 1 ≤ i = r.0 in
    let v : i - (n + 1) < length ps = r.1.inside in
    let e : i - n ≡ suc (i - (n + 1)) = omega arith in
    (omega arith, record { inside = omega arith; here = rw e r.1.here; lowest = λ j w. below j (omega arith) r.1.lowest })
  where
    below : (j : ℕ) → j < suc (i - (n + 1)) → ((m : ℕ) → m < i - (n + 1) → get_or ps m free ≡ free → ⊥) → get_or (used a ∷ ps) j free ≡ free → ⊥
    below zero w f e = let z : ◌≡◌ {A = ℕ} 0 1 = cc in omega arith
    below (suc j) w f e = f j (omega arith) e

all_used : (ps : List (Place Referral)) (n : ℕ) → first_free_from n ps ≡ None → (j : ℕ) → j < length ps → get_or ps j free ≡ free → ⊥
unfolding first_free_from
all_used [] n h j u e = omega arith
all_used (free ∷ ps) n h j u e = let z : ◌≡◌ {A = ℕ} 0 1 = cc in omega arith
all_used (used a ∷ ps) n h zero u e = let z : ◌≡◌ {A = ℕ} 0 1 = cc in omega arith
all_used (used a ∷ ps) n h (suc j) u e = all_used ps (n + 1) h j (omega arith) e

-- else the lowest of greatest age
module _ (clock : ℕ) (qs : List (Place Referral)) where
  age_of : ℕ → ℕ
  age_of j = place_age clock (get_or qs j free)

  -- of the first i places, `best` is the lowest of greatest age n
  record Eldest (i best n : ℕ) : Type 0 where
    start : i ≡ 0 → (best ≡ 0) × (n ≡ 0)
    within : 0 < i → (best < i) × (age_of best ≡ n)
    most : (j : ℕ) → j < i → age_of j ≤ n
    first : (j : ℕ) → j < best → age_of j < n

  -- one place more, older than all before it or not
  older : (i best n : ℕ) → Eldest i best n → n < age_of i → Eldest (i + 1) i (age_of i)
  older i best n e u = record {
    start = λ z. absurd (omega arith);
    within = λ z. (omega arith, refl);
    most = λ j v. at j v (eq_or_ne j i);
    first = λ j v. let w : age_of j ≤ n = e.most j v in omega arith;
  }
    where
      at : (j : ℕ) → j < i + 1 → (j ≡ i) ⊎ (j ≡ i → ⊥) → age_of j ≤ age_of i
      at j v (inl q) = rw q (omega arith)
      at j v (inr q) = let w : age_of j ≤ n = e.most j (omega arith) in omega arith

  no_older : (i best n : ℕ) → Eldest i best n → age_of i ≤ n → Eldest (i + 1) best n
  no_older i best n e u = record {
    start = λ z. absurd (omega arith);
    within = λ z. go (eq_or_ne i 0);
    most = λ j v. at j v (eq_or_ne j i);
    first = e.first;
  }
    where
      go : (i ≡ 0) ⊎ (i ≡ 0 → ⊥) → (best < i + 1) × (age_of best ≡ n)
      go (inl z) =
          let b : best ≡ 0 = (e.start z).0 in
          let m : n ≡ 0 = (e.start z).1 in
          let q : age_of best ≡ age_of i = ap age_of (b ∙ sym z) in
          (omega arith, omega arith)
      go (inr z) =
          let w : 0 < i = omega arith in
          let b : best < i = (e.within w).0 in
          (omega arith, (e.within w).1)

      at : (j : ℕ) → j < i + 1 → (j ≡ i) ⊎ (j ≡ i → ⊥) → age_of j ≤ n
      at j v (inl q) = rw q u
      at j v (inr q) = e.most j (omega arith)

  eldest_all : (i best n : ℕ) (ps : List (Place Referral)) → ps ≡ drop i qs → i ≤ length qs → Eldest i best n
      → (m : ℕ) × Eldest (length qs) (oldest_from clock i best n ps) m
  unfolding oldest_from
  eldest_all i best n [] h l e =
      let v : length qs ≤ i = rest_none qs i h in
      (n, subst (λ (x : ℕ). Eldest x best n) (let z : i ≡ length qs = omega arith in z) e)
  eldest_all i best n (p ∷ ps) h l e =
      go (told (ltb n (place_age clock p))) (λ b m x. eldest_all (i + 1) b m ps (rest_rest qs i p ps h) (let u : i < length qs = rest_inside qs i p ps h in omega arith) x)
    where
      here : age_of i ≡ place_age clock p
      here = unfold age_of in ap (place_age clock) (rest_first qs i p ps free h)

      go : (ltb n (place_age clock p) ≡ true) ⊎ (ltb n (place_age clock p) ≡ false)
          → ((b m : ℕ) → Eldest (i + 1) b m → (x : ℕ) × Eldest (length qs) (oldest_from clock (i + 1) b m ps) x)
          → (x : ℕ) × Eldest (length qs) (oldest_from clock (i + 1) (choose (ltb n (place_age clock p)) i best) (choose (ltb n (place_age clock p)) (place_age clock p) n) ps) x
      go (inl t) r =
          let u : n < place_age clock p = ltb-true n (place_age clock p) t in
          rw (choose_yes i best t, choose_yes (place_age clock p) n t) (r i (place_age clock p) (subst (Eldest (i + 1) i) here (older i best n e (omega (arith, here)))))
      go (inr t) r =
          let u : place_age clock p ≤ n = ltb-false n (place_age clock p) t in
          rw (choose_no i best t, choose_no (place_age clock p) n t) (r best n (no_older i best n e (omega (arith, here))))

  -- no free place: the entry of greatest age, the lowest place among equals
  pub record OldestAt (i : ℕ) : Type 0 where
    pub inside : i < length qs
    pub oldest : (j : ℕ) → j < length qs → place_age clock (get_or qs j free) ≤ place_age clock (get_or qs i free)
    pub lowest : (j : ℕ) → j < i → place_age clock (get_or qs j free) < place_age clock (get_or qs i free)

  oldest_is : 0 < length qs → OldestAt (oldest clock qs)
  unfolding oldest age_of
  oldest_is h =
      let r = eldest_all 0 0 0 qs refl (omega arith) (record {
        start = λ z. (refl, refl);
        within = λ z. absurd (omega arith);
        most = λ j u. absurd (omega arith);
        first = λ j u. absurd (omega arith);
      }) in
      let e : age_of (oldest clock qs) ≡ r.0 = (r.1.within h).1 in
      record {
        inside = (r.1.within h).0;
        oldest = λ j u. let v : age_of j ≤ r.0 = r.1.most j u in omega arith;
        lowest = λ j u. let v : age_of j < r.0 = r.1.first j u in omega arith;
      }

  -- the place of a new entry
  pub data NewAt (i : ℕ) : Type 0 where
    on_free : FreeAt qs i → NewAt i
    on_oldest : ((j : ℕ) → j < length qs → get_or qs j free ≡ free → ⊥) → OldestAt i → NewAt i

  pub new_place_lem : 0 < length qs → NewAt (new_place clock qs)
  unfolding new_place found_or
  new_place_lem h = go (first_free_from 0 qs) refl
    where
      go : (f : Option ℕ) → first_free_from 0 qs ≡ f → NewAt (found_or (oldest clock qs) f)
      go (Some i) e = on_free (subst (FreeAt qs) (let z : i - 0 ≡ i = omega arith in z) (free_from qs 0 i e).1)
      go None e = on_oldest (all_used qs 0 e) (oldest_is h)

  pub new_inside : 0 < length qs → new_place clock qs < length qs
  new_inside h = go (new_place_lem h)
    where
      go : NewAt (new_place clock qs) → new_place clock qs < length qs
      go (on_free f) = f.inside
      go (on_oldest u o) = o.inside
