-- Laws of an entry changed by its key: it is the one at the place that is found; its key, and all else, stay.
use Rattle.std.specs.Prelude.{Some, None}
use Rattle.std.proofs.Common.{◌≡◌, ℕ, zero, suc, ◌+◌, ◌-◌, ◌≤◌, true, false, ◌⊎◌, List, [], ◌∷◌, length, get_or, set, sym, refl, ap, ◌∙◌, inl, inr, arith}
use Rattle.laws.specs.Choice.{choose}
use Rattle.laws.proofs.Choices.{choose_yes, choose_no}
use Rattle.laws.proofs.Orders.{told}
use Rattle.unc.specs.names.Names.{same_name}
use Rattle.cache.specs.order.Entries.{Referral, Domain, Place, free, used}
use Rattle.cache.specs.order.Memory.{Kind, referrals, domains, keys}
use Rattle.cache_lookup.specs.Lookup.{has_key, with_key_from, with_key, on_entry, target_hint_to, dc_hint_to, target_hinted, dc_hinted}
use Rattle.cache_lookup.specs.Code.{on_key}

module _ {E : Type 0} (k : Kind E) (name : List ℕ) (f : E → E) where
  -- the entry is found at i, counted from n
  on_from : (ps : List (Place E)) (n i : ℕ) → with_key_from k name n ps ≡ Some i
      → (n ≤ i) × (on_key k name f ps ≡ set ps (i - n) (on_entry f (get_or ps (i - n) free)))
  unfolding with_key_from on_key
  on_from [] n i h = absurd (let z : ◌≡◌ {A = ℕ} 0 1 = cc in omega arith)
  on_from (p ∷ ps) n i h = go (told (has_key k name p)) (on_from ps (n + 1) i)
    where
      go : (has_key k name p ≡ true) ⊎ (has_key k name p ≡ false)
          → (with_key_from k name (n + 1) ps ≡ Some i
          → (n + 1 ≤ i) × (on_key k name f ps ≡ set ps (i - (n + 1)) (on_entry f (get_or ps (i - (n + 1)) free))))
          → (n ≤ i)
          × (choose (has_key k name p) (on_entry f p ∷ ps) (p ∷ on_key k name f ps)
          ≡ set (p ∷ ps) (i - n) (on_entry f (get_or (p ∷ ps) (i - n) free)))
      go (inl t) r =
          let q : n ≡ i = cc (choose_yes (Some n) (with_key_from k name (n + 1) ps) t) in
          let z : i - n ≡ 0 = omega arith in
          (omega arith, rw z (choose_yes (on_entry f p ∷ ps) (p ∷ on_key k name f ps) t))
      go (inr t) r =
          let x = r (sym (choose_no (Some n) (with_key_from k name (n + 1) ps) t) ∙ h) in
          let u : n + 1 ≤ i = x.0 in
          let e : i - n ≡ suc (i - (n + 1)) = omega arith in
          (omega arith, rw e (choose_no (on_entry f p ∷ ps) (p ∷ on_key k name f ps) t ∙ ap (λ (l : List (Place E)). p ∷ l) x.1))

  -- by key is by place
  pub on_at : (ps : List (Place E)) (i : ℕ) → with_key k name ps ≡ Some i → on_key k name f ps ≡ set ps i (on_entry f (get_or ps i free))
  unfolding with_key
  on_at ps i h =
      let z : i - 0 ≡ i = omega arith in
      (on_from ps 0 i h).1 ∙ ap (λ (j : ℕ). set ps j (on_entry f (get_or ps j free))) z

  -- where there is no such entry nothing changes
  none_from : (ps : List (Place E)) (n : ℕ) → with_key_from k name n ps ≡ None → on_key k name f ps ≡ ps
  unfolding with_key_from on_key
  none_from [] n h = refl
  none_from (p ∷ ps) n h = go (told (has_key k name p)) (none_from ps (n + 1))
    where
      go : (has_key k name p ≡ true) ⊎ (has_key k name p ≡ false) → (with_key_from k name (n + 1) ps ≡ None → on_key k name f ps ≡ ps)
          → choose (has_key k name p) (on_entry f p ∷ ps) (p ∷ on_key k name f ps) ≡ p ∷ ps
      go (inl t) r = absurd (let z : ◌≡◌ {A = ℕ} 0 1 = cc (choose_yes (Some n) (with_key_from k name (n + 1) ps) t) in omega arith)
      go (inr t) r =
          choose_no (on_entry f p ∷ ps) (p ∷ on_key k name f ps) t
          ∙ ap (λ (l : List (Place E)). p ∷ l) (r (sym (choose_no (Some n) (with_key_from k name (n + 1) ps) t) ∙ h))

  pub on_none : (ps : List (Place E)) → with_key k name ps ≡ None → on_key k name f ps ≡ ps
  unfolding with_key
  on_none ps h = none_from ps 0 h

  -- there are as many places
  pub on_length : (ps : List (Place E)) → length (on_key k name f ps) ≡ length ps
  unfolding on_key
  on_length [] = refl
  on_length (p ∷ ps) = go (told (has_key k name p)) (on_length ps)
    where
      go : (has_key k name p ≡ true) ⊎ (has_key k name p ≡ false) → length (on_key k name f ps) ≡ length ps
          → length (choose (has_key k name p) (on_entry f p ∷ ps) (p ∷ on_key k name f ps)) ≡ suc (length ps)
      go (inl t) r = ap length (choose_yes (on_entry f p ∷ ps) (p ∷ on_key k name f ps) t)
      go (inr t) r = ap length (choose_no (on_entry f p ∷ ps) (p ∷ on_key k name f ps) t) ∙ ap suc r

  -- the keys stay, in their places
  pub on_keys : ((e : E) → k.key (f e) ≡ k.key e) → (ps : List (Place E)) → keys k (on_key k name f ps) ≡ keys k ps
  unfolding on_key keys has_key on_entry
  on_keys q [] = refl
  on_keys q (free ∷ ps) = ap (keys k) (choose_no (free ∷ ps) (free ∷ on_key k name f ps) refl) ∙ on_keys q ps
  on_keys q (used a ∷ ps) = go (told (same_name (k.key a) name)) (on_keys q ps)
    where
      go : (same_name (k.key a) name ≡ true) ⊎ (same_name (k.key a) name ≡ false) → keys k (on_key k name f ps) ≡ keys k ps
          → keys k (choose (same_name (k.key a) name) (used (f a) ∷ ps) (used a ∷ on_key k name f ps)) ≡ k.key a ∷ keys k ps
      go (inl t) r = ap (keys k) (choose_yes (used (f a) ∷ ps) (used a ∷ on_key k name f ps) t) ∙ ap (λ (x : List ℕ). x ∷ keys k ps) (q a)
      go (inr t) r = ap (keys k) (choose_no (used (f a) ∷ ps) (used a ∷ on_key k name f ps) t) ∙ ap (λ (l : List (List ℕ)). k.key a ∷ l) r

  -- every place with another key, or with none, stays as it was
  pub on_other : (ps : List (Place E)) (j : ℕ) → has_key k name (get_or ps j free) ≡ false → get_or (on_key k name f ps) j free ≡ get_or ps j free
  unfolding on_key
  on_other [] j h = refl
  on_other (p ∷ ps) j h = go (told (has_key k name p)) j h (on_other ps)
    where
      go : (has_key k name p ≡ true) ⊎ (has_key k name p ≡ false) → (j : ℕ) → has_key k name (get_or (p ∷ ps) j free) ≡ false
          → ((m : ℕ) → has_key k name (get_or ps m free) ≡ false → get_or (on_key k name f ps) m free ≡ get_or ps m free)
          → get_or (choose (has_key k name p) (on_entry f p ∷ ps) (p ∷ on_key k name f ps)) j free ≡ get_or (p ∷ ps) j free
      go (inl t) zero h r = absurd (let z : ◌≡◌ {A = ℕ} 0 1 = cc in omega arith)
      go (inl t) (suc m) h r = ap (λ (l : List (Place E)). get_or l (suc m) free) (choose_yes (on_entry f p ∷ ps) (p ∷ on_key k name f ps) t)
      go (inr t) zero h r = ap (λ (l : List (Place E)). get_or l 0 free) (choose_no (on_entry f p ∷ ps) (p ∷ on_key k name f ps) t)
      go (inr t) (suc m) h r = ap (λ (l : List (Place E)). get_or l (suc m) free) (choose_no (on_entry f p ∷ ps) (p ∷ on_key k name f ps) t) ∙ r m h

-- the hints, by key and by place
pub target_hinted_key : (prefix : List ℕ) (h : ℕ) (ps : List (Place Referral)) (i : ℕ) → with_key referrals prefix ps ≡ Some i
    → on_key referrals prefix (target_hint_to h) ps ≡ target_hinted i h ps
unfolding target_hinted
target_hinted_key prefix h ps i e = on_at referrals prefix (target_hint_to h) ps i e

pub dc_hinted_key : (name : List ℕ) (h : ℕ) (ps : List (Place Domain)) (i : ℕ) → with_key domains name ps ≡ Some i
    → on_key domains name (dc_hint_to h) ps ≡ dc_hinted i h ps
unfolding dc_hinted
dc_hinted_key name h ps i e = on_at domains name (dc_hint_to h) ps i e
