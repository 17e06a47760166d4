-- Laws of the loops that find an entry: what is left to look at, and what is found.
use Rattle.std.specs.Prelude.{Option, Some, None}
use Rattle.std.proofs.Common.{◌≡◌, ℕ, ◌+◌, ◌<◌, ◌≤◌, min, Bool, true, false, ◌&&◌, eqb, ltb, ◌⊎◌, List, [], ◌∷◌, map, length, get_or, take, drop, sym, refl, ap, ◌∙◌, inl, inr, add-one, arith, length-take, get_or-take, ltb-false, ltb-true, le-ltb, lt-ltb, eqb-true}
use Rattle.laws.specs.Choice.{choose}
use Rattle.laws.specs.Listed.{listed}
use Rattle.laws.proofs.Choices.{choose_yes, choose_no, and_left, and_no_right}
use Rattle.laws.proofs.Orders.{told, lt_or_le}
use Rattle.laws.proofs.Listed.{drop_listed, drop_listed_end, map_listed}
use Rattle.unc.specs.names.Names.{same_unit}
use Rattle.unc.specs.names.Code.{SameWithin}
use Rattle.unc.specs.names.Paths.{matches}
use Rattle.unc.proofs.names.WithinLaws.{same_name_at}
use Rattle.unc.proofs.names.MatchLaws.{matches_longer, matches_same, matches_within}
use Rattle.cache.specs.places.Layout.{place_count, place_at, unit_at, room_at, text_at}
use Rattle.cache.proofs.places.LayoutLaws.{length_room}
use Rattle.cache.specs.order.Memory.{Kind, referrals, domains, referral_of, place_of, decode}
use Rattle.cache_lookup.specs.Lookup.{longer_match, prefix_units, longest_from, longest_match, has_key, with_key_from, with_key}
use Rattle.cache_lookup.specs.Code.{key_is, key_place_from, key_place}
use Rattle.cache.proofs.order.MemoryLaws.{Lawful, place_free, place_used, drop_decode, drop_decode_end}
use Rattle.cache.proofs.order.KindLaws.{referrals_lawful, domains_lawful}
use Rattle.cache.proofs.order.TestLaws.{text_none}

-- lengths first
shorter : (prefix path : List ℕ) (n : ℕ) → length prefix ≤ n → false ≡ (ltb n (length prefix) && matches prefix path)
shorter prefix path n h = rw (le-ltb n (length prefix) h)

longer : (prefix path : List ℕ) (n : ℕ) {r : Bool} → n < length prefix → r ≡ matches prefix path → r ≡ (ltb n (length prefix) && matches prefix path)
longer prefix path n h e = rw (lt-ltb n (length prefix) h) e

-- a place, by its key
module _ (p : List ℕ) where
  longer_place : (path : List ℕ) (n : ℕ) → longer_match path n (place_of referrals p) ≡ (ltb n (length (text_at 0 p)) && matches (text_at 0 p) path)
  unfolding longer_match referral_of
  longer_place path n = go (told (eqb (unit_at 0 p) 0))
    where
      go : (eqb (unit_at 0 p) 0 ≡ true) ⊎ (eqb (unit_at 0 p) 0 ≡ false)
          → longer_match path n (place_of referrals p) ≡ (ltb n (length (text_at 0 p)) && matches (text_at 0 p) path)
      go (inl h) = rw (place_free referrals p (eqb-true (unit_at 0 p) 0 h), text_none referrals referrals_lawful p h) (shorter [] path n (omega arith))
      go (inr h) = rw (place_used referrals p h)

  units_place : prefix_units (place_of referrals p) ≡ length (text_at 0 p)
  unfolding prefix_units referral_of
  units_place = go (told (eqb (unit_at 0 p) 0))
    where
      go : (eqb (unit_at 0 p) 0 ≡ true) ⊎ (eqb (unit_at 0 p) 0 ≡ false) → prefix_units (place_of referrals p) ≡ length (text_at 0 p)
      go (inl h) = rw (place_free referrals p (eqb-true (unit_at 0 p) 0 h), text_none referrals referrals_lawful p h)
      go (inr h) = rw (place_used referrals p h)

  -- the test of a place, by its key
  module _ (path : List ℕ) (n : ℕ) where
    pub place_shorter : {key : List ℕ} → key ≡ text_at 0 p → length key ≤ n → false ≡ longer_match path n (place_of referrals p)
    place_shorter e h = shorter (text_at 0 p) path n (rw (← e) h) ∙ sym (longer_place path n)

    pub place_longer : {key : List ℕ} {r : Bool} → key ≡ text_at 0 p → n < length key → r ≡ matches key path → r ≡ longer_match path n (place_of referrals p)
    place_longer e h f = longer (text_at 0 p) path n (rw (← e) h) (f ∙ ap (λ (t : List ℕ). matches t path) e) ∙ sym (longer_place path n)

    pub place_unmatched : {key : List ℕ} → key ≡ text_at 0 p → matches key path ≡ false → false ≡ longer_match path n (place_of referrals p)
    place_unmatched e h = sym (longer_place path n ∙ and_no_right (ltb n (length (text_at 0 p))) (ap (λ (t : List ℕ). matches t path) (sym e) ∙ h))

    pub longer_units : longer_match path n (place_of referrals p) ≡ true → n < length (text_at 0 p)
    longer_units h = ltb-true n (length (text_at 0 p)) (and_left _ _ (sym (longer_place path n) ∙ h))

    -- what is no match of more than m units is none of more than n
    pub place_unlike : {m : ℕ} → longer_match path m (place_of referrals p) ≡ false → m ≤ n → false ≡ longer_match path n (place_of referrals p)
    place_unlike {m} h le = go (lt_or_le n (length (text_at 0 p)))
      where
        go : (n < length (text_at 0 p)) ⊎ (length (text_at 0 p) ≤ n) → false ≡ longer_match path n (place_of referrals p)
        go (inl l) = longer (text_at 0 p) path n l (sym (longer (text_at 0 p) path m (omega arith) refl ∙ (sym (longer_place path m) ∙ h))) ∙ sym (longer_place path n)
        go (inr l) = place_shorter refl l

    -- none has more units than the path
    pub no_longer : length path ≤ n → longer_match path n (place_of referrals p) ≡ false
    no_longer le = go (lt_or_le n (length (text_at 0 p)))
      where
        go : (n < length (text_at 0 p)) ⊎ (length (text_at 0 p) ≤ n) → longer_match path n (place_of referrals p) ≡ false
        go (inl l) = longer_place path n ∙ and_no_right (ltb n (length (text_at 0 p))) (matches_longer (text_at 0 p) path (omega arith))
        go (inr l) = sym (place_shorter refl l)

-- a prefix whose units are not the first ones of the path
module _ (raw path : List ℕ) (i : ℕ) (fits : i < place_count raw) where
  abbrev prefix : List ℕ
  prefix = text_at 0 (place_at i raw)

  text_units : length prefix ≡ min (unit_at 0 (place_at i raw)) 256
  unfolding text_at
  text_units = length-take (unit_at 0 (place_at i raw)) (room_at 0 (place_at i raw)) ∙ ap (min (unit_at 0 (place_at i raw))) (length_room raw i fits 0 (omega arith))

  -- a free place
  pub units_none : {u : ℕ} → u ≡ unit_at 0 (place_at i raw) → ltb 0 u ≡ false → longer_match path 0 (place_of referrals (place_at i raw)) ≡ false
  units_none {u} e h = sym (place_shorter (place_at i raw) path 0 refl (omega (arith, text_units, ltb-false 0 u h)))

  module _ {u : ℕ} {room : List ℕ} (eu : u ≡ unit_at 0 (place_at i raw)) (er : room ≡ room_at 0 (place_at i raw)) where
    text_unit : (k : ℕ) → k < u → get_or prefix k 0 ≡ get_or room k 0
    unfolding text_at
    text_unit k h = get_or-take (unit_at 0 (place_at i raw)) (room_at 0 (place_at i raw)) k 0 (omega arith) ∙ ap (λ (t : List ℕ). get_or t k 0) (sym er)

    first_units : matches prefix path ≡ true → SameWithin room path 0 (length prefix)
    first_units h = record { at = at }
      where
        at : (k : ℕ) → 0 ≤ k → k < length prefix → same_unit (get_or room k 0) (get_or path k 0) ≡ true
        at k _ v =
            let z = text_units in
            rw (← text_unit k (omega arith), ← get_or-take (length prefix) path k 0 v) (same_name_at prefix (take (length prefix) path) (matches_same prefix path h) k v)

    -- a prefix that has no more units than the path, and not its first ones
    pub units_unlike : (length prefix ≡ min u 256 → length prefix ≤ length path → SameWithin room path 0 (length prefix) → ⊥)
        → longer_match path 0 (place_of referrals (place_at i raw)) ≡ false
    units_unlike unlike = longer_place (place_at i raw) path 0 ∙ go (told (matches prefix path))
      where
        go : (matches prefix path ≡ true) ⊎ (matches prefix path ≡ false) → (ltb 0 (length prefix) && matches prefix path) ≡ false
        go (inl matched) = absurd (unlike (rw eu text_units) (matches_within prefix path matched) (first_units matched))
        go (inr unmatched) = and_no_right (ltb 0 (length prefix)) unmatched

-- the loop that finds the longest match
module _ (raw path : List ℕ) (i : ℕ) (best : Option ℕ) (n : ℕ) where
  -- one place more
  find_step : i < place_count raw → longest_from path i best n (drop i (decode referrals raw))
      ≡ longest_from path (i + 1) (choose (longer_match path n (place_of referrals (place_at i raw))) (Some i) best)
      (choose (longer_match path n (place_of referrals (place_at i raw))) (prefix_units (place_of referrals (place_at i raw))) n) (drop (i + 1) (decode referrals raw))
  unfolding longest_from
  find_step u =
      ap (longest_from path i best n) (drop_decode referrals raw i u)
      ∙ ap (λ (k : ℕ). longest_from path (i + 1) (choose (longer_match path n (place_of referrals (place_at i raw))) (Some i) best)
      (choose (longer_match path n (place_of referrals (place_at i raw))) (prefix_units (place_of referrals (place_at i raw))) n) (drop k (decode referrals raw)))
      (sym (add-one i))

  -- the best and its units after that
  module _ {best' : Option ℕ} {n' : ℕ} {r : Bool} (e : r ≡ longer_match path n (place_of referrals (place_at i raw))) where
    pub find_hit : {key : List ℕ} → r ≡ true → best' ≡ Some i → key ≡ text_at 0 (place_at i raw) → n' ≡ length key → i < place_count raw
        → longest_from path i best n (drop i (decode referrals raw)) ≡ longest_from path (i + 1) best' n' (drop (i + 1) (decode referrals raw))
    find_hit h p k q u =
        let l : prefix_units (place_of referrals (place_at i raw)) ≡ n' = units_place (place_at i raw) ∙ (ap length (sym k) ∙ sym q) in
        find_step u
        ∙ (λ j. longest_from path (i + 1) ((choose_yes (Some i) best (sym e ∙ h) ∙ sym p) j)
        ((choose_yes (prefix_units (place_of referrals (place_at i raw))) n (sym e ∙ h) ∙ l) j) (drop (i + 1) (decode referrals raw)))

    pub find_miss : r ≡ false → best' ≡ best → n' ≡ n → i < place_count raw
        → longest_from path i best n (drop i (decode referrals raw)) ≡ longest_from path (i + 1) best' n' (drop (i + 1) (decode referrals raw))
    find_miss h p q u =
        find_step u
        ∙ (λ j. longest_from path (i + 1) ((choose_no (Some i) best (sym e ∙ h) ∙ sym p) j)
        ((choose_no (prefix_units (place_of referrals (place_at i raw))) n (sym e ∙ h) ∙ sym q) j) (drop (i + 1) (decode referrals raw)))

  pub find_end : place_count raw ≤ i → longest_from path i best n (drop i (decode referrals raw)) ≡ best
  unfolding longest_from
  find_end h = rw (drop_decode_end referrals raw i h)

pub find_start : (raw path : List ℕ) → longest_match path (decode referrals raw) ≡ longest_from path 0 None 0 (drop 0 (decode referrals raw))
unfolding longest_match
find_start raw path = refl

-- the loop that finds an equal key
pub key_from : List ℕ → List ℕ → ℕ → Option ℕ
key_from name raw i = key_place_from name i (drop i (listed (place_count raw) (λ k. place_at k raw)))

module _ (name raw : List ℕ) where
  pub key_start : key_place name raw ≡ key_from name raw 0
  unfolding key_place key_from
  key_start = refl

  module _ (i : ℕ) where
    pub key_hit : {r : Bool} → r ≡ key_is name (place_at i raw) → r ≡ true → i < place_count raw → key_from name raw i ≡ Some i
    unfolding key_from key_place_from
    key_hit e h u = rw (drop_listed (place_count raw) (λ k. place_at k raw) i u) (choose_yes (Some i) _ (sym e ∙ h))

    pub key_miss : {r : Bool} → r ≡ key_is name (place_at i raw) → r ≡ false → i < place_count raw → key_from name raw i ≡ key_from name raw (i + 1)
    unfolding key_from key_place_from
    key_miss e h u = rw (drop_listed (place_count raw) (λ k. place_at k raw) i u, add-one i) (choose_no (Some i) _ (sym e ∙ h))

    pub key_end : place_count raw ≤ i → key_from name raw i ≡ None
    unfolding key_from key_place_from
    key_end h = rw (drop_listed_end (place_count raw) (λ k. place_at k raw) i h)

-- it is the entry's key that is found
module _ {E : Type 0} (k : Kind E) (law : Lawful k) (name : List ℕ) where
  has_key_lem : (p : List ℕ) → key_is name p ≡ has_key k name (place_of k p)
  unfolding key_is has_key
  has_key_lem p = go (told (eqb (unit_at 0 p) 0))
    where
      go : (eqb (unit_at 0 p) 0 ≡ true) ⊎ (eqb (unit_at 0 p) 0 ≡ false) → key_is name p ≡ has_key k name (place_of k p)
      go (inl h) = rw (place_free k p (eqb-true (unit_at 0 p) 0 h), h)
      go (inr h) = rw (place_used k p h, h, law.first p)

  has_keys : (i : ℕ) (ps : List (List ℕ)) → key_place_from name i ps ≡ with_key_from k name i (map (place_of k) ps)
  unfolding key_place_from with_key_from
  has_keys i [] = refl
  has_keys i (p ∷ ps) = λ j. choose (has_key_lem p j) (Some i) (has_keys (i + 1) ps j)

  key_of : (raw : List ℕ) → key_place name raw ≡ with_key k name (decode k raw)
  unfolding key_place with_key decode
  key_of raw = has_keys 0 (listed (place_count raw) (λ i. place_at i raw)) ∙ ap (with_key_from k name 0) (map_listed (place_of k) (place_count raw) (λ i. place_at i raw))

pub key_referral : (name raw : List ℕ) {r : Option ℕ} → r ≡ key_place name raw → r ≡ with_key referrals name (decode referrals raw)
key_referral name raw e = e ∙ key_of referrals referrals_lawful name raw

pub key_domain : (name raw : List ℕ) {r : Option ℕ} → r ≡ key_place name raw → r ≡ with_key domains name (decode domains raw)
key_domain name raw e = e ∙ key_of domains domains_lawful name raw
