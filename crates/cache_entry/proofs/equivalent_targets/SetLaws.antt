-- Laws of target sets: where a set ends, the first set of a list and those after it, and the comparison set by set.
use mathlib.Core.Path.{◌≡◌, refl, sym, ap, ◌∙◌}
use mathlib.Core.Bool.{Bool, true, false, ◌&&◌}
use mathlib.Core.List.{List, [], ◌∷◌, map, map-map}
use mathlib.Core.Logic.{◌⊎◌, inl, inr}
use Prim.Native.Nat.{ℕ, suc, ◌+◌, ◌-◌, ◌≤◌, ◌<◌}
use native.Mathlib.Numerals.{add-one}
use native.Mathlib.Omega.{arith}
use lib.Dec.{leb}
use lib.ListN.{length, get_or, take, drop, length-map, drop_of_length-le}
use lib.Seq.{drop-cons, drop-drop}
use borrow.Author.Tests.{eq-eqb, ne_eqb, le-leb, lt-leb}
use Rattle.laws.specs.Choice.{choose}
use Rattle.laws.specs.Lists.{part}
use Rattle.laws.specs.Listed.{listed}
use Rattle.laws.proofs.Choices.{choose_yes, choose_no, and_no_left}
use Rattle.laws.proofs.Maps.{map_drop, map_part}
use Rattle.laws.proofs.Orders.{told, lt_or_le}
use Rattle.laws.proofs.Parts.{part_cons, part_whole}
use Rattle.laws.proofs.Listed.{get_d_map, length_listed, get_d_listed, map_listed}
use Rattle.reply_read.specs.referral.Code.{target_shown}
use Rattle.reply_read.specs.declared.referral.Kept.{Kept}
use Rattle.cache.specs.places.Layout.{place_at, unit_at, flag_at, list_count, mark_units}
use Rattle.unc.specs.names.Paths.{Target}
use Rattle.cache.specs.order.Memory.{referral_of, target_of}
use Rattle.cache_lookup.specs.Code.{entry_at}
use Rattle.cache_entry.specs.equivalent_targets.Equivalence.{same_targets, paths, join_set, next_opens, sets, same_sets, equivalent}
use Rattle.cache_entry.specs.equivalent_targets.Code.{held_targets, given_path, boundaries, given_boundaries, before_boundary, set_end}

length_paths : (ts : List Target) → length (paths ts) ≡ length ts
unfolding paths
length_paths ts = length-map ts (λ t. t.path)

-- a target for a place that has none
abbrev none : Target
none = record { path = []; opens = false }

-- where the set ends, the boundaries before place e passed
abbrev pub end_from : ℕ → List Bool → ℕ
end_from e bs = e + before_boundary (drop e bs)

pub end_start : (a : ℕ) (bs : List Bool) → set_end a bs ≡ end_from (a + 1) bs
unfolding set_end
end_start a bs = refl

module _ (bs : List Bool) (e : ℕ) where
  end_at_lem : e < length bs → end_from e bs ≡ e + choose (get_or bs e false) 0 (suc (before_boundary (drop (suc e) bs)))
  unfolding before_boundary
  end_at_lem h = rw (drop-cons bs e false h)

  end_stop : e < length bs → get_or bs e false ≡ true → end_from e bs ≡ e
  end_stop h k = end_at_lem h ∙ (ap (λ (n : ℕ). e + n) (choose_yes 0 _ k) ∙ omega arith)

  end_more : e < length bs → get_or bs e false ≡ false → end_from e bs ≡ end_from (e + 1) bs
  end_more h k = end_at_lem h ∙ (ap (λ (n : ℕ). e + n) (choose_no 0 _ k) ∙ rw (add-one e) (omega arith))

  end_last : length bs ≤ e → end_from e bs ≡ e
  unfolding before_boundary
  end_last h = rw (drop_of_length-le bs h) (omega arith)

-- the boundaries of an entry's targets
held_boundaries : (raw : List ℕ) (i : ℕ) → boundaries (held_targets i raw) ≡ listed (list_count (place_at i raw)) (λ j. flag_at (mark_units + j) (place_at i raw))
unfolding boundaries held_targets entry_at referral_of target_of
held_boundaries raw i = map_listed (λ t. t.opens) (list_count (place_at i raw)) (λ j. target_of j (place_at i raw))

module _ (raw : List ℕ) (i : ℕ) where
  held_long : length (boundaries (held_targets i raw)) ≡ list_count (place_at i raw)
  held_long = ap length (held_boundaries raw i) ∙ length_listed (list_count (place_at i raw)) (λ j. flag_at (mark_units + j) (place_at i raw))

  module _ (e : ℕ) where
    held_opens : e < list_count (place_at i raw) → get_or (boundaries (held_targets i raw)) e false ≡ flag_at (mark_units + e) (place_at i raw)
    held_opens h =
        ap (λ (l : List Bool). get_or l e false) (held_boundaries raw i)
        ∙ get_d_listed (list_count (place_at i raw)) (λ j. flag_at (mark_units + j) (place_at i raw)) e false h

    pub held_stop : {u : ℕ} → u ≡ unit_at (mark_units + e) (place_at i raw) → u ≡ 1 → e < list_count (place_at i raw) → end_from e (boundaries (held_targets i raw)) ≡ e
    unfolding flag_at
    held_stop is k h = end_stop (boundaries (held_targets i raw)) e (omega (arith, held_long)) (held_opens h ∙ eq-eqb _ _ (sym is ∙ k))

    pub held_more : {u : ℕ} → u ≡ unit_at (mark_units + e) (place_at i raw) → (u ≡ 1 → ⊥) → e < list_count (place_at i raw)
        → end_from e (boundaries (held_targets i raw)) ≡ end_from (e + 1) (boundaries (held_targets i raw))
    unfolding flag_at
    held_more is k h = end_more (boundaries (held_targets i raw)) e (omega (arith, held_long)) (held_opens h ∙ ne_eqb _ _ (λ q. k (is ∙ q)))

    pub held_last : list_count (place_at i raw) ≤ e → end_from e (boundaries (held_targets i raw)) ≡ e
    held_last h = end_last (boundaries (held_targets i raw)) e (omega (arith, held_long))

-- the boundaries of the kept targets of a reply
module _ (ks : List Kept) where
  given_long : length (given_boundaries ks) ≡ length ks
  unfolding given_boundaries
  given_long = length-map ks (λ k. k.opens)

  module _ (e : ℕ) where
    given_opens : (z : Kept) → e < length ks → get_or (given_boundaries ks) e false ≡ (get_or ks e z).opens
    unfolding given_boundaries
    given_opens z h = get_d_map (λ (k : Kept). k.opens) ks e z false h

    pub given_stop : (z : Kept) → (get_or ks e z).opens ≡ true → e < length ks → end_from e (given_boundaries ks) ≡ e
    given_stop z k h = end_stop (given_boundaries ks) e (omega (arith, given_long)) (given_opens z h ∙ k)

    pub given_more : (z : Kept) → (get_or ks e z).opens ≡ false → e < length ks → end_from e (given_boundaries ks) ≡ end_from (e + 1) (given_boundaries ks)
    given_more z k h = end_more (given_boundaries ks) e (omega (arith, given_long)) (given_opens z h ∙ k)

    pub given_last : length ks ≤ e → end_from e (given_boundaries ks) ≡ e
    given_last h = end_last (given_boundaries ks) e (omega (arith, given_long))

-- the first set of a list, and the sets of the rest
sets_first : (t : Target) (ts : List Target)
    → sets (t ∷ ts) ≡ (t.path ∷ paths (take (before_boundary (boundaries ts)) ts)) ∷ sets (drop (before_boundary (boundaries ts)) ts)
unfolding sets next_opens join_set boundaries before_boundary paths choose
sets_first t [] = refl
sets_first t (u ∷ ts) = go (told u.opens) (sets_first u ts)
  where
    go : (u.opens ≡ true) ⊎ (u.opens ≡ false)
        → sets (u ∷ ts) ≡ (u.path ∷ paths (take (before_boundary (boundaries ts)) ts)) ∷ sets (drop (before_boundary (boundaries ts)) ts)
        → sets (t ∷ (u ∷ ts))
        ≡ (t.path ∷ paths (take (before_boundary (boundaries (u ∷ ts))) (u ∷ ts))) ∷ sets (drop (before_boundary (boundaries (u ∷ ts))) (u ∷ ts))
    go (inl y) r = rw y
    go (inr n) r = rw n (ap (join_set false t.path) r)

-- the set that starts at place a, and those after it
module _ (ts : List Target) (a : ℕ) where
  after : ℕ
  after = before_boundary (boundaries (drop (suc a) ts))

  end_is : set_end a (boundaries ts) ≡ suc a + after
  unfolding set_end boundaries after
  end_is = rw (add-one a, map_drop (λ t. t.opens) (suc a) ts)

  set_is : (z : Target) → a < length ts
      → ((get_or ts a z).path ∷ paths (take after (drop (suc a) ts))) ≡ part a (set_end a (boundaries ts) - a) (paths ts)
  unfolding paths part
  set_is z h =
      let e : suc after ≡ set_end a (boundaries ts) - a = omega (arith, end_is) in
      ap paths (sym (part_cons a after ts z h)) ∙ (map_part (λ t. t.path) a (suc after) ts ∙ ap (λ (k : ℕ). part a k (paths ts)) e)

  rest_is : drop after (drop (suc a) ts) ≡ drop (set_end a (boundaries ts)) ts
  rest_is = drop-drop after (suc a) ts ∙ ap (λ (k : ℕ). drop k ts) (sym end_is)

  pub sets_at : a < length ts → sets (drop a ts) ≡ part a (set_end a (boundaries ts) - a) (paths ts) ∷ sets (drop (set_end a (boundaries ts)) ts)
  unfolding after
  sets_at h =
      ap sets (drop-cons ts a none h)
      ∙ (sets_first (get_or ts a none) (drop (suc a) ts) ∙ (λ i. set_is none h i ∷ sets (rest_is i)))

pub sets_none : (ts : List Target) (a : ℕ) → length ts ≤ a → sets (drop a ts) ≡ []
unfolding sets
sets_none ts a h = rw (drop_of_length-le ts h)

-- the kept targets of a reply
module _ (r : List ℕ) (ks : List Kept) where
  given_boundaries_lem : boundaries (map (target_shown r) ks) ≡ given_boundaries ks
  unfolding boundaries target_shown given_boundaries
  given_boundaries_lem = map-map (λ (t : Target). t.opens) (target_shown r) ks

  given_paths : paths (map (target_shown r) ks) ≡ map (given_path r) ks
  unfolding paths target_shown given_path
  given_paths = map-map (λ (t : Target). t.path) (target_shown r) ks

  given_count : length (map (target_shown r) ks) ≡ length ks
  given_count = length-map ks (target_shown r)

  given_part : (b k : ℕ) → part b k (paths (map (target_shown r) ks)) ≡ map (given_path r) (take k (drop b ks))
  unfolding part
  given_part b k = ap (part b k) given_paths ∙ sym (map_part (given_path r) b k ks)

-- The comparison set by set, from the entry's place a and the reply's place b on.
abbrev pub sets_from : ℕ → List ℕ → List ℕ → List Kept → ℕ → ℕ → Bool
sets_from i raw r ks a b = same_sets (sets (drop a (held_targets i raw))) (sets (drop b (map (target_shown r) ks)))

held_length : (i : ℕ) (raw : List ℕ) → length (held_targets i raw) ≡ list_count (place_at i raw)
unfolding held_targets entry_at referral_of
held_length i raw = length_listed (list_count (place_at i raw)) (λ j. target_of j (place_at i raw))

module _ (i : ℕ) (raw r : List ℕ) (ks : List Kept) (a b : ℕ) where
  -- the entry has a set more
  pub sets_short : a < list_count (place_at i raw) → length ks ≤ b → sets_from i raw r ks a b ≡ false
  unfolding same_sets
  sets_short h k =
      rw (sets_at (held_targets i raw) a (omega (arith, held_length i raw)), sets_none (map (target_shown r) ks) b (omega (arith, given_count r ks)))

  -- the entry has no more set
  pub sets_end : list_count (place_at i raw) ≤ a → leb (length ks) b ≡ sets_from i raw r ks a b
  unfolding same_sets
  sets_end h =
      rw (sets_none (held_targets i raw) a (omega (arith, held_length i raw))) (go (lt_or_le b (length ks)))
    where
      go : (b < length ks) ⊎ (length ks ≤ b) → leb (length ks) b ≡ same_sets [] (sets (drop b (map (target_shown r) ks)))
      go (inl k) = lt-leb _ _ k ∙ rw (sets_at (map (target_shown r) ks) b (omega (arith, given_count r ks)))
      go (inr k) = le-leb _ _ k ∙ rw (sets_none (map (target_shown r) ks) b (omega (arith, given_count r ks)))

  module _ {x y : ℕ} (held : x ≡ set_end a (boundaries (held_targets i raw))) (given : y ≡ set_end b (given_boundaries ks)) {v : Bool}
      (is : v ≡ same_targets (part a (x - a) (paths (held_targets i raw))) (map (given_path r) (take (y - b) (drop b ks))))
      (h : a < list_count (place_at i raw)) (k : b < length ks) where
    held_at : sets (drop a (held_targets i raw)) ≡ part a (x - a) (paths (held_targets i raw)) ∷ sets (drop x (held_targets i raw))
    held_at =
        sets_at (held_targets i raw) a (omega (arith, held_length i raw))
        ∙ ap (λ (e : ℕ). part a (e - a) (paths (held_targets i raw)) ∷ sets (drop e (held_targets i raw))) (sym held)

    given_at : sets (drop b (map (target_shown r) ks)) ≡ map (given_path r) (take (y - b) (drop b ks)) ∷ sets (drop y (map (target_shown r) ks))
    given_at =
        sets_at (map (target_shown r) ks) b (omega (arith, given_count r ks))
        ∙ (ap (λ (e : ℕ). part b (e - b) (paths (map (target_shown r) ks)) ∷ sets (drop e (map (target_shown r) ks)))
        (ap (set_end b) (given_boundaries_lem r ks) ∙ sym given)
        ∙ ap (λ (s : List (List ℕ)). s ∷ sets (drop y (map (target_shown r) ks))) (given_part r ks b (y - b)))

    sets_next : sets_from i raw r ks a b ≡ (v && sets_from i raw r ks x y)
    unfolding same_sets
    sets_next =
        ap (λ (l : List (List (List ℕ))). same_sets l (sets (drop b (map (target_shown r) ks)))) held_at
        ∙ (ap (λ (l : List (List (List ℕ))). same_sets (part a (x - a) (paths (held_targets i raw)) ∷ sets (drop x (held_targets i raw))) l) given_at
        ∙ ap (λ (w : Bool). w && sets_from i raw r ks x y) (sym is))

    pub sets_differ : v ≡ false → sets_from i raw r ks a b ≡ false
    sets_differ e = sets_next ∙ and_no_left _ e

    pub sets_more : v ≡ true → sets_from i raw r ks a b ≡ sets_from i raw r ks x y
    sets_more e = sets_next ∙ rw e

-- the two ways of the equivalence check
module _ (version i : ℕ) (raw r : List ℕ) (ks : List Kept) where
  pub by_sets : version ≡ 4 → {v : Bool} → v ≡ same_sets (sets (held_targets i raw)) (sets (map (target_shown r) ks))
      → v ≡ equivalent version (held_targets i raw) (map (target_shown r) ks)
  unfolding equivalent
  by_sets h e = e ∙ sym (choose_yes _ _ (eq-eqb version 4 h))

  pub by_targets : (version ≡ 4 → ⊥) → {m : ℕ} → m ≡ list_count (place_at i raw) → {v : Bool}
      → v ≡ same_targets (part 0 (m - 0) (paths (held_targets i raw))) (map (given_path r) ks)
      → v ≡ equivalent version (held_targets i raw) (map (target_shown r) ks)
  unfolding equivalent
  by_targets h {m} is e =
      let l : length (paths (held_targets i raw)) ≡ m - 0 = omega (arith, length_paths (held_targets i raw), held_length i raw) in
      e
      ∙ ((λ j. same_targets (part_whole (paths (held_targets i raw)) (m - 0) l j) (sym (given_paths r ks) j))
      ∙ sym (choose_no _ _ (ne_eqb version 4 h)))
