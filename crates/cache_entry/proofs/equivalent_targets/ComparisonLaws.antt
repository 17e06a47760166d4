-- Laws of the comparison over places: the search for an unmarked equal target, matching one target after the other, two sets.
use mathlib.Core.Path.{◌≡◌, refl, sym, ap, ◌∙◌, subst}
use mathlib.Core.Bool.{Bool, true, false, ◌&&◌, not, true≢false}
use mathlib.Core.List.{List, [], ◌∷◌, map}
use Prim.Native.Nat.{ℕ, suc, ◌+◌, ◌-◌, ◌/◌, ◌%◌, ◌^◌, ◌≤◌, ◌<◌}
use native.Mathlib.Numerals.{add-one}
use native.Mathlib.Omega.{arith}
use lib.Dec.{eqb}
use lib.ListN.{length, get_or, drop, length-map, drop_of_length-le}
use lib.Seq.{drop-cons}
use borrow.Author.Tests.{leb-true, eq-eqb, ne_eqb}
use Rattle.laws.specs.Choice.{choose}
use Rattle.laws.specs.Lists.{every, part}
use Rattle.laws.specs.Listed.{listed}
use Rattle.laws.proofs.Choices.{choose_yes, choose_no, and_yes_left, and_no_left, and_no_right, and_both}
use Rattle.laws.proofs.Tests.{both_ways}
use Rattle.laws.proofs.Every.{every_at}
use Rattle.laws.proofs.Listed.{length_listed, get_d_listed, map_listed}
use Rattle.laws.proofs.Pasting.{length_part}
use Rattle.laws.proofs.Parts.{part_cons, part_none}
use Rattle.unc.specs.names.Names.{same_name}
use Rattle.unc.proofs.names.NameLaws.{same_name_sym}
use Rattle.reply_bytes.specs.texts.Code.{spanned, Inside}
use Rattle.reply_read.specs.referral.Code.{is_inside, kept_inside}
use Rattle.reply_read.specs.declared.referral.Kept.{Kept}
use Rattle.cache.specs.places.Layout.{place_at, text_at, list_count}
use Rattle.cache.specs.order.Memory.{referral_of, target_of}
use Rattle.cache_lookup.specs.Code.{entry_at}
use Rattle.cache_entry.specs.equivalent_targets.Equivalence.{same_targets, paths}
use Rattle.cache_entry.specs.equivalent_targets.Code.{matched, is_in, without, unmarked, first_place, marks_in, held_targets, given_path}
use Rattle.cache_entry.proofs.equivalent_targets.EquivalenceLaws.{matched_same, same_unlike}
use Rattle.cache_entry.proofs.equivalent_targets.MarkingLaws.{Taken, Bit, taken, missing, length_marks, bit_free, none_marked}

same_turns : (x y : List ℕ) → same_name x y ≡ same_name y x
same_turns x y = both_ways (same_name x y) (same_name y x) (same_name_sym x y) (same_name_sym y x)

-- a kept target lies in the reply
pub kept_inside_lem : (r : List ℕ) (ks : List Kept) (j : ℕ) (z : Kept) → every (kept_inside r) ks ≡ true → j < length ks → Inside r (get_or ks j z).path
unfolding kept_inside is_inside
kept_inside_lem r ks j z h l = leb-true _ _ (every_at (kept_inside r) ks h j z l)

-- a kept target for a place that has none
no_kept : Kept
no_kept = record { path = record { from = 0; units = 0 }; opens = false }

-- the search from target j on, m being the marks from there on
abbrev pub seek : List ℕ → ℕ → List ℕ → List Kept → ℕ → ℕ
seek x m r ks j = first_place j x (marks_in (length ks - j) m) (map (given_path r) (drop j ks))

pub seek_start : (x : List ℕ) (m : ℕ) (r : List ℕ) (ks : List Kept) → first_place 0 x (marks_in (length ks) m) (map (given_path r) ks) ≡ seek x m r ks 0
seek_start x m r ks =
    let e : length ks ≡ length ks - 0 = omega arith in
    ap (λ (n : ℕ). first_place 0 x (marks_in n m) (map (given_path r) ks)) e

module _ (x : List ℕ) (m : ℕ) (r : List ℕ) (ks : List Kept) (j : ℕ) where
  pub seek_end : length ks ≤ j → seek x m r ks j ≡ j
  unfolding first_place marks_in
  seek_end h =
      let e : length ks - j ≡ 0 = omega arith in
      rw (e, drop_of_length-le ks h)

  module _ (h : j < length ks) (z : Kept) where
    seek_next : seek x m r ks j ≡ choose (not (eqb (m % 2) 0) && same_name x (spanned r (get_or ks j z).path)) j (seek x (m / 2) r ks (j + 1))
    unfolding first_place marks_in given_path
    seek_next =
        let e : length ks - j ≡ suc (length ks - (j + 1)) = omega arith in
        rw (e, drop-cons ks j z h, add-one j)

    pub seek_hit : (m % 2 ≡ 0 → ⊥) → {v : Bool} → v ≡ same_name (spanned r (get_or ks j z).path) x → v ≡ true → seek x m r ks j ≡ j
    seek_hit o e k = seek_next ∙ choose_yes j _ (and_both (ap not (ne_eqb (m % 2) 0 o)) (same_turns x _ ∙ (sym e ∙ k)))

    pub seek_unlike : {v : Bool} → v ≡ same_name (spanned r (get_or ks j z).path) x → v ≡ false → seek x m r ks j ≡ seek x (m / 2) r ks (j + 1)
    seek_unlike e k = seek_next ∙ choose_no j _ (and_no_right (not (eqb (m % 2) 0)) (same_turns x _ ∙ (sym e ∙ k)))

  pub seek_marked : j < length ks → m % 2 ≡ 0 → seek x m r ks j ≡ seek x (m / 2) r ks (j + 1)
  seek_marked h o = seek_next h no_kept ∙ choose_no j _ (and_no_left _ (ap not (eq-eqb (m % 2) 0 o)))

-- the paths of an entry's targets
held_paths : (raw : List ℕ) (i : ℕ) → paths (held_targets i raw) ≡ listed (list_count (place_at i raw)) (λ j. text_at (1 + j) (place_at i raw))
unfolding paths held_targets entry_at referral_of target_of
held_paths raw i = map_listed (λ t. t.path) (list_count (place_at i raw)) (λ j. target_of j (place_at i raw))

pub held_count : (raw : List ℕ) (i : ℕ) → length (paths (held_targets i raw)) ≡ list_count (place_at i raw)
held_count raw i = ap length (held_paths raw i) ∙ length_listed (list_count (place_at i raw)) (λ j. text_at (1 + j) (place_at i raw))

pub held_path : (raw : List ℕ) (i t : ℕ) → t < list_count (place_at i raw) → {x : List ℕ} → x ≡ text_at (1 + t) (place_at i raw) → x ≡ get_or (paths (held_targets i raw)) t []
held_path raw i t h e =
    e
    ∙ sym (ap (λ (l : List (List ℕ)). get_or l t []) (held_paths raw i)
    ∙ get_d_listed (list_count (place_at i raw)) (λ j. text_at (1 + j) (place_at i raw)) t [] h)

-- matching the targets from place t on
pub matched_end : (xs ys : List (List ℕ)) (t end : ℕ) → end ≤ t → true ≡ matched (part t (end - t) xs) ys
unfolding matched
matched_end xs ys t end h =
    let e : end - t ≡ 0 = omega arith in
    rw (e, part_none t xs)

matched_cons : (xs ys : List (List ℕ)) (t end : ℕ) {x : List ℕ} → x ≡ get_or xs t [] → t < end → end ≤ length xs
    → matched (part t (end - t) xs) ys ≡ (is_in x ys && matched (part (t + 1) (end - (t + 1)) xs) (without x ys))
unfolding matched
matched_cons xs ys t end is h l =
    let e : end - t ≡ suc (end - (t + 1)) = omega arith in
    rw (is, e, part_cons t (end - (t + 1)) xs [] (omega arith), add-one t)

module _ (xs : List (List ℕ)) (t end : ℕ) {x : List ℕ} (is : x ≡ get_or xs t []) (h : t < end) (few : end ≤ length xs)
    (m n : ℕ) (ys : List (List ℕ)) (long : n ≡ length ys) {j : ℕ} (at : j ≡ first_place 0 x (marks_in n m) ys) where
  as_long : length (marks_in n m) ≡ length ys
  as_long = length_marks n m ∙ long

  matched_none : n ≤ j → matched (part t (end - t) xs) (unmarked (marks_in n m) ys) ≡ false
  matched_none q = matched_cons xs _ t end is h few ∙ and_no_left _ (missing 0 x (marks_in n m) ys as_long (omega arith))

  one_found : j < n → Taken x (marks_in n m) ys j
  one_found q =
      let e : first_place 0 x (marks_in n m) ys - 0 ≡ j = omega arith in
      subst (Taken x (marks_in n m) ys) e (taken 0 x (marks_in n m) ys as_long (omega arith))

  its_bit : j < n → Bit n j m
  its_bit q = bit_free n j m (one_found q).is_free

  matched_more : j < n
      → matched (part t (end - t) xs) (unmarked (marks_in n m) ys) ≡ matched (part (t + 1) (end - (t + 1)) xs) (unmarked (marks_in n (m - 2 ^ j)) ys)
  matched_more q =
      let k = one_found q in
      matched_cons xs _ t end is h few
      ∙ (and_yes_left _ k.is_there
      ∙ ap (matched (part (t + 1) (end - (t + 1)) xs)) (sym (ap (λ (l : List Bool). unmarked l ys) (its_bit q).off ∙ k.out)))

-- the same of an entry's target t and the targets of a reply
module _ (raw : List ℕ) (i t end : ℕ) {x : List ℕ} (is : x ≡ text_at (1 + t) (place_at i raw)) (r : List ℕ) (ks : List Kept) (m : ℕ) {j : ℕ}
    (at : j ≡ first_place 0 x (marks_in (length ks) m) (map (given_path r) ks)) (h : t < end) (few : end ≤ list_count (place_at i raw)) where
  long : length ks ≡ length (map (given_path r) ks)
  long = sym (length-map ks (given_path r))

  here : x ≡ get_or (paths (held_targets i raw)) t []
  here = held_path raw i t (omega arith) is

  pub none_left : length ks ≤ j → matched (part t (end - t) (paths (held_targets i raw))) (unmarked (marks_in (length ks) m) (map (given_path r) ks)) ≡ false
  none_left q =
      matched_none (paths (held_targets i raw)) t end here h (omega (arith, held_count raw i)) m (length ks) (map (given_path r) ks) long at q

  pub found_bit : j < length ks → 2 ^ j ≤ m
  found_bit q =
      (its_bit (paths (held_targets i raw)) t end here h (omega (arith, held_count raw i)) m (length ks) (map (given_path r) ks) long at q).has

  pub one_taken : j < length ks → {p : ℕ} → p ≡ 2 ^ j
      → matched (part t (end - t) (paths (held_targets i raw))) (unmarked (marks_in (length ks) m) (map (given_path r) ks))
      ≡ matched (part (t + 1) (end - (t + 1)) (paths (held_targets i raw))) (unmarked (marks_in (length ks) (m - p)) (map (given_path r) ks))
  one_taken q b =
      matched_more (paths (held_targets i raw)) t end here h (omega (arith, held_count raw i)) m (length ks) (map (given_path r) ks) long at q
      ∙ ap (λ (k : ℕ). matched (part (t + 1) (end - (t + 1)) (paths (held_targets i raw))) (unmarked (marks_in (length ks) (m - k)) (map (given_path r) ks))) (sym b)

-- no mark is set
unmarked_none : (ms : List Bool) (ys : List (List ℕ)) → every not ms ≡ true → unmarked ms ys ≡ ys
unfolding unmarked every
unmarked_none [] ys h = refl
unmarked_none (m ∷ ms) [] h = refl
unmarked_none (true ∷ ms) (y ∷ ys) h = absurd (true≢false (sym h))
unmarked_none (false ∷ ms) (y ∷ ys) h = choose_no (unmarked ms ys) (y ∷ unmarked ms ys) refl ∙ ap (λ (l : List (List ℕ)). y ∷ l) (unmarked_none ms ys h)

-- two sets: of different length, or matched with no mark at first
module _ (raw : List ℕ) (i start end : ℕ) (r : List ℕ) (ks : List Kept) (a : start ≤ end) (l : end ≤ list_count (place_at i raw)) where
  part_long : length (part start (end - start) (paths (held_targets i raw))) ≡ end - start
  part_long = length_part start (end - start) (paths (held_targets i raw)) (omega (arith, held_count raw i))

  pub set_unlike : (end - start ≡ length ks → ⊥) → false ≡ same_targets (part start (end - start) (paths (held_targets i raw))) (map (given_path r) ks)
  set_unlike h = sym (same_unlike _ _ (λ e. h (sym part_long ∙ (e ∙ length-map ks (given_path r)))))

  pub set_matched : end - start ≡ length ks → length ks ≤ 8
      → same_targets (part start (end - start) (paths (held_targets i raw))) (map (given_path r) ks)
      ≡ matched (part start (end - start) (paths (held_targets i raw))) (unmarked (marks_in (length ks) 255) (map (given_path r) ks))
  set_matched h few =
      sym
      (ap (matched (part start (end - start) (paths (held_targets i raw)))) (unmarked_none (marks_in (length ks) 255) (map (given_path r) ks) (none_marked (length ks) 8 255 refl few))
      ∙ matched_same (part start (end - start) (paths (held_targets i raw))) (map (given_path r) ks) (part_long ∙ (h ∙ sym (length-map ks (given_path r)))))
