-- Laws of lines that are read.
use mathlib.Core.Path.{◌≡◌, refl, sym, ap, ◌∙◌}
use mathlib.Core.Bool.{Bool, true, false, ◌&&◌, not}
use mathlib.Core.List.{List, [], ◌∷◌, ◌++◌}
use mathlib.Core.Logic.{◌⊎◌, inl, inr}
use Prim.Native.Nat.{ℕ, suc, ◌+◌, ◌-◌, ◌≤◌, ◌<◌}
use native.Mathlib.Omega.{arith}
use lib.ListN.{length, drop, take, drop_of_length-le, length-take, length-drop}
use Rattle.laws.proofs.Listed.{same_list_true}
use lib.Seq.{take_all}
use lib.Dec.{eqb, ltb}
use Rattle.std.specs.Prelude.{Option, min, Some, None, unwrap_or, cond, nat_eq, position}
use Rattle.std.proofs.lemmas.Option.{none-some}
use Rattle.std.specs.List.{position_or_len, starts_with}
use Rattle.std.specs.Cmp.Lexicographic.{pointwise}
use Rattle.std.proofs.lemmas.Bool.Decides.{nat_tests}
use Rattle.std.proofs.lemmas.List.Recursion.{is_position_or_len}
use Rattle.std.proofs.lemmas.List.Sums.{prefix_len-le-length}
use Rattle.listing_spelling.proofs.unspell.NumberLaws.{pointwise_same}
use Rattle.laws.specs.Choice.{choose}
use Rattle.laws.specs.Lists.{pasted, part}
use Rattle.laws.specs.Listed.{same_list}
use Rattle.laws.proofs.Choices.{choose_no, and_no_left, and_no_right, and_yes_left, eqb_sym}
use Rattle.laws.proofs.Tests.{refuted, both_ways}
use Rattle.laws.proofs.Pasting.{part_pasted}
use Rattle.laws.proofs.Orders.{lt_or_le}
use Rattle.cache.specs.order.Order.{good_prefix}
use Rattle.cache.proofs.order.KindLaws.{prefix_short}
use Rattle.listing_spelling.specs.spell.Spelling.{spelled, decimal, Put}
use Rattle.listing_write.specs.Form.{path_line, number_line}
use Rattle.listing_spelling.specs.unspell.Reading.{unspelled, is_spelled, decimal_of}
use Rattle.listing_spelling.specs.unspell.Code.{spelled_form, is_decimal, decimal_form}
use Rattle.listing_read.specs.line.Lines.{line_length, value_of, line_has_key, number_said}
use Rattle.listing_read.specs.line.Code.{is_path_line}

-- the end of a line
line_position : (s : List ℕ) → line_length s ≡ position_or_len (λ u. eqb u 10) s
unfolding line_length choose
line_position = is_position_or_len line_length (λ u. eqb u 10) refl (λ u s. go (eqb u 10) (line_length s))
  where
    go : (b : Bool) (n : ℕ) → choose b 0 (suc n) ≡ cond b 0 (1 + n)
    go true n = refl
    go false n = omega arith

found : (n l : ℕ) → n ≤ l → unwrap_or (cond (ltb n l) (Some n) None) l ≡ n
found n l h = grind (arith, nat_tests)

pub line_found : (s : List ℕ) {r : Option ℕ} → r ≡ position (λ u. eqb u 10) s → unwrap_or r (length s) ≡ line_length s
line_found s e =
    ap (λ r. unwrap_or r (length s)) e
    ∙ (found (position_or_len (λ u. eqb u 10) s) (length s) (prefix_len-le-length (λ u. not (eqb u 10)) s) ∙ sym (line_position s))

pub line_fits : (s : List ℕ) → line_length s ≤ length s
line_fits s = omega (arith, line_position s, prefix_len-le-length (λ u. not (eqb u 10)) s)

-- the part of a text from a place on
pub from_place : (t : List ℕ) (at m : ℕ) → m ≡ min at (length t) → take (length t - m) (drop m t) ≡ drop at t
from_place t at m e = take_all (length t - m) (drop m t) (omega (arith, length-drop m t)) ∙ go (lt_or_le (length t) at)
  where
    go : (length t < at) ⊎ (at ≤ length t) → drop m t ≡ drop at t
    go (inl h) = drop_of_length-le t (omega arith) ∙ sym (drop_of_length-le t (omega arith))
    go (inr h) = ap (λ (k : ℕ). drop k t) (let q : m ≡ at = omega arith in q)

-- a line that begins with a key
pub key_starts : (key line : List ℕ) → starts_with nat_eq line key ≡ line_has_key key line
unfolding line_has_key
key_starts key line = pointwise_same key (take (length key) line)

same_sym : (a b : List ℕ) → same_list a b ≡ same_list b a
unfolding same_list
same_sym [] [] = refl
same_sym [] (y ∷ b) = refl
same_sym (x ∷ a) [] = refl
same_sym (x ∷ a) (y ∷ b) = λ i. both_ways _ _ (eqb_sym x y) (eqb_sym y x) i && same_sym a b i

pub key_stripped : (key line : List ℕ) → pointwise nat_eq (take (length key) line) key ≡ line_has_key key line
unfolding line_has_key
key_stripped key line = pointwise_same (take (length key) line) key ∙ same_sym (take (length key) line) key

-- a key and what stands after it
key_value : (key w line : List ℕ) → same_list (key ++ w) line ≡ (same_list key (take (length key) line) && same_list w (drop (length key) line))
unfolding same_list
key_value [] w line = refl
key_value (a ∷ key) w [] = refl
key_value (a ∷ key) w (b ∷ line) = ap (λ (t : Bool). eqb a b && t) (key_value key w line) ∙ sym (assoc (eqb a b) (same_list key (take (length key) line)) (same_list w (drop (length key) line)))
  where
    assoc : (t u v : Bool) → ((t && u) && v) ≡ (t && (u && v))
    assoc true u v = refl
    assoc false u v = refl

-- what a choice between some number and none tells
pub chosen : (b : Bool) {n m : ℕ} → choose b (Some m) None ≡ Some n → (b ≡ true) × (n ≡ m)
unfolding choose
chosen true e = (refl, cc)
chosen false e = absurd (none-some _ e)

pub not_chosen : (b : Bool) (m : ℕ) → choose b (Some m) None ≡ None → b ≡ false
unfolding choose
not_chosen true m e = absurd (none-some _ (sym e))
not_chosen false m e = refl

-- what a form says
pub spelled_good : (s : List ℕ) {r : Option ℕ} {n : ℕ} → r ≡ spelled_form s → r ≡ Some n → (is_spelled s ≡ true) × (n ≡ length (unspelled s))
unfolding spelled_form
spelled_good s e h = chosen (is_spelled s) (sym e ∙ h)

pub spelled_bad : (s : List ℕ) {r : Option ℕ} → r ≡ spelled_form s → r ≡ None → is_spelled s ≡ false
unfolding spelled_form
spelled_bad s e h = not_chosen (is_spelled s) (length (unspelled s)) (sym e ∙ h)

-- a line of a path
path_parts : (key line : List ℕ) → is_path_line key line ≡ ((line_has_key key line && is_spelled (value_of key line)) && good_prefix (unspelled (value_of key line)))
unfolding is_path_line path_line line_has_key is_spelled value_of
path_parts key line = ap (λ (t : Bool). t && good_prefix (unspelled (drop (length key) line))) (key_value key (spelled (unspelled (drop (length key) line))) line)

pub path_other : (key line : List ℕ) → pointwise nat_eq (take (length key) line) key ≡ false → is_path_line key line ≡ false
path_other key line h = path_parts key line ∙ and_no_left _ (and_no_left _ (sym (key_stripped key line) ∙ h))

pub path_said : (key line : List ℕ) {v : List ℕ} → pointwise nat_eq (take (length key) line) key ≡ true → v ≡ drop (length key) line
    → is_path_line key line ≡ (is_spelled v && good_prefix (unspelled v))
unfolding value_of
path_said key line h e =
    path_parts key line
    ∙ (ap (λ (t : Bool). t && good_prefix (unspelled (drop (length key) line))) (and_yes_left (is_spelled (drop (length key) line)) (sym (key_stripped key line) ∙ h))
    ∙ ap (λ (x : List ℕ). is_spelled x && good_prefix (unspelled x)) (sym e))

-- a line of a number
pub number_other : (key line : List ℕ) → pointwise nat_eq (take (length key) line) key ≡ false → number_said key line ≡ None
unfolding number_said number_line line_has_key value_of
number_other key line h =
    choose_no (Some (decimal_of (drop (length key) line))) None (and_no_right (ltb (decimal_of (drop (length key) line)) 4294967296) (key_value key (decimal (decimal_of (drop (length key) line))) line ∙ and_no_left _ (sym (key_stripped key line) ∙ h)))

pub number_read : (key line : List ℕ) {v : List ℕ} → pointwise nat_eq (take (length key) line) key ≡ true → v ≡ drop (length key) line
    → number_said key line ≡ decimal_form v
unfolding number_said number_line line_has_key value_of decimal_form is_decimal
number_read key line h e =
    ap (λ (t : Bool). choose (ltb (decimal_of (drop (length key) line)) 4294967296 && t) (Some (decimal_of (drop (length key) line))) None)
    (key_value key (decimal (decimal_of (drop (length key) line))) line ∙ and_yes_left _ (sym (key_stripped key line) ∙ h))
    ∙ ap decimal_form (sym e)

-- a test of what is spelled
pub unspelled_good : (s : List ℕ) → spelled_form s ≡ None → (is_spelled s && good_prefix (unspelled s)) ≡ false
unspelled_good s h = and_no_left (good_prefix (unspelled s)) (spelled_bad s refl h)

pub form_good : (s : List ℕ) (n : ℕ) → spelled_form s ≡ Some n → (is_spelled s && good_prefix (unspelled s)) ≡ good_prefix (unspelled s)
form_good s n h = and_yes_left (good_prefix (unspelled s)) (spelled_good s (sym h) refl).0

-- a value over 256 units is no prefix
pub value_long : (s : List ℕ) (n : ℕ) → n ≡ length (unspelled s) → 256 < n → false ≡ good_prefix (unspelled s)
value_long s n e h = sym (refuted (good_prefix (unspelled s)) (λ k. let z = prefix_short (unspelled s) k in omega arith))

-- a value in a room
pub value_there : (d t : List ℕ) (n : ℕ) {o : List ℕ} {r : ℕ} → n ≡ length t → length t ≤ length d → Put d 0 t o r → take n o ≡ t
unfolding part
value_there d t n {o} e h w = ap (take n) w.memory ∙ (ap (λ (k : ℕ). take k (pasted d 0 t)) e ∙ part_pasted d 0 t (omega arith))

-- a line that begins with a key has at least its units
pub key_fits : (key line : List ℕ) {b : Bool} → b ≡ line_has_key key line → b ≡ true → length key ≤ length line
unfolding line_has_key
key_fits key line e h =
    let k = ap length (same_list_true key (take (length key) line) (sym e ∙ h)) in
    let l : length (take (length key) line) ≤ length line = simp length-take (omega arith) in
    omega arith

-- a part up to the end
pub tail_value : (key line : List ℕ) (n : ℕ) → length line ≤ n + length key → take n (drop (length key) line) ≡ value_of key line
unfolding value_of
tail_value key line n h = take_all n (drop (length key) line) (omega (arith, length-drop (length key) line))
