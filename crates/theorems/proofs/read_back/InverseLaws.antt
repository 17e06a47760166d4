-- Laws of values that are printed and read.
use Rattle.std.specs.Prelude.{Some}
use mathlib.Core.Path.{◌≡◌, refl, sym, ap, ◌∙◌}
use mathlib.Core.Bool.{true}
use mathlib.Core.List.{List, [], ◌++◌}
use mathlib.Core.Logic.{◌⊎◌, inl, inr}
use Prim.Native.Nat.{ℕ, ◌+◌, ◌*◌, ◌/◌, ◌%◌, ◌≤◌, ◌<◌}
use native.Mathlib.Omega.{arith}
use lib.ListN.{length, take}
use lib.Seq.{take-append_seam, drop-append_seam}
use lib.Dec.{leb, ltb, eqb}
use borrow.Author.Tests.{le-leb, lt-leb, lt-ltb, eq-eqb}
use Rattle.laws.specs.Choice.{choose}
use Rattle.laws.specs.Lists.{every, pasted}
use Rattle.laws.proofs.Choices.{choose_yes, choose_no, and_both}
use Rattle.laws.proofs.Orders.{lt_or_le}
use Rattle.laws.proofs.Listed.{same_same_list}
use Rattle.listing_spelling.specs.spell.Spelling.{spelled, decimal, digit_unit, hex_units}
use Rattle.listing_spelling.specs.unspell.Reading.{unit, unspelled, is_spelled, decimal_of, digit_of, hex_digit}
use Rattle.listing_spelling.proofs.unspell.UnspelledLaws.{unspelled_spelled}
use Rattle.listing_spelling.proofs.unspell.NumberLaws.{decimal_says}
use Rattle.listing_spelling.proofs.unspell.HexLaws.{digit_back, unit_hex}
use Rattle.listing_write.specs.Form.{path_line, number_line}
use Rattle.listing_write.specs.Keys.{status_key}
use Rattle.listing_read.specs.line.Lines.{value_of, line_has_key, number_said}
use Rattle.script_lines.specs.line_bytes.Hexes.{is_hex, hex_value, hex_from, hex_number}
use Rattle.script_lines.proofs.line_bytes.HexLaws.{upper_low}
use Rattle.script_lines.specs.lines.Script.{is_text, text_said, text_read, text_taken, status_said}
use Rattle.script_output.specs.printed.Printed.{status_line}
use Rattle.theorems.specs.read_back.Inverse.{Inverse}

-- a key and a value
key_there : (key w : List ℕ) → line_has_key key (key ++ w) ≡ true
unfolding line_has_key
key_there key w = same_same_list key (take (length key) (key ++ w)) (sym (take-append_seam key w))

value_there : (key w : List ℕ) → value_of key (key ++ w) ≡ w
unfolding value_of
value_there key w = drop-append_seam key w

-- a path
spelled_form_lem : (s : List ℕ) → every unit s ≡ true → is_spelled (spelled s) ≡ true
unfolding is_spelled
spelled_form_lem s h = same_same_list _ _ (ap spelled (unspelled_spelled s h))

path_back : (key s room : List ℕ) → every unit s ≡ true → length s ≤ length room → text_taken key (path_line key s) room ≡ text_read (Some (length s)) (pasted room 0 s)
unfolding text_taken is_text text_said path_line
path_back key s room h l =
    let v : value_of key (key ++ spelled s) ≡ spelled s = value_there key (spelled s) in
    let u : unspelled (value_of key (key ++ spelled s)) ≡ s = ap unspelled v ∙ unspelled_spelled s h in
    choose_yes _ _ (and_both (key_there key (spelled s)) (and_both (ap is_spelled v ∙ spelled_form_lem s h) (ap (λ (x : List ℕ). leb (length x) (length room)) u ∙ le-leb (length s) (length room) l)))
    ∙ ap (λ (x : List ℕ). text_read (Some (length x)) (pasted room 0 x)) u

-- a number
number_back : (key : List ℕ) (n : ℕ) → n < 4294967296 → number_said key (number_line key n) ≡ Some n
unfolding number_said number_line
number_back key n h =
    let v : decimal_of (value_of key (key ++ decimal n)) ≡ n = ap decimal_of (value_there key (decimal n)) ∙ decimal_says n h in
    choose_yes _ _ (and_both (ap (λ (x : ℕ). ltb x 4294967296) v ∙ lt-ltb n 4294967296 h) (same_same_list _ _ (ap (λ (x : ℕ). key ++ decimal x) v))) ∙ ap Some v

-- a status
digit_low : (d : ℕ) → d < 16 → digit_unit d < 97
unfolding digit_unit
digit_low d h = go (lt_or_le d 10)
  where
    go : (d < 10) ⊎ (10 ≤ d) → choose (leb d 9) (48 + d) (55 + d) < 97
    go (inl l) = let e : choose (leb d 9) (48 + d) (55 + d) ≡ 48 + d = choose_yes _ _ (le-leb d 9 (omega arith)) in omega arith
    go (inr l) = let e : choose (leb d 9) (48 + d) (55 + d) ≡ 55 + d = choose_no _ _ (lt-leb d 9 (omega arith)) in omega arith

digit_value : (d : ℕ) → d < 16 → hex_value (digit_unit d) ≡ d
unfolding hex_value
digit_value d h = ap digit_of (sym (upper_low (digit_unit d) (digit_low d h))) ∙ digit_back d h

digit_hex : (d : ℕ) → d < 16 → is_hex (digit_unit d) ≡ true
unfolding is_hex
digit_hex d h = ap hex_digit (sym (upper_low (digit_unit d) (digit_low d h))) ∙ unit_hex d h

digits_hex : (u v : ℕ) → every is_hex (hex_units u ++ hex_units v) ≡ true
unfolding hex_units every
digits_hex u v =
    and_both (digit_hex (u / 4096 % 16) (omega arith)) (and_both (digit_hex (u / 256 % 16) (omega arith)) (and_both (digit_hex (u / 16 % 16) (omega arith)) (and_both (digit_hex (u % 16) (omega arith))
    (and_both (digit_hex (v / 4096 % 16) (omega arith)) (and_both (digit_hex (v / 256 % 16) (omega arith)) (and_both (digit_hex (v / 16 % 16) (omega arith)) (and_both (digit_hex (v % 16) (omega arith)) refl)))))))

four_digits : (u : ℕ) → u < 65536 → 16 * (16 * (16 * (u / 4096 % 16) + u / 256 % 16) + u / 16 % 16) + u % 16 ≡ u
four_digits u h =
    let a : u / 16 ≡ 16 * (u / 256) + u / 16 % 16 = omega arith in
    let b : u / 256 ≡ 16 * (u / 4096) + u / 256 % 16 = omega arith in
    let c : u ≡ 16 * (u / 16) + u % 16 = omega arith in
    let d : u / 4096 % 16 ≡ u / 4096 = omega arith in
    join (u / 4096 % 16) (u / 4096) (u / 256 % 16) (u / 256) (u / 16 % 16) (u / 16) (u % 16) u a b c d
  where
    join : (p q r s t v w u : ℕ) → v ≡ 16 * s + t → s ≡ 16 * q + r → u ≡ 16 * v + w → p ≡ q → 16 * (16 * (16 * p + r) + t) + w ≡ u
    join p q r s t v w u a b c d = omega arith

unit_number : (n u : ℕ) (s : List ℕ) → u < 65536 → hex_from n (hex_units u ++ s) ≡ hex_from (65536 * n + u) s
unfolding hex_units hex_from
unit_number n u s h =
    let a = digit_value (u / 4096 % 16) (omega arith) in
    let b = digit_value (u / 256 % 16) (omega arith) in
    let c = digit_value (u / 16 % 16) (omega arith) in
    let d = digit_value (u % 16) (omega arith) in
    ap (λ (m : ℕ). hex_from m s) (said n (u / 4096 % 16) (u / 256 % 16) (u / 16 % 16) (u % 16) u (four_digits u h) a b c d)
  where
    said : (n a b c d u : ℕ) {v w x y : ℕ} → 16 * (16 * (16 * a + b) + c) + d ≡ u → v ≡ a → w ≡ b → x ≡ c → y ≡ d → 16 * (16 * (16 * (16 * n + v) + w) + x) + y ≡ 65536 * n + u
    said n a b c d u e va wb xc yd = omega arith

digits_number : (u v : ℕ) → u < 65536 → v < 65536 → hex_number (hex_units u ++ hex_units v) ≡ 65536 * u + v
unfolding hex_units hex_number hex_from
digits_number u v h l =
    unit_number 0 u (hex_units v) h ∙ (unit_number (65536 * 0 + u) v [] l ∙ (let z : 65536 * (65536 * 0 + u) + v ≡ 65536 * u + v = omega arith in z))

digits_length : (u v : ℕ) → length (hex_units u ++ hex_units v) ≡ 8
unfolding hex_units
digits_length u v = refl

status_back : (n : ℕ) → n < 4294967296 → status_said (status_line n) ≡ Some n
unfolding status_said status_line
status_back n h =
    let w : List ℕ = hex_units (n / 65536) ++ hex_units (n % 65536) in
    let v : value_of status_key (status_key ++ w) ≡ w = value_there status_key w in
    let m : hex_number w ≡ n = digits_number (n / 65536) (n % 65536) (omega arith) (omega arith) ∙ (let z : 65536 * (n / 65536) + n % 65536 ≡ n = omega arith in z) in
    choose_yes _ _ (and_both (key_there status_key w) (and_both (ap (λ (x : List ℕ). eqb (length x) 8) v ∙ eq-eqb (length w) 8 (digits_length (n / 65536) (n % 65536))) (ap (every is_hex) v ∙ digits_hex (n / 65536) (n % 65536))))
    ∙ ap Some (ap hex_number v ∙ m)

pub inverse : Inverse
inverse = record { path = path_back; number = number_back; status = status_back }
