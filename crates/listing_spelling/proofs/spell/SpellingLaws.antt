-- Laws of spelled texts.
use mathlib.Core.Path.{◌≡◌, refl, sym, ap, ◌∙◌}
use mathlib.Core.Bool.{true, false}
use mathlib.Core.List.{List, [], ◌∷◌, ◌++◌}
use mathlib.Core.Logic.{◌⊎◌, inl, inr}
use Rattle.laws.proofs.Orders.{told}
use Prim.Native.Nat.{ℕ, ◌+◌, ◌*◌, ◌/◌, ◌%◌, ◌≤◌, ◌<◌}
use native.Mathlib.Numerals.{add-one}
use native.Mathlib.Omega.{arith}
use lib.ListN.{length, get_or, drop, length-append, drop_of_length-le}
use lib.Seq.{drop-cons}
use lib.Dec.{ltb}
use borrow.Author.Tests.{le-leb, lt-leb}
use Rattle.std.specs.List.{sum_by}
use Rattle.std.proofs.lemmas.Bool.Decides.{nat_tests}
use Rattle.std.proofs.lemmas.List.Sums.{sum_by-cons}
use Rattle.laws.specs.Lists.{pasted}
use Rattle.laws.proofs.Choices.{choose_yes, choose_no}
use Rattle.listing_spelling.specs.spell.Spelling.{tilde, stands, digit_unit, hex_units, spelled_unit, spelled, Put}
use Rattle.listing_spelling.proofs.spell.PutLaws.{put_then, put_piece}

pub stands_low : (u : ℕ) → u < 33 → stands u ≡ false
unfolding stands
stands_low u h = grind (arith, nat_tests)

pub stands_rest : (u : ℕ) → 33 ≤ u → ltb u 126 ≡ stands u
unfolding stands
stands_rest u h = grind (arith, nat_tests)

pub digit_low : (d : ℕ) → d < 10 → 48 + d ≡ digit_unit d
unfolding digit_unit
digit_low d h = sym (choose_yes _ _ (le-leb d 9 (omega arith)))

pub digit_high : (d : ℕ) → 10 ≤ d → 55 + d ≡ digit_unit d
unfolding digit_unit
digit_high d h = sym (choose_no _ _ (lt-leb d 9 (omega arith)))

-- a unit spelled
pub unit_stands : (u : ℕ) → stands u ≡ true → spelled_unit u ≡ u ∷ []
unfolding spelled_unit
unit_stands u h = choose_yes _ _ h

pub unit_escaped : (u : ℕ) → stands u ≡ false → spelled_unit u ≡ tilde ∷ hex_units u
unfolding spelled_unit
unit_escaped u h = choose_no _ _ h

pub length_stands : (u : ℕ) → stands u ≡ true → length (spelled_unit u) ≡ 1
length_stands u h = ap length (unit_stands u h)

pub length_escaped : (u : ℕ) → stands u ≡ false → length (spelled_unit u) ≡ 5
unfolding hex_units
length_escaped u h = ap length (unit_escaped u h)

pub length_unit : (u : ℕ) → length (spelled_unit u) ≤ 5
length_unit u = go (told (stands u))
  where
    go : (stands u ≡ true) ⊎ (stands u ≡ false) → length (spelled_unit u) ≤ 5
    go (inl t) = omega (arith, length_stands u t)
    go (inr t) = omega (arith, length_escaped u t)

-- "The worst case": each unit takes five at most
pub length_spelled : (s : List ℕ) → length (spelled s) ≤ 5 * length s
unfolding spelled
length_spelled [] = omega arith
length_spelled (u ∷ s) = omega (arith, length-append (spelled_unit u) (spelled s), length_unit u, length_spelled s)

pub length_hex : (u : ℕ) → length (hex_units u) ≡ 4
unfolding hex_units
length_hex u = refl

-- four digits, as they are put together
pub hex_put : (u a b c d : ℕ) → a ≡ digit_unit (u / 4096 % 16) → b ≡ digit_unit (u / 256 % 16) → c ≡ digit_unit (u / 16 % 16) → d ≡ digit_unit (u % 16)
    → {m : List ℕ} {n : ℕ} {o : List ℕ} → o ≡ pasted m n (a ∷ b ∷ c ∷ d ∷ []) → Put m n (hex_units u) o (n + 4)
unfolding hex_units
hex_put u a b c d p q r s {m} {n} {o} e =
    record { memory = e ∙ ap (pasted m n) (λ i. p i ∷ q i ∷ r i ∷ s i ∷ []); end = refl }

pub put_stands : (u : ℕ) {m : List ℕ} {n : ℕ} {o : List ℕ} → stands u ≡ true → o ≡ pasted m n (u ∷ []) → Put m n (spelled_unit u) o (n + 1)
put_stands u {m} {n} {o} h e = record { memory = e ∙ ap (pasted m n) (sym (unit_stands u h)); end = ap (λ (x : ℕ). n + x) (sym (length_stands u h)) }

pub put_escaped : (u : ℕ) {m : List ℕ} {n : ℕ} {o t : List ℕ} {e : ℕ} → stands u ≡ false → n + length (spelled_unit u) ≤ length m
    → t ≡ pasted m n (tilde ∷ []) → Put t (n + 1) (hex_units u) o e → Put m n (spelled_unit u) o e
put_escaped u {m} {n} h f k w =
    let x = unit_escaped u h in
    rw x (put_then m n (tilde ∷ []) (hex_units u) (put_piece k) w (rw x at f))

-- over the units of a text
pub spelled_cons : (s : List ℕ) (i : ℕ) → i < length s → spelled (drop i s) ≡ spelled_unit (get_or s i 0) ++ spelled (drop (i + 1) s)
unfolding spelled
spelled_cons s i h = rw (drop-cons s i 0 h, add-one i)

pub spelled_end : (s : List ℕ) (i : ℕ) → length s ≤ i → spelled (drop i s) ≡ []
unfolding spelled
spelled_end s i h = rw (drop_of_length-le s h)

-- its length, unit by unit
pub spelled_sum : (s : List ℕ) → sum_by (λ u. length (spelled_unit u)) s ≡ length (spelled s)
unfolding spelled
spelled_sum [] = refl
spelled_sum (u ∷ s) = omega (arith, sum_by-cons (λ u. length (spelled_unit u)) u s, spelled_sum s, length-append (spelled_unit u) (spelled s))

-- how many units are left
pub units_more : (s : List ℕ) (i : ℕ) → i < length s → length (spelled (drop i s)) ≡ length (spelled_unit (get_or s i 0)) + length (spelled (drop (i + 1) s))
units_more s i h = ap length (spelled_cons s i h) ∙ length-append (spelled_unit (get_or s i 0)) (spelled (drop (i + 1) s))
