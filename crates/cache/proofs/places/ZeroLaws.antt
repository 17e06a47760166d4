-- Laws of "every unit is zero": the units joined by "or", and what it says of each unit.
use mathlib.Core.Path.{◌≡◌, refl, sym, ap, ◌∙◌}
use mathlib.Core.Bool.{Bool, true, ◌&&◌, and_assoc, and-true}
use mathlib.Core.List.{List, [], ◌∷◌}
use Prim.Native.Nat.{ℕ, suc, ◌+◌, ◌-◌, ◌≤◌, ◌<◌}
use native.Mathlib.Omega.{arith}
use lib.Bits.{bit_or, or_add_and, and_le_l, and_le_r}
use lib.Dec.{eqb}
use lib.ListN.{length, get_or}
use borrow.Author.Tests.{eqb-true, eq-eqb}
use Rattle.std.specs.List.{fold}
use Rattle.laws.specs.Lists.{every, part}
use Rattle.laws.proofs.Every.{every_at}
use Rattle.laws.proofs.Pasting.{length_part, get_d_part}
use Rattle.laws.proofs.Tests.{both_ways}
use Rattle.laws.proofs.Choices.{and_left, and_right, and_both}
use Rattle.cache.specs.places.Code.{zeros}

or_zero : (a b : ℕ) → eqb (bit_or a b) 0 ≡ (eqb a 0 && eqb b 0)
or_zero a b = both_ways _ _ down up
  where
    down : eqb (bit_or a b) 0 ≡ true → (eqb a 0 && eqb b 0) ≡ true
    down h =
        let z : bit_or a b ≡ 0 = eqb-true (bit_or a b) 0 h in
        and_both
        (eq-eqb a 0 (omega (arith, or_add_and a b, and_le_r a b)))
        (eq-eqb b 0 (omega (arith, or_add_and a b, and_le_l a b)))

    up : (eqb a 0 && eqb b 0) ≡ true → eqb (bit_or a b) 0 ≡ true
    up h =
        let x : a ≡ 0 = eqb-true a 0 (and_left _ _ h) in
        let y : b ≡ 0 = eqb-true b 0 (and_right (eqb a 0) _ h) in
        eq-eqb (bit_or a b) 0 (omega (arith, or_add_and a b))

-- all units joined by "or"
zeros_fold : (s : List ℕ) (any : ℕ) → eqb (fold bit_or any s) 0 ≡ (eqb any 0 && zeros s)
unfolding zeros every
zeros_fold [] any = sym (and-true (eqb any 0))
zeros_fold (u ∷ s) any =
    zeros_fold s (bit_or any u) ∙ (ap (λ (b : Bool). b && zeros s) (or_zero any u) ∙ and_assoc (eqb any 0) (eqb u 0) (zeros s))

pub zeros_joined : (s : List ℕ) {r : ℕ} → r ≡ fold bit_or 0 s → eqb r 0 ≡ zeros s
zeros_joined s e = ap (λ (n : ℕ). eqb n 0) e ∙ zeros_fold s 0

-- each unit of such a part is zero
pub zero_at : (s : List ℕ) (n k i : ℕ) → zeros (part n k s) ≡ true → n + k ≤ length s → n ≤ i → i < n + k → get_or s i 0 ≡ 0
unfolding zeros
zero_at s n k i h u a b =
    let e : n + (i - n) ≡ i = omega arith in
    let l : length (part n k s) ≡ k = length_part n k s u in
    let at : get_or (part n k s) (i - n) 0 ≡ get_or s (n + (i - n)) 0 = get_d_part n k s (i - n) 0 (omega arith) in
    sym (rw e at at) ∙ eqb-true _ 0 (every_at (λ v. eqb v 0) (part n k s) h (i - n) 0 (omega arith))

-- and the other way
all_zero : (s : List ℕ) → ((i : ℕ) → i < length s → get_or s i 0 ≡ 0) → zeros s ≡ true
unfolding zeros every
all_zero [] f = refl
all_zero (x ∷ s) f = and_both (eq-eqb x 0 (f 0 (omega arith))) (all_zero s (λ i h. f (suc i) (omega arith)))

pub zeros_all : (s : List ℕ) (n k : ℕ) → n + k ≤ length s → ((i : ℕ) → n ≤ i → i < n + k → get_or s i 0 ≡ 0) → zeros (part n k s) ≡ true
zeros_all s n k u f =
    let l : length (part n k s) ≡ k = length_part n k s u in
    all_zero (part n k s) (λ i h. get_d_part n k s i 0 (omega arith) ∙ f (n + i) (omega arith) (omega arith))
