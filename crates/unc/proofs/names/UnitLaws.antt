-- Laws of two units compared by their bits.
use mathlib.Core.Path.{◌≡◌, refl, sym, ap, ◌∙◌}
use mathlib.Core.Bool.{true}
use mathlib.Core.Logic.{◌⊎◌, inl, inr}
use Prim.Native.Nat.{ℕ, ◌+◌, ◌*◌, ◌≤◌, ◌<◌, ◌/◌, ◌%◌}
use native.Mathlib.Omega.{arith}
use lib.Bits.{bit_and, bit_or, bit_xor, or_add_and, xor_add_and, and_le_l, and_le_r, and_mask, and_zero_r, or_zero_r, and_shr, or_shr, xor_shr, and_mod, or_mod, xor_mod, xor_self, xor_lt}
use borrow.Author.Tests.{eqb-true, eq-eqb}
use Rattle.laws.proofs.Orders.{lt_or_le}
use Rattle.unc.specs.names.Names.{folded, same_unit}
use Rattle.unc.proofs.names.NameLaws.{folded_below, folded_above, folded_letter, same_unit_refl, same_unit_sym, Alone, alone_of}

pub or_none : (a b : ℕ) → bit_or a b ≡ 0 → (a ≡ 0) × (b ≡ 0)
or_none a b e = (omega (arith, or_add_and a b, and_le_r a b), omega (arith, or_add_and a b, and_le_l a b))

pub or_both : {a b : ℕ} → a ≡ 0 → b ≡ 0 → bit_or a b ≡ 0
or_both {a} {b} e f = omega (arith, or_add_and a b)

xor_none : (a b : ℕ) → bit_xor a b ≡ 0 → a ≡ b
xor_none a b e = omega (arith, xor_add_and a b, and_le_l a b, and_le_r a b)

xor_equal : {a b : ℕ} → a ≡ b → bit_xor a b ≡ 0
xor_equal {a} {b} e = rw e (xor_self b)

-- with bit 5 set
or_bit : (n : ℕ) → n < 2 → bit_or n 1 ≡ 1
or_bit n h = go (lt_or_le n 1)
  where
    go : (n < 1) ⊎ (1 ≤ n) → bit_or n 1 ≡ 1
    go (inl p) = let z : n ≡ 0 = omega arith in rw z refl
    go (inr p) = let z : n ≡ 1 = omega arith in rw z refl

set_form : (u : ℕ) → bit_or u 32 ≡ u / 64 * 64 + 32 + u % 32
set_form u =
    let h : bit_or u 32 / 64 ≡ u / 64 = or_shr u 32 6 ∙ or_zero_r (u / 64) in
    let m : bit_or u 32 / 32 % 2 ≡ 1 = ap (λ (n : ℕ). n % 2) (or_shr u 32 5) ∙ (or_mod (u / 32) 1 1 ∙ or_bit (u / 32 % 2) (omega arith)) in
    let l : bit_or u 32 % 32 ≡ u % 32 = or_mod u 32 5 ∙ or_zero_r (u % 32) in
    omega arith

-- with bit 5 cleared
clear_form : (d : ℕ) → d < 65536 → bit_and d 65503 ≡ d / 64 * 64 + d % 32
clear_form d b =
    let h : bit_and d 65503 / 64 ≡ d / 64 = and_shr d 65503 6 ∙ (and_mask (d / 64) 10 ∙ high) in
    let m : bit_and d 65503 / 32 % 2 ≡ 0 = ap (λ (n : ℕ). n % 2) (and_shr d 65503 5) ∙ (and_mod (d / 32) 2046 1 ∙ and_zero_r (d / 32 % 2)) in
    let l : bit_and d 65503 % 32 ≡ d % 32 = and_mod d 65503 5 ∙ (and_mask (d % 32) 5 ∙ low) in
    omega arith
  where
    high : d / 64 % 1024 ≡ d / 64
    high = omega arith

    low : d % 32 % 32 ≡ d % 32
    low = omega arith

-- units that differ in bit 5 at most are the same with bit 5 set
clear_set : (a b : ℕ) → a < 65536 → b < 65536 → bit_and (bit_xor a b) 65503 ≡ 0 → bit_or a 32 ≡ bit_or b 32
clear_set a b u v e =
    let k : bit_and (bit_xor a b) 65503 ≡ bit_xor a b / 64 * 64 + bit_xor a b % 32 = clear_form _ (xor_lt 16 a b u v) in
    let h : a / 64 ≡ b / 64 = xor_none _ _ (sym (xor_shr a b 6) ∙ omega arith) in
    let l : a % 32 ≡ b % 32 = xor_none _ _ (sym (xor_mod a b 5) ∙ omega arith) in
    omega (arith, set_form a, set_form b)

set_clear : (a b : ℕ) → a < 65536 → b < 65536 → bit_or a 32 ≡ bit_or b 32 → bit_and (bit_xor a b) 65503 ≡ 0
set_clear a b u v e =
    let h : a / 64 ≡ b / 64 = omega (arith, set_form a, set_form b) in
    let l : a % 32 ≡ b % 32 = omega (arith, set_form a, set_form b) in
    let x : bit_xor a b / 64 ≡ 0 = xor_shr a b 6 ∙ xor_equal h in
    let y : bit_xor a b % 32 ≡ 0 = xor_mod a b 5 ∙ xor_equal l in
    omega (arith, clear_form _ (xor_lt 16 a b u v))

-- a letter is compared with bit 5 set
set_folded : (u : ℕ) → 97 ≤ bit_or u 32 → bit_or u 32 ≤ 122 → folded u ≡ bit_or u 32
set_folded u p q = go (lt_or_le 90 u)
  where
    go : (90 < u) ⊎ (u ≤ 90) → folded u ≡ bit_or u 32
    go (inl r) = omega (arith, folded_above u r, set_form u)
    go (inr r) = omega (arith, folded_letter u (omega (arith, set_form u)) r, set_form u)

folded_set : (u : ℕ) → 97 ≤ folded u → folded u ≤ 122 → folded u ≡ bit_or u 32
folded_set u p q = go (lt_or_le u 65) (lt_or_le 90 u)
  where
    go : (u < 65) ⊎ (65 ≤ u) → (90 < u) ⊎ (u ≤ 90) → folded u ≡ bit_or u 32
    go (inl r) o = absurd (omega (arith, folded_below u r))
    go (inr r) (inl o) = omega (arith, folded_above u o, set_form u)
    go (inr r) (inr o) = omega (arith, folded_letter u r o, set_form u)

-- any other unit is equal only to itself
other : (u : ℕ) → (bit_or u 32 < 97) ⊎ (122 < bit_or u 32) → 97 ≤ bit_or u 32 → bit_or u 32 ≤ 122 → ⊥
other u (inl o) p q = omega arith
other u (inr o) p q = omega arith

alone_other : (u : ℕ) → (bit_or u 32 < 97) ⊎ (122 < bit_or u 32) → Alone u
alone_other u o = alone_of u (go (lt_or_le u 65) (lt_or_le 90 u)) (λ a p q e. other u o (omega (arith, set_form u)) (omega (arith, set_form u)))
  where
    go : (u < 65) ⊎ (65 ≤ u) → (90 < u) ⊎ (u ≤ 90) → folded u ≡ u
    go (inl p) q = folded_below u p
    go (inr p) (inl q) = folded_above u q
    go (inr p) (inr q) = absurd (other u o (omega (arith, set_form u)) (omega (arith, set_form u)))

-- units that do not differ are equal
pub xor_same : (a b : ℕ) → bit_xor a b ≡ 0 → same_unit a b ≡ true
xor_same a b e = rw (xor_none a b e) (same_unit_refl b)

pub same_xor : (a b : ℕ) → (bit_or a 32 < 97) ⊎ (122 < bit_or a 32) → same_unit a b ≡ true → bit_xor a b ≡ 0
same_xor a b o h = xor_equal (sym ((alone_other a o).only b (same_unit_sym a b h)))

-- a letter is equal to what differs from it in bit 5 at most
pub clear_same : (a b : ℕ) → 97 ≤ bit_or a 32 → bit_or a 32 ≤ 122 → a < 65536 → b < 65536 → bit_and (bit_xor a b) 65503 ≡ 0 → same_unit a b ≡ true
unfolding same_unit
clear_same a b p q u v e =
    let z : bit_or a 32 ≡ bit_or b 32 = clear_set a b u v e in
    eq-eqb _ _ (set_folded a p q ∙ (z ∙ sym (set_folded b (omega arith) (omega arith))))

pub same_clear : (a b : ℕ) → 97 ≤ bit_or a 32 → bit_or a 32 ≤ 122 → a < 65536 → b < 65536 → same_unit a b ≡ true → bit_and (bit_xor a b) 65503 ≡ 0
unfolding same_unit
same_clear a b p q u v h =
    let x : folded a ≡ bit_or a 32 = set_folded a p q in
    let y : folded a ≡ folded b = eqb-true _ _ h in
    set_clear a b u v (sym x ∙ (y ∙ folded_set b (omega arith) (omega arith)))

-- What the functions of this crate name.
-- the bits of two units and whether they are equal
pub ruleset bits = (xor_same, same_xor, clear_same, same_clear)
