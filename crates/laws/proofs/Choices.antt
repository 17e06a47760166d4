-- Laws of a choice by a test, and of tests joined by "and".
use mathlib.Core.Path.{◌≡◌, refl, ap, sym, ◌∙◌}
use mathlib.Core.Bool.{Bool, true, false, ◌&&◌, ◌||◌, true≢false}
use mathlib.Core.Logic.{◌⊎◌, inl, inr}
use Prim.Native.Nat.{ℕ}
use lib.Dec.{eqb}
use borrow.Author.Tests.{eqb-true, eq-eqb}
use Rattle.laws.specs.Choice.{choose}

module _ {ℓ} {A : Type ℓ} where
  pub choose_yes : {t : Bool} (a b : A) → t ≡ true → choose t a b ≡ a
  unfolding choose
  choose_yes a b h = ap (λ x. choose x a b) h

  pub choose_no : {t : Bool} (a b : A) → t ≡ false → choose t a b ≡ b
  unfolding choose
  choose_no a b h = ap (λ x. choose x a b) h

pub and_left : (a b : Bool) → (a && b) ≡ true → a ≡ true
and_left true b h = refl
and_left false b h = h

pub and_right : (a b : Bool) → (a && b) ≡ true → b ≡ true
and_right true b h = h
and_right false b h = absurd (true≢false (sym h))

pub and_both : {a b : Bool} → a ≡ true → b ≡ true → (a && b) ≡ true
and_both p q = rw (p, q)

pub and_yes_left : {a : Bool} (b : Bool) → a ≡ true → (a && b) ≡ b
and_yes_left b h = rw h

pub and_no_left : {a : Bool} (b : Bool) → a ≡ false → (a && b) ≡ false
and_no_left b p = rw p

pub and_no_right : (a : Bool) {b : Bool} → b ≡ false → (a && b) ≡ false
and_no_right true q = q
and_no_right false q = refl

pub or_told : (a b : Bool) → (a || b) ≡ true → (a ≡ true) ⊎ (b ≡ true)
or_told true b h = inl refl
or_told false b h = inr h

pub or_right : (a : Bool) {b : Bool} → b ≡ true → (a || b) ≡ true
or_right true h = refl
or_right false h = h

pub or_none : (a b : Bool) → (a || b) ≡ false → (a ≡ false) × (b ≡ false)
or_none true b h = absurd (true≢false h)
or_none false b h = (refl, h)

-- a test of equal numbers
pub eqb_refl : (n : ℕ) → eqb n n ≡ true
eqb_refl n = eq-eqb n n refl

pub eqb_sym : (a b : ℕ) → eqb a b ≡ true → eqb b a ≡ true
eqb_sym a b h = eq-eqb b a (sym (eqb-true a b h))

pub eqb_trans : (a b c : ℕ) → eqb a b ≡ true → eqb b c ≡ true → eqb a c ≡ true
eqb_trans a b c h k = eq-eqb a c (eqb-true a b h ∙ eqb-true b c k)
