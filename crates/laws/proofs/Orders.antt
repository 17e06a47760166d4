-- Where a number lies: below another or not; below a part, in it or past it.
use mathlib.Core.Path.{◌≡◌}
use mathlib.Core.Logic.{◌⊎◌, inl, inr}
use mathlib.Core.Bool.{Bool, true, false}
use Prim.Native.Nat.{ℕ, ◌+◌, ◌-◌, ◌≤◌, ◌<◌}
use native.Mathlib.Nat.{add-sub_of_le}
use native.Mathlib.Omega.{arith}
use lib.Dec.{ltb}
use borrow.Author.Tests.{ltb-true, ltb-false}
use mathlib.Core.Path.{refl}

-- a test, with its answer as an equation
pub told : (t : Bool) → (t ≡ true) ⊎ (t ≡ false)
told true = inl refl
told false = inr refl

pub lt_or_le : (a b : ℕ) → (a < b) ⊎ (b ≤ a)
lt_or_le a b = go (told (ltb a b))
  where
    go : (ltb a b ≡ true) ⊎ (ltb a b ≡ false) → (a < b) ⊎ (b ≤ a)
    go (inl h) = inl (ltb-true a b h)
    go (inr h) = inr (ltb-false a b h)

-- place i against the part of k places from n on
pub data Lies (n k : ℕ) : ℕ → Type 0 where
  low : {i : ℕ} → i < n → Lies n k i
  within : (j : ℕ) → j < k → Lies n k (n + j)
  high : {i : ℕ} → n + k ≤ i → Lies n k i

pub lies : (n k i : ℕ) → Lies n k i
lies n k i = go (lt_or_le i n) (lt_or_le i (n + k))
  where
    at : (j : ℕ) → j < k → n + j ≡ i → Lies n k i
    at j h e = rw (← e) (within j h)

    go : (i < n) ⊎ (n ≤ i) → (i < n + k) ⊎ (n + k ≤ i) → Lies n k i
    go (inl h) u = low h
    go (inr h) (inl u) = at (i - n) (omega arith) (add-sub_of_le h)
    go (inr h) (inr u) = high u
