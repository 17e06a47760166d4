-- Words about lists that are made place by place, and the test of equal lists of numbers.
use Rattle.std.specs.Prelude.{ℕ, zero, suc, Bool, true, false, ◌&&◌, List, [], ◌∷◌, eqb}

module _ {ℓ} {A : Type ℓ} where
  -- the n values f 0, f 1, f 2 ..
  unfoldable pub listed : ℕ → (ℕ → A) → List A
  listed zero f = []
  listed (suc n) f = f 0 ∷ listed n (λ j. f (suc j))

-- the two lists are equal, unit for unit
unfoldable pub same_list : List ℕ → List ℕ → Bool
same_list [] [] = true
same_list [] (b ∷ t) = false
same_list (a ∷ s) [] = false
same_list (a ∷ s) (b ∷ t) = eqb a b && same_list s t
