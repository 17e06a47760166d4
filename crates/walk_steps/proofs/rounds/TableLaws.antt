-- Laws of a search in a table.
use Rattle.std.proofs.Common.{◌≡◌, refl, arith, ℕ, List, [], ◌∷◌, ◌||◌}
use Rattle.std.specs.List.{list_any}
use lib.Dec.{eqb}
use Rattle.walk_steps.specs.steps.Steps.{is_one_of}

eqb_swap : (m n : ℕ) → eqb m n ≡ eqb n m
eqb_swap m n = grind arith

-- the library's search
pub one_found : (n : ℕ) (table : List ℕ) → list_any (λ y. eqb y n) table ≡ is_one_of n table
unfolding is_one_of
one_found n [] = refl
one_found n (m ∷ ms) = λ i. eqb_swap m n i || one_found n ms i
