-- When two target lists are equivalent: source document 001, "The equivalence check operation".
use Rattle.std.specs.Prelude.{ℕ, ◌+◌, Bool, true, false, ◌&&◌, List, [], ◌∷◌, ◌++◌, map, eqb}
use Rattle.laws.specs.Choice.{choose}
use Rattle.laws.specs.Lists.{every}
use Rattle.unc.specs.names.Names.{same_name}
use Rattle.unc.specs.names.Paths.{Target}

-- how many of the names are equal to this one
unfoldable pub times_in : List ℕ → List (List ℕ) → ℕ
times_in x [] = 0
times_in x (y ∷ ys) = choose (same_name x y) 1 0 + times_in x ys

-- "contain the same targets, independent of their order", repeated targets counted: each stands as often in the one list as in the other
unfoldable pub same_targets : List (List ℕ) → List (List ℕ) → Bool
same_targets xs ys = every (λ x. eqb (times_in x xs) (times_in x ys)) (xs ++ ys)

unfoldable pub paths : List Target → List (List ℕ)
paths ts = map (λ t. t.path) ts

-- a target before the sets of those that follow it: where the next one opens a set it is a set of its own, else it is in their first set
unfoldable pub join_set : Bool → List ℕ → List (List (List ℕ)) → List (List (List ℕ))
join_set true p ss = (p ∷ []) ∷ ss
join_set false p [] = (p ∷ []) ∷ []
join_set false p (s ∷ ss) = (p ∷ s) ∷ ss

unfoldable pub next_opens : List Target → Bool
next_opens [] = false
next_opens (t ∷ ts) = t.opens

-- the target sets, in order: a boundary opens the next
unfoldable pub sets : List Target → List (List (List ℕ))
sets [] = []
sets (t ∷ ts) = join_set (next_opens ts) t.path (sets ts)

unfoldable pub same_sets : List (List (List ℕ)) → List (List (List ℕ)) → Bool
same_sets [] [] = true
same_sets [] (t ∷ ts) = false
same_sets (s ∷ ss) [] = false
same_sets (s ∷ ss) (t ∷ ts) = same_targets s t && same_sets ss ts

-- a reply of version 4: as many sets, and each holds the same targets; of another version: the same targets, without regard to sets
unfoldable pub equivalent : ℕ → List Target → List Target → Bool
equivalent version held given = choose (eqb version 4) (same_sets (sets held) (sets given)) (same_targets (paths held) (paths given))
