-- Units and names: document 01, "Names compare with A to Z equal to a to z, all other units exactly".
use Rattle.std.specs.Prelude.{ℕ, ◌+◌, Bool, true, false, ◌&&◌, not, List, [], ◌∷◌, length, leb, eqb}
use Rattle.laws.specs.Choice.{choose}
use Rattle.laws.specs.Lists.{every}

-- The unit by which a unit is compared. This definition alone decides which units are equal.
unfoldable pub folded : ℕ → ℕ
folded u = choose (leb 65 u && leb u 90) (u + 32) u

unfoldable pub same_unit : ℕ → ℕ → Bool
same_unit a b = eqb (folded a) (folded b)

-- equal names: as long as each other, and each unit equal to the one at its place
unfoldable pub same_name : List ℕ → List ℕ → Bool
same_name [] [] = true
same_name [] (b ∷ t) = false
same_name (a ∷ s) [] = false
same_name (a ∷ s) (b ∷ t) = same_unit a b && same_name s t

abbrev pub backslash : ℕ
backslash = 92

abbrev pub slash : ℕ
slash = 47

abbrev pub dot : ℕ
dot = 46

-- a unit that may stand in a component: no backslash, no "/", no 0
unfoldable pub plain : ℕ → Bool
plain u = not (eqb u backslash) && (not (eqb u slash) && not (eqb u 0))

-- empty, "." or ".."
unfoldable pub nothing_or_dots : List ℕ → Bool
nothing_or_dots c = leb (length c) 2 && every (λ u. eqb u dot) c

unfoldable pub good_component : List ℕ → Bool
good_component c = not (nothing_or_dots c) && every plain c

-- "every other name one good component of at most 255 units"
unfoldable pub good_name : List ℕ → Bool
good_name c = leb (length c) 255 && good_component c
