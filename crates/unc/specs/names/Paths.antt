-- Paths: document 01, "Paths". A path's text is cut at its backslashes; every rule goes by the pieces.
use Rattle.std.specs.Prelude.{ℕ, ◌+◌, ◌-◌, Bool, true, false, ◌&&◌, ◌||◌, not, List, [], ◌∷◌, ◌++◌, length, get_or, take, drop, leb, eqb}
use Rattle.laws.specs.Choice.{choose}
use Rattle.laws.specs.Lists.{every}
use Rattle.unc.specs.names.Names.{same_name, backslash, good_component}

-- one unit more before the pieces of a text: a backslash opens a new piece, any other unit goes before the first
unfoldable pub before : Bool → ℕ → List (List ℕ) → List (List ℕ)
before true u ps = [] ∷ ps
before false u [] = (u ∷ []) ∷ []
before false u (p ∷ ps) = (u ∷ p) ∷ ps

-- what stands before, between and after the backslashes of a text
unfoldable pub pieces : List ℕ → List (List ℕ)
pieces [] = [] ∷ []
pieces (u ∷ s) = before (eqb u backslash) u (pieces s)

-- pieces parted by single backslashes
unfoldable pub joined : List (List ℕ) → List ℕ
joined [] = []
joined (p ∷ []) = p
joined (p ∷ (q ∷ qs)) = p ++ (backslash ∷ joined (q ∷ qs))

-- a path's components: the pieces after its leading backslash
unfoldable pub components : List ℕ → List (List ℕ)
components s = drop 1 (pieces s)

unfoldable pub component_count : List ℕ → ℕ
component_count s = length (components s)

-- the first k components, as a path
unfoldable pub first_of : ℕ → List ℕ → List ℕ
first_of k s = joined (take (k + 1) (pieces s))

-- the leading backslashes of a path: one or two; 0 where there is none
unfoldable pub leads : List ℕ → ℕ
leads s = choose (eqb (get_or s 0 0) backslash) (choose (eqb (get_or s 1 0) backslash) 2 1) 0

-- one trailing backslash is dropped
unfoldable pub without_trail : List ℕ → List ℕ
without_trail s = choose (eqb (get_or s (length s - 1) 0) backslash) (take (length s - 1) s) s

-- what stands between the leading backslashes and a trailing one
unfoldable pub body : List ℕ → List ℕ
body s = without_trail (drop (leads s) s)

-- Bad are: no leading backslash, no component, an empty component, a unit 0, a "/", a component "." or ".."
unfoldable pub good_path : List ℕ → Bool
good_path s = not (eqb (leads s) 0) && every good_component (pieces (body s))

-- "Normalised it has one leading backslash"
unfoldable pub normalised : List ℕ → List ℕ
normalised s = backslash ∷ body s

-- a text that is a normalised path as it stands
unfoldable pub is_normalised : List ℕ → Bool
is_normalised s = eqb (get_or s 0 0) backslash && every good_component (pieces (drop 1 s))

-- "A normalised path has at most 256 units, leading backslash included"
abbrev pub path_units : ℕ
path_units = 256

-- the number of components of a normalised path of at most 256 units; 0 of any other text
unfoldable pub normalised_count : List ℕ → ℕ
normalised_count s = choose (leb (length s) path_units && is_normalised s) (component_count s) 0

-- the first list's pieces are equal names to the second's first ones
unfoldable pub begins : List (List ℕ) → List (List ℕ) → Bool
begins [] qs = true
begins (p ∷ ps) [] = false
begins (p ∷ ps) (q ∷ qs) = same_name p q && begins ps qs

-- "A prefix matches by whole components"
unfoldable pub matches : List ℕ → List ℕ → Bool
matches prefix s = begins (pieces prefix) (pieces s)

abbrev pub sysvol : List ℕ
sysvol = 83 ∷ 89 ∷ 83 ∷ 86 ∷ 79 ∷ 76 ∷ []

abbrev pub netlogon : List ℕ
netlogon = 78 ∷ 69 ∷ 84 ∷ 76 ∷ 79 ∷ 71 ∷ 79 ∷ 78 ∷ []

-- the second component is SYSVOL or NETLOGON
unfoldable pub is_sysvol : List ℕ → Bool
is_sysvol s = same_name (get_or (components s) 1 []) sysvol || same_name (get_or (components s) 1 []) netlogon

-- Steps 3 and 11: the portion of the path that is its first k units, those of the prefix, is replaced by the target
unfoldable pub replaced : List ℕ → ℕ → List ℕ → List ℕ
replaced target k s = target ++ drop k s

-- a target, and whether a new set opens before it (a set boundary)
pub record Target : Type 0 where
  pub path : List ℕ
  pub opens : Bool
