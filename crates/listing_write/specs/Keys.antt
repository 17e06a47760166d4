-- Keys that lines of the input of `walk` and lines that it prints both have.
use Rattle.std.specs.Prelude.{ℕ, List, [], ◌∷◌}

-- path=
abbrev pub path_key : List ℕ
path_key = 112 ∷ 97 ∷ 116 ∷ 104 ∷ 61 ∷ []

-- size=
abbrev pub size_key : List ℕ
size_key = 115 ∷ 105 ∷ 122 ∷ 101 ∷ 61 ∷ []

-- status=
abbrev pub status_key : List ℕ
status_key = 115 ∷ 116 ∷ 97 ∷ 116 ∷ 117 ∷ 115 ∷ 61 ∷ []
