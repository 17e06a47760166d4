-- The request: MaxReferralLevel 4, the name, a unit 0.
use Rattle.std.specs.Prelude.{ℕ, ◌/◌, ◌%◌, List, [], ◌∷◌, ◌++◌, length, leb}
use Rattle.laws.specs.Choice.{choose}
use Rattle.laws.specs.Lists.{pasted}

-- "1,024 to 57,344": the least and the most bytes of a reply that may be asked for
abbrev pub least_size : ℕ
least_size = 1024

abbrev pub most_size : ℕ
most_size = 57344

-- a unit as two bytes, the low one first
unfoldable pub bytes_of : List ℕ → List ℕ
bytes_of [] = []
bytes_of (u ∷ s) = u % 256 ∷ (u / 256 ∷ bytes_of s)

unfoldable pub request : List ℕ → List ℕ
request name = bytes_of (4 ∷ (name ++ (0 ∷ [])))

-- the buffer after a request was written at its start; one that is too short stays as it was
unfoldable pub buffer_with : List ℕ → List ℕ → List ℕ
buffer_with name out = choose (leb (length (request name)) (length out)) (pasted out 0 (request name)) out
