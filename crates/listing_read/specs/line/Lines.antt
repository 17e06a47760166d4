-- Whether one line, without its end, is a key and a value that is spelled as the listing spells it, and what it says.
use Rattle.std.specs.Prelude.{ℕ, suc, Bool, ◌&&◌, List, [], ◌∷◌, length, drop, take, eqb, ltb, Option, None, Some}
use Rattle.laws.specs.Choice.{choose}
use Rattle.laws.specs.Listed.{same_list}
use Rattle.listing_write.specs.Form.{number_line}
use Rattle.listing_spelling.specs.unspell.Reading.{decimal_of}

-- how many units stand before the next unit 0A hex, or before the end
unfoldable pub line_length : List ℕ → ℕ
line_length [] = 0
line_length (u ∷ s) = choose (eqb u 10) 0 (suc (line_length s))

-- what stands after a key
unfoldable pub value_of : List ℕ → List ℕ → List ℕ
value_of key line = drop (length key) line

-- a line begins with a key
unfoldable pub line_has_key : List ℕ → List ℕ → Bool
line_has_key key line = same_list key (take (length key) line)

-- a line of a number, and which
unfoldable pub number_said : List ℕ → List ℕ → Option ℕ
number_said key line =
    choose (ltb (decimal_of (value_of key line)) 4294967296 && same_list (number_line key (decimal_of (value_of key line))) line) (Some (decimal_of (value_of key line))) None
