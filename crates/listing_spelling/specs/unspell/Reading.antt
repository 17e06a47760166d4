-- What spelled text says. A text is read only where what it says, spelled, is the text again: "no other spelling is read".
use Rattle.std.specs.Prelude.{ℕ, zero, suc, ◌+◌, ◌-◌, ◌*◌, Bool, ◌&&◌, ◌||◌, List, [], ◌∷◌, get_or, leb, ltb, eqb}
use Rattle.laws.specs.Choice.{choose}
use Rattle.laws.specs.Listed.{same_list}
use Rattle.listing_spelling.specs.spell.Spelling.{tilde, spelled}

-- a unit of 16 bits
unfoldable pub unit : ℕ → Bool
unit u = ltb u 65536

-- the value of a hex digit
unfoldable pub digit_of : ℕ → ℕ
digit_of u = choose (leb u 57) (u - 48) (u - 55)

-- the unit that the first four digits of a text say
unfoldable pub hex_of : List ℕ → ℕ
hex_of s = 4096 * digit_of (get_or s 0 0) + (256 * digit_of (get_or s 1 0) + (16 * digit_of (get_or s 2 0) + digit_of (get_or s 3 0)))

-- what a text says from its place k on: "~" and four digits are one unit, any other is itself
unfoldable pub unspelled_from : ℕ → List ℕ → List ℕ
unspelled_from k [] = []
unspelled_from (suc k) (u ∷ s) = unspelled_from k s
unspelled_from zero (u ∷ s) = choose (eqb u tilde) (hex_of s ∷ unspelled_from 4 s) (u ∷ unspelled_from 0 s)

unfoldable pub unspelled : List ℕ → List ℕ
unspelled s = unspelled_from 0 s

-- whether a text is a spelling
unfoldable pub is_spelled : List ℕ → Bool
is_spelled s = same_list (spelled (unspelled s)) s

-- an upper-case hex digit
unfoldable pub hex_digit : ℕ → Bool
hex_digit u = (leb 48 u && leb u 57) || (leb 65 u && leb u 70)

-- the number that digits say after the number n
unfoldable pub value_from : ℕ → List ℕ → ℕ
value_from n [] = n
value_from n (u ∷ s) = value_from (10 * n + (u - 48)) s

unfoldable pub decimal_of : List ℕ → ℕ
decimal_of s = value_from 0 s
