-- Shapes of the code, proved equal to the rules; nothing here is to be believed.
use Rattle.std.specs.Prelude.{ℕ, Bool, ◌&&◌, not, List, length, get_or, drop, leb, ltb, eqb, Option, Some, None}
use Rattle.std.specs.Prelude as option
use Rattle.laws.specs.Choice.{choose}
use Rattle.laws.specs.Listed.{same_list}
use Rattle.listing_spelling.specs.spell.Spelling.{tilde, stands, decimal}
use Rattle.listing_spelling.specs.unspell.Reading.{is_spelled, unspelled, hex_digit, hex_of, decimal_of}

-- whether a text is a spelling, and of how many units
unfoldable pub spelled_form : List ℕ → Option ℕ
spelled_form s = choose (is_spelled s) (Some (length (unspelled s))) None

-- the first four units of a text are hex digits
unfoldable pub hex_digits : List ℕ → Bool
hex_digits s = hex_digit (get_or s 0 0) && (hex_digit (get_or s 1 0) && (hex_digit (get_or s 2 0) && hex_digit (get_or s 3 0)))

-- a text begins with the escape of a unit that does not stand as it is
unfoldable pub is_escape : List ℕ → Bool
is_escape s = leb 5 (length s) && (eqb (get_or s 0 0) tilde && (hex_digits (drop 1 s) && not (stands (hex_of (drop 1 s)))))

-- whether a text is the decimal of a number of 32 bits
unfoldable pub is_decimal : List ℕ → Bool
is_decimal s = ltb (decimal_of s) 4294967296 && same_list (decimal (decimal_of s)) s

-- the number that digits say, if it has 32 bits
unfoldable pub small_value : List ℕ → Option ℕ
small_value s = choose (ltb (decimal_of s) 4294967296) (Some (decimal_of s)) option.None

-- and of which
unfoldable pub decimal_form : List ℕ → Option ℕ
decimal_form s = choose (is_decimal s) (Some (decimal_of s)) None
