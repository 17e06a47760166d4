-- Hex digits, which are "read in either case", the number that digits say, and the bytes that pairs of them say.
use Rattle.std.specs.Prelude.{ℕ, ◌+◌, ◌-◌, ◌*◌, Bool, ◌&&◌, List, [], ◌∷◌, leb}
use Rattle.laws.specs.Choice.{choose}
use Rattle.listing_spelling.specs.unspell.Reading.{digit_of, hex_digit}

-- a to f as A to F
unfoldable pub upper : ℕ → ℕ
upper u = choose (leb 97 u && leb u 102) (u - 32) u

-- a hex digit, and its value
unfoldable pub is_hex : ℕ → Bool
is_hex u = hex_digit (upper u)

unfoldable pub hex_value : ℕ → ℕ
hex_value u = digit_of (upper u)

-- the number that digits say after the number n
unfoldable pub hex_from : ℕ → List ℕ → ℕ
hex_from n [] = n
hex_from n (u ∷ s) = hex_from (16 * n + hex_value u) s

unfoldable pub hex_number : List ℕ → ℕ
hex_number s = hex_from 0 s

-- the bytes that pairs of digits say
unfoldable pub hex_bytes : List ℕ → List ℕ
hex_bytes [] = []
hex_bytes (a ∷ []) = []
hex_bytes (a ∷ b ∷ s) = hex_number (a ∷ b ∷ []) ∷ hex_bytes s
