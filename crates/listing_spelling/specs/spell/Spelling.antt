-- How a text and a number are spelled: document 01, "The listing".
use Rattle.std.specs.Prelude.{ℕ, zero, suc, ◌+◌, ◌/◌, ◌%◌, Bool, ◌&&◌, not, List, [], ◌∷◌, ◌++◌, ◌≡◌, length, leb, ltb, eqb}
use Rattle.laws.specs.Choice.{choose}
use Rattle.laws.specs.Lists.{pasted}

abbrev pub tilde : ℕ
tilde = 126

-- "Units 21 to 7E hex but "~" stand as they are"
unfoldable pub stands : ℕ → Bool
stands u = leb 33 u && (leb u 126 && not (eqb u tilde))

-- a digit below 16, "upper-case hex"
unfoldable pub digit_unit : ℕ → ℕ
digit_unit d = choose (leb d 9) (48 + d) (55 + d)

-- "four upper-case hex digits"
unfoldable pub hex_units : ℕ → List ℕ
hex_units u = digit_unit (u / 4096 % 16) ∷ digit_unit (u / 256 % 16) ∷ digit_unit (u / 16 % 16) ∷ digit_unit (u % 16) ∷ []

-- a unit as it stands, "others as "~" and four upper-case hex digits"
unfoldable pub spelled_unit : ℕ → List ℕ
spelled_unit u = choose (stands u) (u ∷ []) (tilde ∷ hex_units u)

-- a text
unfoldable pub spelled : List ℕ → List ℕ
spelled [] = []
spelled (u ∷ s) = spelled_unit u ++ spelled s

-- a number of at most k decimal digits, "without leading zeros"
unfoldable pub decimal_in : ℕ → ℕ → List ℕ
decimal_in zero n = []
decimal_in (suc k) n = choose (ltb n 10) ((48 + n) ∷ []) (decimal_in k (n / 10) ++ ((48 + n % 10) ∷ []))

-- a number of 32 bits has at most ten
unfoldable pub decimal : ℕ → List ℕ
decimal n = decimal_in 10 n

-- what a writer does: the piece p stands in d from place n on, and r is its end
pub record Put (d : List ℕ) (n : ℕ) (p o : List ℕ) (r : ℕ) : Type 0 where
  pub memory : o ≡ pasted d n p
  pub end : r ≡ n + length p
