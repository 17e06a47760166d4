-- Numbers, flags and texts in a list of bytes, little-endian, at any offset.
use Rattle.std.specs.Prelude.{ℕ, ◌+◌, ◌*◌, ◌/◌, ◌%◌, Bool, List, [], ◌∷◌, get_or, drop, eqb}
use Rattle.laws.specs.Choice.{choose}

unfoldable pub u16_at : List ℕ → ℕ → ℕ
u16_at r i = get_or r i 0 + 256 * get_or r (i + 1) 0

unfoldable pub u32_at : List ℕ → ℕ → ℕ
u32_at r i = u16_at r i + 65536 * u16_at r (i + 2)

-- the flag m, a power of two, is set in f
unfoldable pub flag : ℕ → ℕ → Bool
flag m f = eqb (f / m % 2) 1

-- "A string ends with a unit 0 inside the reply": the text before that unit, or none.
pub data Text : Type 0 where
  terminated : List ℕ → Text
  unterminated : Text

unfoldable pub longer : ℕ → Text → Text
longer u (terminated s) = terminated (u ∷ s)
longer u unterminated = unterminated

-- the text that a list of bytes begins with
unfoldable pub text : List ℕ → Text
text [] = unterminated
text (a ∷ []) = unterminated
text (a ∷ (b ∷ s)) = choose (eqb (a + 256 * b) 0) (terminated []) (longer (a + 256 * b) (text s))

unfoldable pub text_from : List ℕ → ℕ → Text
text_from r i = text (drop i r)
