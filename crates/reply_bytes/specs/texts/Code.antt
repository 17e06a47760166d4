-- Shapes of the code, proved equal to the rules; nothing here is to be believed.
use Rattle.std.specs.Prelude.{ℕ, zero, suc, ◌+◌, ◌*◌, ◌-◌, ◌≤◌, List, [], ◌∷◌, length, Option, Some, None}
use Rattle.reply_bytes.specs.texts.Bytes.{Text, terminated, unterminated, u16_at}
use Rattle.reply_bytes.specs.declared.texts.Span.{Span}

-- n units from place i on
unfoldable pub units_at : ℕ → ℕ → List ℕ → List ℕ
units_at zero i r = []
units_at (suc n) i r = u16_at r i ∷ units_at n (i + 2) r

-- Spans: units that stand in bytes, named by where they start and how many they are.

-- the units of a span
unfoldable pub spanned : List ℕ → Span → List ℕ
spanned r s = units_at s.units s.from r

-- the span lies inside the bytes
abbrev pub Inside : List ℕ → Span → Type 0
Inside r s = s.from + 2 * s.units ≤ length r

-- the units of a span from place a up to place e
abbrev pub part_of : Span → ℕ → ℕ → Span
part_of s a e = record { from = s.from + 2 * a; units = e - a }

-- what reading a text that starts at byte i answers, n units of it read already
unfoldable pub text_end : ℕ → ℕ → Text → Option Span
text_end i n (terminated s) = Some (record { from = i; units = n + length s })
text_end i n unterminated = None
