-- A line as its bytes come, piece by piece. As many as the lent room holds are kept; of the rest is known whether they are hex digits, and whether
-- their number is even.
use Rattle.std.specs.Prelude.{ℕ, ◌+◌, ◌-◌, List, [], ◌∷◌, length, take, drop}
use Rattle.laws.specs.Choice.{choose}
use Rattle.laws.specs.Lists.{pasted}
use Rattle.script_lines.specs.line_bytes.Hexes.{is_hex}
use Rattle.script_lines.specs.declared.line_bytes.Rest.{Rest}
use Rattle.script_lines.specs.declared.line_bytes.Rest.TheVariants.{None, Even, Odd, Other}
use Rattle.script_lines.specs.declared.line_bytes.Held.{Held}

-- one digit more
unfoldable pub one_more : Rest → Rest
one_more None = Odd
one_more Even = Odd
one_more Odd = Even
one_more Other = Other

-- one byte more
unfoldable pub next_rest : Rest → ℕ → Rest
next_rest r u = choose (is_hex u) (one_more r) Other

unfoldable pub rest_from : Rest → List ℕ → Rest
rest_from r [] = r
rest_from r (u ∷ s) = rest_from (next_rest r u) s

-- what is held of a line of which the bytes s have come
unfoldable pub held_of : ℕ → List ℕ → Held
held_of room s = record { kept = length (take room s); rest = rest_from None (drop room s) }

-- what is held when a piece more has come, and the room then
unfoldable pub held_after : ℕ → Held → List ℕ → Held
held_after room h p = record { kept = h.kept + length (take (room - h.kept) p); rest = rest_from h.rest (drop (room - h.kept) p) }

unfoldable pub line_after : List ℕ → Held → List ℕ → List ℕ
line_after line h p = pasted line h.kept (take (length line - h.kept) p)
