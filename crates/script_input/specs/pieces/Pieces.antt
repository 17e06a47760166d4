-- A line of the input as pieces of it come. A piece may hold many lines, and a line may go over many pieces; a byte 0A hex ends it. "The last line may end with the
-- input": where no byte more comes, a part of a line that is held is a line, and after it the input ends.
use Rattle.std.specs.Prelude.{ℕ, ◌+◌, Bool, true, false, List, length, take, drop, eqb, ltb}
use Rattle.laws.specs.Choice.{choose}
use Rattle.listing_read.specs.line.Lines.{line_length}
use Rattle.script_lines.specs.line_bytes.Held.{held_after, line_after}
use Rattle.script_lines.specs.declared.line_bytes.Held.{Held}
use Rattle.script_lines.specs.declared.line_bytes.Rest.TheVariants.{None}
use Rattle.script_lines.specs.declared.lines.Input.{Input}
use Rattle.script_lines.specs.declared.lines.Input.TheVariants.{Part, Line, End}
use Rattle.script_input.specs.declared.pieces.Came.{Came}

abbrev pub came : Held → ℕ → Input → Bool → Came
came held at input ended = record { held = held; at = at; input = input; ended = ended }

-- what is held where a line begins
unfoldable pub no_line : Held
no_line = record { kept = 0; rest = None }

unfoldable pub nothing_came : Came
nothing_came = came no_line 0 Line false

-- a part of a line goes on; after a line a new one begins
unfoldable pub going_on : Input → Held → Held
going_on Part h = h
going_on Line h = no_line
going_on End h = no_line

-- no byte more
unfoldable pub last_came : Held → ℕ → Came
last_came h at = choose (eqb h.kept 0) (came h at End true) (came h at Line true)

-- the bytes from `at` to the end of the line or of the piece
unfoldable pub line_in : List ℕ → ℕ → List ℕ
line_in units at = take (line_length (drop at units)) (drop at units)

-- a line has come up to place e of a piece of n bytes
unfoldable pub up_to : Held → ℕ → ℕ → Came
up_to h e n = choose (eqb e n) (came h e Part false) (came h (e + 1) Line false)

-- what has come, and the memory of the line then
pub record Arrived : Type 0 where
  pub came : Came
  pub line : List ℕ

abbrev pub arrived : Came → List ℕ → Arrived
arrived c line = record { came = c; line = line }

unfoldable pub arrives : List ℕ → List ℕ → Held → ℕ → Arrived
arrives units line h at =
    choose (ltb at (length units))
    (arrived (up_to (held_after (length line) h (line_in units at)) (at + line_length (drop at units)) (length units)) (line_after line h (line_in units at)))
    (arrived (last_came h at) line)
