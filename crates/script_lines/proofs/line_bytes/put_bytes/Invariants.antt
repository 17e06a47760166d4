use Rattle.script_lines.specs.line_bytes.Hexes.{hex_bytes}
use Rattle.laws.specs.Lists.{pasted}
use lib.ListN.{take}
use mathlib.Core.Path.{◌≡◌}
use Rattle.script_lines.proofs.line_bytes.put_bytes.Given as goal

abbrev pub invariant-loop-i : goal.invariant-loop-i
invariant-loop-i l = l.byte-items ≡ pasted l.initial.byte-items 0 (take l.i (hex_bytes l.s))
