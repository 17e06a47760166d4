use Rattle.laws.specs.Lists.{pasted}
use lib.ListN.{take}
use mathlib.Core.Path.{◌≡◌}
use Rattle.script_lines.proofs.line_bytes.widen.Given as goal

abbrev pub invariant-loop-i : goal.invariant-loop-i
invariant-loop-i l = l.out ≡ pasted l.initial.out 0 (take l.i l.src)
