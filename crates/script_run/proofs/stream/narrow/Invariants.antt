-- Copies the units, each of which is a byte.
use mathlib.Core.Path.{◌≡◌}
use lib.ListN.{take}
use Rattle.laws.specs.Lists.{pasted}
use Rattle.script_run.proofs.stream.narrow.Given as goal

abbrev pub invariant-loop-i : goal.invariant-loop-i
invariant-loop-i l = l.bytes ≡ pasted l.initial.bytes 0 (take l.i l.units)
