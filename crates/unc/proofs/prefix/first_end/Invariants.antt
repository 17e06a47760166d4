use Rattle.unc.specs.names.Paths.{first_of}
use Prim.Native.Nat.{◌+◌}
use lib.ListN.{length, drop}
use mathlib.Core.Path.{◌≡◌}
use Rattle.unc.proofs.prefix.first_end.Given as goal

abbrev pub invariant-loop-i : goal.invariant-loop-i
invariant-loop-i l = length (first_of l.k l.s) ≡ l.i + length (first_of l.left (drop l.i l.s))
