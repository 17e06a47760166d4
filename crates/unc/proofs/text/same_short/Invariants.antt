use lib.ListN.{length}
use Rattle.unc.specs.names.Code.{SameWithin}
use Rattle.unc.proofs.text.same_short.Given as goal

abbrev pub invariant-loop-i : goal.invariant-loop-i
invariant-loop-i g l = SameWithin (g.A.Text.units l.a) (g.B.Text.units l.b) l.i (length (g.A.Text.units l.a))
