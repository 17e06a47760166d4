-- Compares block after block, from the last on. The invariant: the units from `left` on are equal.
use Prim.Native.Nat.{◌≤◌}
use lib.ListN.{length}
use Rattle.unc.specs.names.Code.{SameWithin}
use Rattle.unc.proofs.text.same_blocks.Given as goal

abbrev pub invariant-loop-left : goal.invariant-loop-left
invariant-loop-left g l = (l.left ≤ length (g.A.Text.units l.a)) × SameWithin (g.A.Text.units l.a) (g.B.Text.units l.b) l.left (length (g.A.Text.units l.a))

abbrev pub decreases-loop-left : goal.decreases-loop-left
decreases-loop-left g l = l.left
