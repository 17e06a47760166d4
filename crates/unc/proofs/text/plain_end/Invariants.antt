use mathlib.Core.Path.{◌≡◌}
use Prim.Native.Nat.{◌+◌}
use lib.ListN.{drop}
use Rattle.unc.specs.names.Code.{plain_length}
use Rattle.unc.proofs.text.plain_end.Given as goal

abbrev pub invariant-loop-i : goal.invariant-loop-i
invariant-loop-i g l =
    l.from + plain_length (drop l.from (g.T.Text.units l.s)) ≡ l.i + plain_length (drop l.i (g.T.Text.units l.s))
