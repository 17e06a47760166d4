use Rattle.unc.specs.names.Code.{good_count}
use Prim.Native.Nat.{◌≤◌, ◌-◌}
use lib.ListN.{drop}
use mathlib.Core.Path.{◌≡◌}
use Rattle.unc.proofs.text.good_count.Given as goal

abbrev pub invariant-loop-s : goal.invariant-loop-s
invariant-loop-s g l =
    (l.from ≤ l.units) × ((l.n ≤ l.from) × (good_count 0 (g.T.Text.units l.s) ≡ good_count l.n (drop l.from (g.T.Text.units l.s))))

abbrev pub decreases-loop-s : goal.decreases-loop-s
decreases-loop-s g l = l.units - l.from
