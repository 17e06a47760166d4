use Prim.Native.Nat.{◌+◌}
use mathlib.Core.Path.{◌≡◌}
use mathlib.Core.Bool.{true}
use Rattle.unc.specs.names.Code.{SameWithin}
use Rattle.unc.proofs.text.same_block.Given as goal

abbrev pub invariant-loop-k : goal.invariant-loop-k
invariant-loop-k g l =
    (l.differ ≡ 0 → SameWithin (g.A.Text.units l.a) (g.B.Text.units l.b) l.at (l.at + l.k)) × (l.folds ≡ true → SameWithin (g.A.Text.units l.a) (g.B.Text.units l.b) l.at (l.at + l.k) → l.differ ≡ 0)
