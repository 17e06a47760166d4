use native.Mathlib.Omega.{arith}
use mathlib.Core.Path.{sym}
use Rattle.laws.proofs.Pasting.{pasted_nil, copied_more, copied_all}
use Rattle.memory.proofs.copy_units.Goals as goal

pub loop-i-init : goal.loop-i-init
loop-i-init c = sym (pasted_nil _ _)

pub loop-i-preserved : goal.loop-i-preserved
loop-i-preserved c = copied_more _ _ _ _ c.loop-i.invariant (omega arith) (omega arith)

pub returns : goal.returns
returns c = copied_all _ _ _ c.loop-i.i c.loop-i.invariant (omega arith)
