use native.Mathlib.Omega.{arith}
use mathlib.Core.Path.{sym}
use Rattle.laws.proofs.Pasting.{pasted_nil}
use Rattle.walk_steps.proofs.walk_texts.TextLaws.{within_more, within_all}
use Rattle.walk_steps.proofs.walk_texts.copy_apart.Goals as goal

pub loop-i-init : goal.loop-i-init
loop-i-init c = sym (pasted_nil _ _)

pub loop-i-preserved : goal.loop-i-preserved
loop-i-preserved c = within_more _ _ _ _ c.loop-i.i c.loop-i.invariant c.requires.1.1 (omega arith) (omega arith) (omega arith)

pub returns : goal.returns
returns c = within_all _ _ _ _ c.loop-i.i c.loop-i.invariant (omega arith) (omega arith)
