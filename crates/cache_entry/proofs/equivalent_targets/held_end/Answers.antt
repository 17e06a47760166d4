use Rattle.std.proofs.Common.{sym, ◌∙◌, arith, rules}
use Rattle.cache_entry.proofs.equivalent_targets.SetLaws.{end_start, held_stop, held_more, held_last}
use Rattle.cache_entry.proofs.equivalent_targets.held_end.Goals as goal

pub loop-e-init : goal.loop-e-init
loop-e-init c = end_start _ _

pub returns-then-unit-eq1-clause-ends : goal.returns-then-unit-eq1-clause-ends
returns-then-unit-eq1-clause-ends c = sym (c.loop-e.invariant ∙ held_stop _ _ _ c.unit.ensures c.if-unit-eq1.true (omega arith))

pub loop-e-preserved : goal.loop-e-preserved
loop-e-preserved c = c.loop-e.invariant ∙ held_more _ _ _ c.unit.ensures (search rules) (omega arith)

pub returns-clause-ends : goal.returns-clause-ends
returns-clause-ends c = sym (c.loop-e.invariant ∙ (held_last _ _ _ (omega arith) ∙ omega arith))
