use Rattle.std.proofs.Common.{sym, ◌∙◌, arith}
use Rattle.cache_entry.proofs.equivalent_targets.SetLaws.{end_start, given_stop, given_more, given_last}
use Rattle.cache_entry.proofs.equivalent_targets.given_end.Goals as goal

pub loop-e-init : goal.loop-e-init
loop-e-init c = end_start _ _

pub returns-then-given-e-clause-ends : goal.returns-then-given-e-clause-ends
returns-then-given-e-clause-ends c = sym (c.loop-e.invariant ∙ given_stop c.args.given.now c.loop-e.e _ c.if-given-e.true (omega arith))

pub loop-e-preserved : goal.loop-e-preserved
loop-e-preserved c = c.loop-e.invariant ∙ given_more c.args.given.now c.loop-e.e _ c.if-given-e.false (omega arith)

pub returns-clause-ends : goal.returns-clause-ends
returns-clause-ends c = sym (c.loop-e.invariant ∙ (given_last c.args.given.now c.loop-e.e (omega arith) ∙ omega arith))
