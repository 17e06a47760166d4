use Rattle.std.proofs.Common.{refl, arith}
use Rattle.cache_lookup.proofs.EndLaws.{passed_none, passed_on, passed_one}
use Rattle.cache_lookup.proofs.next_candidate.Goals as goal

pub loop-t-init : goal.loop-t-init
loop-t-init c = passed_none _ _ (omega arith)

pub returns-then-k-lt-TURN : goal.returns-then-k-lt-TURN
returns-then-k-lt-TURN c = (omega arith, (omega arith, passed_on _ _ c.loop-t.invariant c.passed-k.ensures.1))

pub loop-t-preserved : goal.loop-t-preserved
loop-t-preserved c = passed_on _ _ c.loop-t.invariant (passed_on _ _ c.passed-k.ensures.1 (passed_none _ _ (omega arith)))

pub loop-i-init : goal.loop-i-init
loop-i-init c = (omega arith, passed_on _ _ c.loop-t.invariant (passed_none _ _ (omega arith)))

pub returns-then-may_match : goal.returns-then-may_match
returns-then-may_match c = (c.loop-i.invariant.0, (omega arith, c.loop-i.invariant.1))

pub loop-i-preserved : goal.loop-i-preserved
loop-i-preserved c = (omega arith, passed_one _ _ c.loop-i.invariant.1 (c.may_match.ensures c.if-may_match.false) (omega arith) refl)

pub returns : goal.returns
returns c = passed_on _ _ c.loop-i.invariant.1 (passed_none _ _ (omega arith))
