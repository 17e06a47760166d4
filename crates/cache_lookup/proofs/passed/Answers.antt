use Rattle.std.proofs.Common.{arith}
use Rattle.cache_lookup.proofs.EndLaws.{passed_none, passed_one, passed_on}
use Rattle.cache_lookup.proofs.passed.Goals as goal

pub loop-k-init : goal.loop-k-init
loop-k-init c = passed_none _ _ (omega arith)

pub returns-then-may_match : goal.returns-then-may_match
returns-then-may_match c = (omega arith, c.loop-k.invariant)

pub loop-k-preserved : goal.loop-k-preserved
loop-k-preserved c = passed_one _ _ c.loop-k.invariant (c.may_match.ensures c.if-may_match.false) (omega arith) (omega arith)

pub returns : goal.returns
returns c = (omega arith, passed_on _ _ c.loop-k.invariant (passed_none _ _ (omega arith)))
