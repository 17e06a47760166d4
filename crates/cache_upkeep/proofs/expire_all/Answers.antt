use native.Mathlib.Omega.{arith}
use Rattle.cache_upkeep.proofs.CallLaws.{all_refused, sofar_start, sofar_more, sofar_end}
use borrow.Author.Rules.{rules}
use Rattle.cache_upkeep.proofs.expire_all.Goals as goal

pub returns-then-not-referrals_in_order : goal.returns-then-not-referrals_in_order
returns-then-not-referrals_in_order c = all_refused _ c.referrals_in_order.ensures c.if-not-referrals_in_order.true

pub loop-i-init : goal.loop-i-init
loop-i-init c = (search rules, (search rules, sofar_start _ c.referrals_in_order.ensures c.if-not-referrals_in_order.false))

pub expire_at-requires : goal.expire_at-requires
expire_at-requires c = (c.loop-i.invariant.1.1.order, omega arith)

pub loop-i-preserved : goal.loop-i-preserved
loop-i-preserved c =
    (search rules, (search rules, sofar_more _ _ _ c.loop-i.invariant.1.1 c.expire_at.ensures))

pub returns : goal.returns
returns c =
    sofar_end _ _ _ c.loop-i.invariant.1.1 c.referrals_in_order.ensures c.if-not-referrals_in_order.false (omega arith)
