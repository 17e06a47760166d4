-- The order of one place, free or used.
use native.Mathlib.Omega.{arith}
use Rattle.cache.proofs.order.TestLaws.{place_blank, place_domain, place_referral}
use Rattle.cache.proofs.order.place_ordered.Goals as goal

pub returns-then-piece-eq0 : goal.returns-then-piece-eq0
returns-then-piece-eq0 c = place_blank _ _ c.all_zero.ensures c.if-piece-eq0.true (omega arith)

pub returns-then-domain : goal.returns-then-domain
returns-then-domain c = place_domain _ _ c.domain_ordered.ensures c.if-domain.true c.if-piece-eq0.false

pub returns-else-domain : goal.returns-else-domain
returns-else-domain c = place_referral _ _ c.referral_ordered.ensures c.if-domain.false c.if-piece-eq0.false
