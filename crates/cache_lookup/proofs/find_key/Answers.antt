use Rattle.std.proofs.Common.{sym, ◌∙◌, arith}
use Rattle.cache_lookup.proofs.FindLaws.{key_start, key_hit, key_miss, key_end, key_referral, key_domain}
use Rattle.cache_lookup.proofs.find_key.Goals as goal

pub loop-i-init : goal.loop-i-init
loop-i-init g c = key_start _ _

pub returns-then-key_is-clause-referral : goal.returns-then-key_is-clause-referral
returns-then-key_is-clause-referral g c =
    key_referral _ _ (sym (c.loop-i.invariant ∙ key_hit _ _ _ c.key_is.ensures c.if-key_is.true (omega arith)))

pub returns-then-key_is-clause-domain : goal.returns-then-key_is-clause-domain
returns-then-key_is-clause-domain g c =
    key_domain _ _ (sym (c.loop-i.invariant ∙ key_hit _ _ _ c.key_is.ensures c.if-key_is.true (omega arith)))

pub loop-i-preserved : goal.loop-i-preserved
loop-i-preserved g c = c.loop-i.invariant ∙ key_miss _ _ _ c.key_is.ensures c.if-key_is.false (omega arith)

pub returns-clause-referral : goal.returns-clause-referral
returns-clause-referral g c = key_referral _ _ (sym (c.loop-i.invariant ∙ key_end _ _ _ (omega arith)))

pub returns-clause-domain : goal.returns-clause-domain
returns-clause-domain g c = key_domain _ _ (sym (c.loop-i.invariant ∙ key_end _ _ _ (omega arith)))
