use Rattle.cache_store.proofs.entry_after_reply.HintLaws.{nowhere, target_path_lem, hinted_is, equal_hit, equal_miss, equal_end}
use Rattle.cache_store.specs.entry_after_reply.Stored.{hinted}
use Rattle.cache_lookup.specs.Code.{entry_at}
use Rattle.cache.specs.order.Memory.{referrals}
use mathlib.Core.Path.{refl, sym, ◌∙◌}
use native.Mathlib.Omega.{arith}
use Rattle.cache_store.proofs.entry_after_reply.HintLaws.{hinted_is, equal_hit, equal_miss, equal_end}
use borrow.Author.Rules.{rules}
use Rattle.cache_store.proofs.entry_after_reply.held_place.Goals as goal

pub loop-j-init : goal.loop-j-init
loop-j-init c = (search rules, refl)

pub returns-then-same_name : goal.returns-then-same_name
returns-then-same_name c =
    sym (c.loop-j.invariant.1
    ∙ equal_hit (hinted (entry_at referrals c.args.i c.args.cache.now)) (entry_at referrals c.args.i c.args.cache.now).targets c.loop-j.j nowhere (omega (arith, c.target_count-count.ensures))
    (target_path_lem (entry_at referrals c.args.i c.args.cache.now) _ c.target.ensures) (hinted_is (entry_at referrals c.args.i c.args.cache.now) _ c.target-path.ensures c.target_hint-hint.ensures (omega arith)) c.same_name.ensures c.if-same_name.true)

pub loop-j-preserved : goal.loop-j-preserved
loop-j-preserved c = (
  omega (arith, c.target_count-count.ensures),
  c.loop-j.invariant.1
      ∙ equal_miss (hinted (entry_at referrals c.args.i c.args.cache.now)) (entry_at referrals c.args.i c.args.cache.now).targets c.loop-j.j nowhere (omega (arith, c.target_count-count.ensures))
      (target_path_lem (entry_at referrals c.args.i c.args.cache.now) _ c.target.ensures) (hinted_is (entry_at referrals c.args.i c.args.cache.now) _ c.target-path.ensures c.target_hint-hint.ensures (omega arith)) c.same_name.ensures c.if-same_name.false,
)

pub returns : goal.returns
returns c =
    sym (c.loop-j.invariant.1 ∙ equal_end _ (entry_at referrals c.args.i c.args.cache.now).targets _ (omega (arith, c.target_count-count.ensures)))
