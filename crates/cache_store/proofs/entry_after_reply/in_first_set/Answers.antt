use Rattle.cache_lookup.specs.Code.{entry_at}
use Rattle.cache.specs.order.Memory.{referrals}
use mathlib.Core.Path.{sym, ◌∙◌}
use native.Mathlib.Omega.{arith}
use Rattle.cache_store.proofs.entry_after_reply.HintLaws.{set_start, set_more, set_stop, set_end_lem, target_mark}
use borrow.Author.Rules.{rules}
use Rattle.cache_store.proofs.entry_after_reply.in_first_set.Goals as goal

pub loop-k-init : goal.loop-k-init
loop-k-init c = (search rules, set_start _ _)

pub returns-then-target_opens : goal.returns-then-target_opens
returns-then-target_opens c =
    sym (c.loop-k.invariant.1
    ∙ set_stop c.args.hint (entry_at referrals c.args.i c.args.cache.now).targets c.loop-k.k (omega arith) (omega arith) (target_mark (entry_at referrals c.args.i c.args.cache.now) _ c.target_opens.ensures) c.if-target_opens.true)

pub loop-k-preserved : goal.loop-k-preserved
loop-k-preserved c = (
  search rules,
  c.loop-k.invariant.1
      ∙ set_more c.args.hint (entry_at referrals c.args.i c.args.cache.now).targets c.loop-k.k (omega arith) (omega arith) (target_mark (entry_at referrals c.args.i c.args.cache.now) _ c.target_opens.ensures) c.if-target_opens.false,
)

pub returns : goal.returns
returns c = sym (c.loop-k.invariant.1 ∙ set_end_lem c.args.hint (entry_at referrals c.args.i c.args.cache.now).targets c.loop-k.k (omega arith))
