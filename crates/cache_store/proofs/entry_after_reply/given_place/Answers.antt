use mathlib.Core.Path.{sym, ◌∙◌}
use mathlib.Core.List.{map}
use native.Mathlib.Omega.{arith}
use lib.ListN.{length-map}
use Rattle.laws.proofs.Every.{every_at}
use Rattle.reply_read.specs.referral.Code.{target_shown}
use Rattle.cache.specs.order.Memory.{referrals}
use Rattle.cache_lookup.specs.Code.{entry_at}
use Rattle.cache_entry.specs.write_entry.Code.{kept_fits}
use Rattle.cache_entry.proofs.write_entry.WritingLaws.{kept_inside_lem}
use Rattle.cache_store.specs.entry_after_reply.Stored.{hinted}
use Rattle.cache_store.proofs.entry_after_reply.HintLaws.{nowhere, hinted_is, given_path, equal_hit, equal_miss, equal_end}
use Rattle.cache_store.proofs.entry_after_reply.given_place.Goals as goal

pub same_span-requires : goal.same_span-requires
same_span-requires c =
    kept_inside_lem c.args.reply.now _ (every_at (kept_fits c.args.reply.now) c.args.given.now c.requires.1.1.1 c.loop-n.n _ (omega arith))

pub returns-then-same_span : goal.returns-then-same_span
returns-then-same_span c =
    let m = length-map c.args.given.now (target_shown c.args.reply.now) in
    sym (c.loop-n.invariant
    ∙ equal_hit (hinted (entry_at referrals c.args.i c.args.cache.now)) (map (target_shown c.args.reply.now) c.args.given.now) c.loop-n.n nowhere (omega arith)
    (given_path c.args.reply.now c.args.given.now c.loop-n.n _ (omega arith))
    (hinted_is (entry_at referrals c.args.i c.args.cache.now) _ c.target-path.ensures c.target_hint-hint.ensures (omega arith)) c.same_span.ensures c.if-same_span.true)

pub loop-n-preserved : goal.loop-n-preserved
loop-n-preserved c =
    let m = length-map c.args.given.now (target_shown c.args.reply.now) in
    c.loop-n.invariant
    ∙ equal_miss (hinted (entry_at referrals c.args.i c.args.cache.now)) (map (target_shown c.args.reply.now) c.args.given.now) c.loop-n.n nowhere (omega arith)
    (given_path c.args.reply.now c.args.given.now c.loop-n.n _ (omega arith))
    (hinted_is (entry_at referrals c.args.i c.args.cache.now) _ c.target-path.ensures c.target_hint-hint.ensures (omega arith)) c.same_span.ensures c.if-same_span.false

pub returns : goal.returns
returns c =
    let m = length-map c.args.given.now (target_shown c.args.reply.now) in
    sym (c.loop-n.invariant ∙ equal_end _ (map (target_shown c.args.reply.now) c.args.given.now) _ (omega arith))
