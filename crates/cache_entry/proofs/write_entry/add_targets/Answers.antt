use Rattle.std.proofs.Common.{◌≡◌, length, map, ◌∙◌, arith}
use Rattle.std.proofs.lemmas.List.{length-map}
use Rattle.laws.proofs.Every.{every_at}
use Rattle.laws.proofs.Listed.{get_d_map}
use Rattle.reply_read.specs.referral.Code.{target_shown}
use Rattle.cache_entry.specs.write_entry.Code.{add_target, kept_fits}
use Rattle.cache_entry.proofs.write_entry.WritingLaws.{short, keeps_target, all_short, all_more, all_done}
use Rattle.cache_entry.proofs.write_entry.add_targets.Goals as goal

pub add_target-requires : goal.add_target-requires
add_target-requires c = (
  omega arith,
  (
    omega arith,
    every_at (kept_fits c.args.reply.now) c.args.given.now c.requires.1.1 c.loop-n.n _ (omega arith),
  ),
)

pub loop-n-preserved : goal.loop-n-preserved
loop-n-preserved c =
    let all = map (target_shown c.args.reply.now) c.args.given.now in
    let l : length all ≡ length c.args.given.now = length-map c.args.given.now (target_shown c.args.reply.now) in
    c.loop-n.invariant
    ∙ all_more add_target short keeps_target c.loop-n.cache c.args.i (omega arith) all c.loop-n.n _ (omega arith) (omega arith)
    (all_short c.args.reply.now c.args.given.now c.requires.1.1)
    (get_d_map (target_shown c.args.reply.now) c.args.given.now c.loop-n.n _ _ (omega arith))
    c.add_target.ensures

pub returns : goal.returns
returns c =
    let all = map (target_shown c.args.reply.now) c.args.given.now in
    let l : length all ≡ length c.args.given.now = length-map c.args.given.now (target_shown c.args.reply.now) in
    all_done add_target short keeps_target c.loop-n.cache c.args.i (omega arith) c.loop-n.n all c.loop-n.invariant (omega arith)
