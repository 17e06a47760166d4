use Rattle.dfsc_memory.proofs.UnitLaws.{referral_room, referral_closed}
use Rattle.dfsc.proofs.dfsc_answer_referral.Goals as goal

pub close-requires : goal.close-requires
close-requires c = referral_room c.args.refs.now c.args.doms.now c.args.walk.now c.args.status c.args.reply.now c.args.clock c.args.out.now c.head_units-n.ensures c.held-w.ensures _ _ c.answer_referral-o.ensures

pub returns : goal.returns
returns c = referral_closed c.args.refs.now c.args.doms.now c.args.walk.now c.args.status c.args.reply.now c.args.clock c.args.out.now c.head_units-n.ensures c.held-w.ensures _ _ c.answer_referral-o.ensures c.close.ensures.number (c.close.ensures.units _)
