use Rattle.walk_store.proofs.reply_taken.TakenLaws.{takes_dcs, takes_named, dcs_succeed, referral_succeeds_lem, none_succeeds}
use Rattle.walk_store.proofs.reply_taken.take_reply.Goals as goal

pub take_dcs-requires : goal.take_dcs-requires
take_dcs-requires c = takes_dcs c.args.refs.now c.args.doms.now c.args.path.now c.args.g.size c.args.g.hit c.args.q c.requires c.args.reply.now c.args.g.clock c.reply_awaited.ensures c.in-DcNames.is

pub take_referral-requires : goal.take_referral-requires
take_referral-requires c = takes_named c.args.refs.now c.args.doms.now c.args.path.now c.args.g.size c.args.g.hit c.args.q c.requires c.args.reply.now c.args.g.clock c.reply_awaited.ensures c.in-Referral.is

pub returns-in-DcNames : goal.returns-in-DcNames
returns-in-DcNames c = let whole = dcs_succeed c.args.refs.now c.args.doms.now c.args.path.now c.args.g.size c.args.g.hit c.args.q c.requires c.args.reply.now c.args.g.clock c.reply_awaited.ensures c.args.saved.now c.in-DcNames.is (c.take_dcs.ensures.turn, (c.take_dcs.ensures.back, c.take_dcs.ensures.after)) in record { turn = whole.0; back = whole.1.0; after = whole.1.1 }

pub returns-in-Referral : goal.returns-in-Referral
returns-in-Referral c = let whole = referral_succeeds_lem c.args.refs.now c.args.doms.now c.args.path.now c.args.g.size c.args.g.hit c.args.q c.requires c.args.reply.now c.args.g.clock c.reply_awaited.ensures c.args.saved.now c.in-Referral.is (c.take_referral.ensures.turn, (c.take_referral.ensures.back, c.take_referral.ensures.after)) in record { turn = whole.0; back = whole.1.0; after = whole.1.1 }

pub returns-in-NoReply : goal.returns-in-NoReply
returns-in-NoReply c = let whole = none_succeeds c.args.refs.now c.args.doms.now c.args.path.now c.args.g.size c.args.g.hit c.args.q c.requires c.args.reply.now c.args.g.clock c.reply_awaited.ensures c.in-NoReply.is c.args.saved.now in record { turn = whole.0; back = whole.1.0; after = whole.1.1 }
