use Rattle.walk_store.proofs.reply_taken.TakenLaws.{dc_there, domain_at_lem, unread_dcs, dcs_wanted, dcs_taken}
use Rattle.walk_store.proofs.reply_taken.take_dcs.Goals as goal

pub returns-in_default : goal.returns-in_default
returns-in_default c = dc_there c.args.refs.now c.args.doms.now c.args.path.now c.args.g.size c.args.g.hit c.args.q c.requires.0 c.requires.1 c.args.reply.now c.host.ensures c.find_domain.ensures c.in_default.is

pub returns-in-Err : goal.returns-in-Err
returns-in-Err c = let whole = unread_dcs c.args.refs.now c.args.doms.now c.args.path.now c.args.g.size c.args.g.hit c.args.q c.requires.0 c.requires.1 c.args.reply.now c.host.ensures c.find_domain.ensures _ c.in-Err.ensures.found c.unread_taken.ensures c.args.saved.now in record { turn = whole.0; back = whole.1.0; after = whole.1.1 }

pub save_in-requires : goal.save_in-requires
save_in-requires c = (domain_at_lem c.args.refs.now c.args.doms.now c.args.path.now c.args.g.size c.args.g.hit c.args.q c.requires.0 c.requires.1 c.args.reply.now c.host.ensures c.find_domain.ensures _ c.in-Some.is).fits

pub store_dcs-requires : goal.store_dcs-requires
store_dcs-requires c = dcs_wanted c.args.refs.now c.args.doms.now c.args.path.now c.args.g.size c.args.g.hit c.args.q c.requires.0 c.requires.1 c.args.reply.now c.host.ensures c.find_domain.ensures _ c.in-Ok.ensures.found c.in-Ok.ensures.within _ c.in-Some.is

pub returns-in-Ok : goal.returns-in-Ok
returns-in-Ok c = let whole = dcs_taken c.args.refs.now c.args.doms.now c.args.path.now c.args.g.size c.args.g.hit c.args.q c.requires.0 c.requires.1 c.args.reply.now c.host.ensures c.find_domain.ensures _ c.in-Ok.ensures.found c.in-Ok.ensures.within _ c.in-Some.is c.args.saved.now c.save_in.ensures c.store_dcs.ensures in record { turn = whole.0; back = whole.1.0; after = whole.1.1 }
