use Rattle.walk_store.proofs.after_reply.BackLaws.{on_ends, on_dcs, on_entry_lem}
use mathlib.Core.Path.{refl}
use Rattle.walk_store.proofs.after_reply.rest_after.Goals as goal

pub from_stored-requires : goal.from_stored-requires
from_stored-requires c = (c.requires.ready, (c.requires.usable _ _ c.in-Entry.is, refl))

pub returns-in-Ends : goal.returns-in-Ends
returns-in-Ends c = on_ends c.args.refs.now c.args.doms.now c.args.rooms.now c.args.g c.args.q.kind c.args.taken c.requires.ready.standing _ _ c.in-Ends.is c.rest.ensures

pub returns-in-Dcs : goal.returns-in-Dcs
returns-in-Dcs c = on_dcs c.args.refs.now c.args.doms.now c.args.rooms.now c.args.g c.args.q.kind c.args.taken _ c.in-Dcs.is c.from_domain.ensures

pub returns-in-Entry : goal.returns-in-Entry
returns-in-Entry c = on_entry_lem c.args.refs.now c.args.doms.now c.args.rooms.now c.args.g c.args.q.kind c.args.taken _ _ c.in-Entry.is c.is_for_sysvol.ensures c.from_stored.ensures
