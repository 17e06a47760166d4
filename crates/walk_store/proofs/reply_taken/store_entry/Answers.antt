use Rattle.walk_store.proofs.reply_taken.TakenLaws.{entry_saves, entry_stores, entry_taken}
use Rattle.walk_store.proofs.reply_taken.store_entry.Goals as goal

pub save_in-requires : goal.save_in-requires
save_in-requires c = entry_saves c.args.refs.now c.args.doms.now c.args.path.now c.args.g.size c.args.g.clock c.args.g.hit c.args.q c.args.reply.now c.args.found c.requires.1.0 c.requires.1.1 c.set_hint-hinted.ensures c.is_interlink-interlink.ensures c.store_place-place.ensures

pub store-requires : goal.store-requires
store-requires c = entry_stores c.args.refs.now c.args.doms.now c.args.path.now c.args.g.size c.args.g.clock c.args.g.hit c.args.q c.args.reply.now c.args.found c.requires.1.0 c.requires.1.1 c.set_hint-hinted.ensures c.is_interlink-interlink.ensures c.store_place-place.ensures

pub returns : goal.returns
returns c = let whole = entry_taken c.args.refs.now c.args.doms.now c.args.path.now c.args.g.size c.args.g.clock c.args.g.hit c.args.q c.args.reply.now c.args.found c.requires.1.0 c.requires.1.1 c.set_hint-hinted.ensures c.is_interlink-interlink.ensures c.store_place-place.ensures c.args.saved.now c.save_in.ensures c.store.ensures in record { turn = whole.0; back = whole.1.0; after = whole.1.1 }
