use Rattle.walk_store.proofs.reply_taken.TakenLaws.{unread_referral, covered_referral, stores_wanted, stores_taken}
use mathlib.Core.Path.{sym}
use lib.Seq.{length-take-le}
use Rattle.walk_store.proofs.reply_taken.take_referral.Goals as goal

pub slice_bounds-read_referral-end : goal.slice_bounds-read_referral-end
slice_bounds-read_referral-end c = sym (length-take-le _ _ c.requires.1.within)

pub returns-in-Err : goal.returns-in-Err
returns-in-Err c = let whole = unread_referral c.args.refs.now c.args.doms.now c.args.path.now c.args.g.size c.args.g.clock c.args.g.hit c.args.q c.args.name c.requires.0 c.requires.1 c.args.reply.now _ c.in-Err.ensures.found c.unread_taken.ensures c.args.saved.now in record { turn = whole.0; back = whole.1.0; after = whole.1.1 }

pub returns-then-covers_nothing : goal.returns-then-covers_nothing
returns-then-covers_nothing c = let whole = covered_referral c.args.refs.now c.args.doms.now c.args.path.now c.args.g.size c.args.g.clock c.args.g.hit c.args.q c.args.name c.requires.0 c.requires.1 c.args.reply.now _ c.in-Ok.ensures.found c.covers_nothing.ensures c.if-covers_nothing.true c.args.saved.now in record { turn = whole.0; back = whole.1.0; after = whole.1.1 }

pub store_entry-requires : goal.store_entry-requires
store_entry-requires c = stores_wanted c.args.refs.now c.args.doms.now c.args.path.now c.args.g.size c.args.g.clock c.args.g.hit c.args.q c.args.name c.requires.0 c.requires.1 c.args.reply.now _ c.in-Ok.ensures.found c.in-Ok.ensures.within

pub returns-else-covers_nothing : goal.returns-else-covers_nothing
returns-else-covers_nothing c = let whole = stores_taken c.args.refs.now c.args.doms.now c.args.path.now c.args.g.size c.args.g.clock c.args.g.hit c.args.q c.args.name c.requires.0 c.requires.1 c.args.reply.now _ c.in-Ok.ensures.found c.covers_nothing.ensures c.if-covers_nothing.false c.args.saved.now (c.store_entry.ensures.turn, (c.store_entry.ensures.back, c.store_entry.ensures.after)) in record { turn = whole.0; back = whole.1.0; after = whole.1.1 }
