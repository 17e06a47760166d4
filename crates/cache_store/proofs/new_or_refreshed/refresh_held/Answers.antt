use Rattle.cache.proofs.order.KindLaws.{referral_told}
use Rattle.cache_store.proofs.entry_after_reply.RefreshLaws.{held_ready, held_done}
use Rattle.cache_store.proofs.new_or_refreshed.refresh_held.Goals as goal

pub held_place-hint-requires : goal.held_place-hint-requires
held_place-hint-requires c =
    (c.requires.0.fits, (referral_told _ c.requires.0.good).hinted)

pub put_hint-requires : goal.put_hint-requires
put_hint-requires c =
    held_ready c.args.cache.now c.args.i c.requires.0 c.args.reply.now c.args.found c.args.interlink c.args.clock _ c.settle.ensures _ c.held_place-hint.ensures

pub returns : goal.returns
returns c =
    held_done c.args.cache.now c.args.i c.requires.0 c.args.reply.now c.args.found c.args.interlink c.args.clock _ c.settle.ensures _ c.held_place-hint.ensures c.requires.1 c.put_hint.ensures
