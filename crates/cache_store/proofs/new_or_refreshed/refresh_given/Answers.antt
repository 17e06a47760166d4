use Rattle.cache.proofs.order.KindLaws.{referral_told}
use Rattle.cache_store.proofs.entry_after_reply.RefreshLaws.{given_ready, given_done}
use borrow.Author.Rules.{rules}
use Rattle.cache_store.proofs.entry_after_reply.StoredLaws.{few_given}
use Rattle.cache_store.proofs.new_or_refreshed.refresh_given.Goals as goal

pub given_place-hint-requires : goal.given_place-hint-requires
given_place-hint-requires c =
    (c.requires.0.fits, ((referral_told _ c.requires.0.good).hinted, (few_given _ _ c.requires.1.0, c.requires.1.0.kept)))

pub add_targets-requires : goal.add_targets-requires
add_targets-requires c =
    (search rules, (few_given _ _ c.requires.1.0, c.requires.1.0.kept))

pub put_hint-requires : goal.put_hint-requires
put_hint-requires c =
    given_ready c.args.cache.now c.args.i c.requires.0 c.args.reply.now c.args.found c.args.interlink c.args.clock c.requires.1.0 _ _ _ c.keep_key.ensures c.add_targets.ensures c.settle.ensures _ c.given_place-hint.ensures

pub returns : goal.returns
returns c =
    given_done c.args.cache.now c.args.i c.requires.0 c.args.reply.now c.args.found c.args.interlink c.args.clock c.requires.1.0 _ _ _ c.keep_key.ensures c.add_targets.ensures c.settle.ensures _ c.given_place-hint.ensures
    c.requires.1.1 c.put_hint.ensures
