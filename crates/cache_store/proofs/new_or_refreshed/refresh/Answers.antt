use Rattle.cache_store.proofs.entry_after_reply.StoredLaws.{all_inside, few_given, equivalent_told}
use borrow.Author.Rules.{rules}
use Rattle.cache_store.proofs.new_or_refreshed.refresh.Goals as goal

pub equivalent-requires : goal.equivalent-requires
equivalent-requires c =
    (c.requires.0.fits, (few_given _ _ c.requires.1, all_inside _ _ c.requires.1.kept))

pub refresh_held-requires : goal.refresh_held-requires
refresh_held-requires c = (c.requires.0, equivalent_told c.args.cache.now c.args.i c.args.reply.now c.args.found c.equivalent.ensures (search rules))

pub refresh_given-requires : goal.refresh_given-requires
refresh_given-requires c = (c.requires.0, (c.requires.1, equivalent_told c.args.cache.now c.args.i c.args.reply.now c.args.found c.equivalent.ensures (search rules)))
