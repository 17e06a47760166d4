use mathlib.Core.Path.{refl, sym, ◌∙◌}
use Rattle.cache_store.proofs.entry_after_reply.StoredLaws.{new_fits, held_there, stored_refreshed, stored_inserted}
use Rattle.cache_store.proofs.new_or_refreshed.store.Goals as goal

pub insert-requires : goal.insert-requires
insert-requires c =
    (new_fits c.args.cache.now c.requires.0 c.args.clock c.new_place-place.ensures, c.requires.1)

pub returns-in-None : goal.returns-in-None
returns-in-None c =
    stored_inserted c.args.cache.now c.requires.0 c.args.reply.now c.args.found c.args.interlink c.args.clock _ c.requires.1
    c.find_prefix.ensures c.in-None.is c.new_place-place.ensures c.insert.ensures

pub refresh-requires : goal.refresh-requires
refresh-requires c =
    (held_there c.args.cache.now c.requires.0 _ _ (sym c.find_prefix.ensures ∙ c.in-Some.is), c.requires.1)

pub returns-in-Some : goal.returns-in-Some
returns-in-Some c =
    stored_refreshed c.args.cache.now c.requires.0 _ _ (sym c.find_prefix.ensures ∙ c.in-Some.is)
    c.args.reply.now c.args.found c.args.interlink c.args.clock c.requires.1 refl c.refresh.ensures.entry
