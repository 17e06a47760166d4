use Rattle.cache.specs.places.Layout.{place_at}
use Rattle.listing_write.proofs.EntryLaws.{entry_settings_fit, entry_counts_fit, entry_targets_fit, entry_put}
use Rattle.listing_write.proofs.put_entry.Goals as goal

pub put_settings-a-requires : goal.put_settings-a-requires
put_settings-a-requires c = (c.requires.0, entry_settings_fit c.args.out.now c.args.at (place_at c.args.i c.args.cache.now) c.requires.1)

pub put_counts-b-requires : goal.put_counts-b-requires
put_counts-b-requires c = (c.requires.0, entry_counts_fit c.args.out.now c.args.at (place_at c.args.i c.args.cache.now) c.requires.1 c.put_settings-a.ensures)

pub put_targets-requires : goal.put_targets-requires
put_targets-requires c = (c.requires.0, entry_targets_fit c.args.out.now c.args.at (place_at c.args.i c.args.cache.now) c.requires.1 c.put_settings-a.ensures c.put_counts-b.ensures)

pub returns : goal.returns
returns c = entry_put c.args.out.now c.args.at (place_at c.args.i c.args.cache.now) c.requires.1 c.put_settings-a.ensures c.put_counts-b.ensures c.put_targets.ensures
