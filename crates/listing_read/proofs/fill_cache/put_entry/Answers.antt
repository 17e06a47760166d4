use Rattle.listing_read.proofs.fill_cache.EntryLaws.{prefix_there, prefix_next, entry_read}
use borrow.Author.Rules.{rules}
use Rattle.listing_read.proofs.fill_cache.put_entry.Goals as goal

pub put_path-settings-requires : goal.put_path-settings-requires
put_path-settings-requires c = (search rules, (search rules, prefix_there c.args.text.now c.args.i c.args.at c.requires.1))

pub put_settings-targets-requires : goal.put_settings-targets-requires
put_settings-targets-requires c = (search rules, prefix_next c.args.text.now c.args.i c.args.at c.requires.1 c.put_path-settings.ensures)

pub returns : goal.returns
returns c = entry_read c.args.text.now c.args.i c.args.at c.requires.1 c.args.refs.now c.requires.0 c.clear_place.ensures c.put_path-settings.ensures c.put_settings-targets.ensures c.put_targets.ensures
