use Rattle.listing_spelling.specs.spell.Spelling.{spelled}
use Rattle.listing_write.specs.Form.{path_line}
use Rattle.listing_write.proofs.FormLaws.{line_key_fits, line_value_fits, line_end_fits, line_put}
use Rattle.listing_write.proofs.put_path.Goals as goal

pub copy_units-requires : goal.copy_units-requires
unfolding path_line
copy_units-requires c = line_key_fits c.args.out.now c.args.at c.args.key.now (spelled c.args.s.now) c.requires

pub put_spelled-end-requires : goal.put_spelled-end-requires
unfolding path_line
put_spelled-end-requires c = line_value_fits c.args.out.now c.args.at c.args.key.now (spelled c.args.s.now) c.requires c.copy_units.ensures

pub end_line-requires : goal.end_line-requires
unfolding path_line
end_line-requires c = line_end_fits c.args.out.now c.args.at c.args.key.now (spelled c.args.s.now) c.requires c.copy_units.ensures c.put_spelled-end.ensures

pub returns : goal.returns
unfolding path_line
returns c = line_put c.args.out.now c.args.at c.args.key.now (spelled c.args.s.now) c.requires c.copy_units.ensures c.put_spelled-end.ensures c.end_line.ensures
