use Rattle.listing_spelling.specs.spell.Spelling.{decimal}
use Rattle.listing_write.specs.Form.{number_line}
use Rattle.listing_write.proofs.FormLaws.{line_key_fits, line_value_fits, line_end_fits, line_put}
use Rattle.listing_write.proofs.put_number.Goals as goal

pub copy_units-requires : goal.copy_units-requires
unfolding number_line
copy_units-requires c = line_key_fits c.args.out.now c.args.at c.args.key.now (decimal c.args.n) c.requires

pub put_decimal-end-requires : goal.put_decimal-end-requires
unfolding number_line
put_decimal-end-requires c = line_value_fits c.args.out.now c.args.at c.args.key.now (decimal c.args.n) c.requires c.copy_units.ensures

pub end_line-requires : goal.end_line-requires
unfolding number_line
end_line-requires c = line_end_fits c.args.out.now c.args.at c.args.key.now (decimal c.args.n) c.requires c.copy_units.ensures c.put_decimal-end.ensures

pub returns : goal.returns
unfolding number_line
returns c = line_put c.args.out.now c.args.at c.args.key.now (decimal c.args.n) c.requires c.copy_units.ensures c.put_decimal-end.ensures c.end_line.ensures
