use Rattle.std.proofs.Common.{refl, sym, drop, rules, arith}
use lib.Seq.{length-take-le}
use Rattle.listing_read.proofs.line.LineLaws.{line_fits}
use Rattle.listing_read.proofs.check_listing.TextLaws.{first_line, no_line}
use Rattle.listing_read.proofs.check_listing.split_line.Goals as goal

pub returns-then-is_empty : goal.returns-then-is_empty
returns-then-is_empty c = no_line c.args.text.now (search rules)

pub slice_bounds-result-end : goal.slice_bounds-result-end
slice_bounds-result-end c = sym (length-take-le c.line_end-end.result c.args.text.now (omega (arith, c.line_end-end.ensures, line_fits (drop 0 c.args.text.now))))

pub overflow_add-end : goal.overflow_add-end
overflow_add-end c = omega (arith, c.line_end-end.ensures, line_fits (drop 0 c.args.text.now))

pub returns : goal.returns
returns c = first_line c.args.text.now c.line_end-end.result (search rules) c.line_end-end.ensures refl c.part_from.ensures
