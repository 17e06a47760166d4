use Rattle.listing_read.proofs.line.LineLaws.{from_place}
use Rattle.listing_read.proofs.line.part_from.Goals as goal

pub returns : goal.returns
returns c = from_place c.args.text.now c.args.at _ c.min.ensures
