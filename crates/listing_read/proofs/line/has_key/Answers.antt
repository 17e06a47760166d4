use Rattle.std.proofs.Common.{◌∙◌}
use Rattle.listing_read.proofs.line.LineLaws.{key_starts}
use Rattle.listing_read.proofs.line.has_key.Goals as goal

pub returns : goal.returns
returns c = c.starts_with.ensures.value ∙ key_starts c.args.key.now c.args.line.now
