use mathlib.Core.Path.{ap, ◌∙◌}
use native.Mathlib.Omega.{arith}
use Rattle.cache.specs.order.Order.{good_prefix}
use Rattle.listing_spelling.specs.unspell.Reading.{unspelled}
use Rattle.listing_read.proofs.line.LineLaws.{value_long, value_there}
use Rattle.listing_read.proofs.line.good_value.Goals as goal

pub returns-then-n-gt-PATH_UNITS : goal.returns-then-n-gt-PATH_UNITS
returns-then-n-gt-PATH_UNITS c = value_long c.args.s.now c.args.n c.requires.1 c.if-n-gt-PATH_UNITS.true

pub returns : goal.returns
returns c =
    c.good_text.ensures
    ∙ ap good_prefix (value_there _ (unspelled c.args.s.now) c.args.n c.requires.1 (omega (arith, c.requires.1)) c.unspell.ensures)
