use mathlib.Core.Path.{◌≡◌}
use lib.ListN.{length}
use Rattle.listing_read.specs.listing_rules.Entries.{lines_of}
use Rattle.listing_read.specs.check_listing.Code.{apart_from}
use Rattle.listing_read.proofs.check_listing.apart_from.Given as goal

abbrev pub invariant-loop-other : goal.invariant-loop-other
invariant-loop-other l = apart_from l.line (lines_of l.text) ≡ apart_from l.line (lines_of l.rest)

abbrev pub decreases-loop-other : goal.decreases-loop-other
decreases-loop-other l = length l.rest
