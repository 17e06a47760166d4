use mathlib.Core.Path.{◌≡◌}
use lib.ListN.{length}
use Rattle.cache.specs.order.Order.{distinct}
use Rattle.listing_read.specs.listing_rules.Entries.{lines_of}
use Rattle.listing_read.specs.check_listing.Code.{prefix_lines}
use Rattle.listing_read.proofs.check_listing.prefixes_apart.Given as goal

abbrev pub invariant-loop-line : goal.invariant-loop-line
invariant-loop-line l = distinct (prefix_lines (lines_of l.text)) ≡ distinct (prefix_lines (lines_of l.rest))

abbrev pub decreases-loop-line : goal.decreases-loop-line
decreases-loop-line l = length l.rest
