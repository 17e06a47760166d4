use mathlib.Core.Path.{◌≡◌}
use Prim.Native.Nat.{◌+◌, ◌≤◌}
use lib.ListN.{length}
use Rattle.listing_read.specs.listing_rules.Entries.{lines_of, groups}
use Rattle.listing_read.specs.check_listing.Code.{counted}
use Rattle.listing_read.proofs.check_listing.TextLaws.{rested}
use Rattle.listing_read.proofs.check_listing.count_entries.Given as goal

abbrev pub invariant-loop-line : goal.invariant-loop-line
invariant-loop-line l = (l.j + length l.rest ≤ length l.text) × ((l.count + length l.rest ≤ length l.text) × (counted (lines_of l.text) ≡ rested l.j l.least l.count (groups (lines_of l.rest))))

abbrev pub decreases-loop-line : goal.decreases-loop-line
decreases-loop-line l = length l.rest
