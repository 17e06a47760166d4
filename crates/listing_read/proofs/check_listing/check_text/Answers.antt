use mathlib.Core.Path.{◌∙◌}
use Rattle.listing_read.proofs.check_listing.ListingLaws.{check_unended, check_bad, check_then}
use Rattle.listing_read.proofs.check_listing.check_text.Goals as goal

pub returns-then-not-is_ended : goal.returns-then-not-is_ended
returns-then-not-is_ended c = check_unended _ c.is_ended.ensures c.if-not-is_ended.true

pub returns-in_err-n : goal.returns-in_err-n
returns-in_err-n c = c.from_residual.ensures ∙ check_bad _ c.count_entries.ensures c.in_err-n.was

pub returns : goal.returns
returns c = c.then_some.ensures ∙ check_then _ c.is_ended.ensures c.if-not-is_ended.false c.count_entries.ensures c.in_ok-n.was c.prefixes_apart.ensures
