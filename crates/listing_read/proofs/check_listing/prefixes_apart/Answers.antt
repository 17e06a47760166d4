use mathlib.Core.Path.{sym, ◌∙◌}
use Rattle.listing_read.proofs.check_listing.TextLaws.{distinct_other, distinct_same, distinct_next, distinct_end}
use borrow.Author.Rules.{rules}
use Rattle.listing_read.proofs.check_listing.prefixes_apart.Goals as goal
use Rattle.listing_read.proofs.check_listing.prefixes_apart.Goals.{else-is_prefix-via-then-is_prefix+else-not-apart_from, else-is_prefix-via-else-is_prefix}

pub returns-then-not-apart_from : goal.returns-then-not-apart_from
returns-then-not-apart_from c = distinct_same c.in-Some.ensures c.is_prefix.ensures c.if-is_prefix.true c.apart_from.ensures c.if-not-apart_from.true ∙ sym c.loop-line.invariant

pub loop-line-preserved : goal.loop-line-preserved
loop-line-preserved c =
    c.loop-line.invariant
    ∙ elim c.else-is_prefix.branch [
      | else-is_prefix-via-then-is_prefix+else-not-apart_from w ↦ distinct_next c.in-Some.ensures c.is_prefix.ensures w.if-is_prefix.true w.apart_from.ensures w.if-not-apart_from.false
      | else-is_prefix-via-else-is_prefix w ↦ distinct_other c.in-Some.ensures c.is_prefix.ensures w.if-is_prefix.false
    ]

pub returns : goal.returns
returns c = distinct_end c.loop-line.rest.now (search rules) ∙ sym c.loop-line.invariant
