use mathlib.Core.Path.{sym, ◌∙◌}
use Rattle.listing_read.proofs.check_listing.TextLaws.{apart_other, apart_same, apart_next, apart_end}
use borrow.Author.Rules.{rules}
use Rattle.listing_read.proofs.check_listing.apart_from.Goals as goal
use Rattle.listing_read.proofs.check_listing.apart_from.Goals.{else-is_prefix-via-then-is_prefix+else-same_name, else-is_prefix-via-else-is_prefix}

pub returns-then-same_name : goal.returns-then-same_name
returns-then-same_name c = apart_same c.in-Some.ensures c.args.line.now c.is_prefix.ensures c.if-is_prefix.true c.same_name.ensures c.if-same_name.true ∙ sym c.loop-other.invariant

pub loop-other-preserved : goal.loop-other-preserved
loop-other-preserved c =
    c.loop-other.invariant
    ∙ elim c.else-is_prefix.branch [
      | else-is_prefix-via-then-is_prefix+else-same_name w ↦ apart_next c.in-Some.ensures c.args.line.now c.is_prefix.ensures w.if-is_prefix.true w.same_name.ensures w.if-same_name.false
      | else-is_prefix-via-else-is_prefix w ↦ apart_other c.in-Some.ensures c.args.line.now c.is_prefix.ensures w.if-is_prefix.false
    ]

pub returns : goal.returns
returns c = apart_end c.loop-other.rest.now (search rules) c.args.line.now ∙ sym c.loop-other.invariant
