use mathlib.Core.Path.{sym, ◌∙◌}
use native.Mathlib.Omega.{arith}
use Rattle.listing_read.specs.listing_rules.Entries.{lines_of}
use Rattle.listing_read.proofs.check_listing.TextLaws.{rested_start, count_wrong, count_on, count_short, count_done, count_end}
use borrow.Author.Rules.{rules}
use Rattle.listing_read.proofs.check_listing.count_entries.Goals as goal

pub loop-line-init : goal.loop-line-init
loop-line-init c = (omega arith, (omega arith, rested_start (lines_of c.args.text.now)))

pub returns-in_err-least : goal.returns-in_err-least
returns-in_err-least c =
    let l = c.loop-line in
    c.from_residual.ensures ∙ sym (l.invariant.1.1 ∙ count_wrong c.in-Some.ensures l.j l.least l.count c.line_step.ensures c.in_err-least.was)

pub returns-then-j-least : goal.returns-then-j-least
returns-then-j-least c =
    let l = c.loop-line in
    sym (l.invariant.1.1 ∙ count_short c.in-Some.ensures l.j l.least l.count c.line_step.ensures c.in_ok-least.was c.opens.ensures c.if-opens.true c.if-j-least.true)

pub loop-line-preserved-then-opens : goal.loop-line-preserved-then-opens
loop-line-preserved-then-opens c =
    let l = c.loop-line in
    let s = c.in-Some.ensures.shorter in
    (omega arith, (omega arith, l.invariant.1.1 ∙ count_done c.in-Some.ensures l.j l.least l.count c.line_step.ensures c.in_ok-least.was c.opens.ensures c.if-opens.true c.if-j-least.false))

pub loop-line-preserved : goal.loop-line-preserved
loop-line-preserved c =
    let l = c.loop-line in
    let s = c.in-Some.ensures.shorter in
    (omega arith, (omega arith, l.invariant.1.1 ∙ count_on c.in-Some.ensures l.j l.least l.count c.line_step.ensures c.in_ok-least.was c.opens.ensures c.if-opens.false))

pub returns : goal.returns
returns c = let l = c.loop-line in sym (l.invariant.1.1 ∙ count_end l.rest.now (search rules) l.j l.least l.count)
