use mathlib.Core.Path.{◌≡◌, sym, ap, ◌∙◌}
use native.Mathlib.Omega.{arith}
use lib.ListN.{length, drop, length-drop}
use Rattle.listing_spelling.proofs.unspell.UnspelledLaws.{form_start, form_stands, form_escape, form_bad, form_end, escape_within, rest_from}
use borrow.Author.Rules.{rules}
use Rattle.listing_spelling.proofs.unspell.spelled_form.Goals as goal
use Rattle.listing_spelling.proofs.unspell.spelled_form.Goals.{then-stands, else-stands+then-is_escape}

pub loop-u-init : goal.loop-u-init
loop-u-init c = (omega arith, form_start _)

pub slice_bounds-rest-count : goal.slice_bounds-rest-count
slice_bounds-rest-count c = escape_within _ (sym c.is_escape.ensures ∙ c.if-is_escape.true)

pub slice_bounds-rest-start : goal.slice_bounds-rest-start
slice_bounds-rest-start c = let h = escape_within _ (sym c.is_escape.ensures ∙ c.if-is_escape.true) in search rules

pub returns-else-is_escape : goal.returns-else-is_escape
returns-else-is_escape c =
    form_bad c.loop-u.n c.in-Some.ensures.cases.0 (sym c.stands.ensures ∙ c.if-stands.false) (sym c.is_escape.ensures ∙ c.if-is_escape.false) ∙ sym c.loop-u.invariant.1

pub loop-u-preserved : goal.loop-u-preserved
loop-u-preserved c =
    let l = c.loop-u in
    let e = c.in-Some.ensures.cases.0 in
    elim c.if-stands.branch [
      | then-stands w ↦ rw w.rest-is (omega (arith, ap length e), l.invariant.1 ∙ form_stands l.n e (sym c.stands.ensures ∙ w.if-stands.true))
      | else-stands+then-is_escape w ↦
          let h = sym w.is_escape.ensures ∙ w.if-is_escape.true in
          let f : c.if-stands.rest.now ≡ drop 5 l.rest.now = ap (λ r. r.now) w.rest-is ∙ rest_from 5 l.rest.now in
          rw f (omega (arith, escape_within _ h, length-drop 5 l.rest.now), l.invariant.1 ∙ form_escape l.rest.now l.n h)
    ]

pub returns : goal.returns
returns c = form_end c.loop-u.rest.now c.loop-u.n (search rules) ∙ sym c.loop-u.invariant.1
