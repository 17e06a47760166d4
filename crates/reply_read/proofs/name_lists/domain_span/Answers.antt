-- The domain name in a text.
use mathlib.Core.Path.{sym, ap, ◌∙◌}
use native.Mathlib.Omega.{arith}
use Rattle.reply_bytes.specs.texts.Code.{spanned}
use Rattle.reply_bytes.proofs.texts.UnitLaws.{length_spanned}
use Rattle.reply_read.specs.referral.Code.{text_shown}
use Rattle.reply_read.proofs.name_lists.ListLaws.{rest_spanned, kept_shown, domain_unled, domain_told}
use Rattle.unc.proofs.names.FormLaws.{past_end}
use Rattle.reply_read.proofs.name_lists.domain_span.Goals as goal
use Rattle.reply_read.proofs.name_lists.domain_span.Goals.{then-s-eq0-via-then-s-eq0, then-s-eq0-via-else-s-eq0+then-unit_of-ne-BACKSLASH}

pub returns-then-s-eq0-clause-name : goal.returns-then-s-eq0-clause-name
unfolding text_shown
returns-then-s-eq0-clause-name c =
    let u = spanned c.args.r.now c.args.s in
    elim c.then-s-eq0.branch [
      | then-s-eq0-via-then-s-eq0 w ↦ sym (domain_unled u (past_end u 0 (omega (arith, length_spanned c.args.r.now c.args.s))))
      | then-s-eq0-via-else-s-eq0+then-unit_of-ne-BACKSLASH w ↦ sym (domain_unled u (λ e. w.if-unit_of-ne-BACKSLASH.true (w.unit_of.ensures ∙ e)))
    ]

pub returns-clause-name : goal.returns-clause-name
returns-clause-name c =
    let r = c.args.r.now in
    ap (text_shown r) c.then_some.ensures
    ∙ (kept_shown r c.good_name.result c.part-b.result
    ∙ domain_told (spanned r c.args.s) (sym c.unit_of.ensures ∙ c.if-unit_of-ne-BACKSLASH.false) (ap (spanned r) c.part-b.ensures ∙ rest_spanned r c.args.s (omega arith))
    c.good_name.ensures)
