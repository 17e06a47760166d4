-- A name without a leading backslash.
use mathlib.Core.Path.{sym, ap, ◌∙◌}
use native.Mathlib.Omega.{arith}
use Rattle.reply_bytes.specs.texts.Code.{spanned}
use Rattle.reply_bytes.proofs.texts.UnitLaws.{length_spanned}
use Rattle.reply_read.proofs.name_lists.ListLaws.{rest_spanned, bare_stays, bare_drops}
use Rattle.unc.proofs.names.FormLaws.{past_end}
use Rattle.reply_read.proofs.name_lists.bare.Goals as goal
use Rattle.reply_read.proofs.name_lists.bare.Goals.{else-s-ne0-via-then-s-ne0+else-unit_of-eq-BACKSLASH, else-s-ne0-via-else-s-ne0}

pub returns-then-unit_of-eq-BACKSLASH-clause-name : goal.returns-then-unit_of-eq-BACKSLASH-clause-name
returns-then-unit_of-eq-BACKSLASH-clause-name c =
    let u = spanned c.args.r.now c.args.s in
    ap (spanned c.args.r.now) c.part.ensures ∙ (rest_spanned c.args.r.now c.args.s (omega arith) ∙ bare_drops u (sym c.unit_of.ensures ∙ c.if-unit_of-eq-BACKSLASH.true))

pub returns-else-s-ne0-clause-name : goal.returns-else-s-ne0-clause-name
returns-else-s-ne0-clause-name c =
    let u = spanned c.args.r.now c.args.s in
    elim c.else-s-ne0.branch [
      | else-s-ne0-via-then-s-ne0+else-unit_of-eq-BACKSLASH w ↦ bare_stays u (λ e. w.if-unit_of-eq-BACKSLASH.false (w.unit_of.ensures ∙ e))
      | else-s-ne0-via-else-s-ne0 w ↦ bare_stays u (past_end u 0 (omega (arith, length_spanned c.args.r.now c.args.s)))
    ]
