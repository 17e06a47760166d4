-- The DC name in a text.
use mathlib.Core.Path.{ap, ◌∙◌}
use Rattle.reply_bytes.specs.texts.Code.{spanned}
use Rattle.reply_read.specs.referral.Code.{text_shown}
use Rattle.reply_read.proofs.name_lists.ListLaws.{kept_shown, dc_told}
use Rattle.reply_read.proofs.name_lists.dc_span.Goals as goal

pub returns-clause-name : goal.returns-clause-name
returns-clause-name c =
    let r = c.args.r.now in
    ap (text_shown r) c.then_some.ensures ∙ (kept_shown r c.good_name.result c.bare-b.result ∙ dc_told (spanned r c.args.s) c.bare-b.ensures.name c.good_name.ensures)
