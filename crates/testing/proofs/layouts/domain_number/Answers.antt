-- Number k of domain i.
use mathlib.Core.Path.{sym, ap, ◌∙◌}
use native.Mathlib.Omega.{arith}
use Rattle.reply_read.specs.name_lists.NameLists.{domain_at}
use Rattle.reply_read.proofs.referral.TextLaws.{text_good}
use Rattle.testing.proofs.layouts.WireLaws.{domain_there_lem}
use Rattle.testing.proofs.layouts.domain_number.Goals as goal

pub domain_at-requires : goal.domain_at-requires
domain_at-requires c = (omega (arith, c.entry_at-e.ensures.inside), c.requires.short)

pub returns-in_default : goal.returns-in_default
returns-in_default c =
    absurd (domain_there_lem c.args.r.now c.args.i c.requires _ c.entry_at-e.ensures.start c.domain_at.ensures.name c.in_default.is)

pub returns : goal.returns
returns c =
    let r = c.args.r.now in
    record { span = c.in-Some.s; is = sym (ap (domain_at r) c.entry_at-e.ensures.start) ∙ text_good r c.in-Some.s c.in-Some.is c.domain_at.ensures.name; number = c.span_number.ensures }
