-- The path at a byte.
use mathlib.Core.Path.{refl, sym, ap, ◌∙◌}
use native.Mathlib.Omega.{arith}
use Rattle.reply_bytes.proofs.texts.UnitLaws.{ended_at_lem, unended_at}
use Rattle.reply_read.specs.referral.Replies.{path_of}
use Rattle.reply_read.proofs.referral.TextLaws.{bad_text, path_unended}
use Rattle.reply_read.proofs.referral.path_at.Goals as goal

pub returns-in_default : goal.returns-in_default
returns-in_default c =
    let a = c.args in
    let w = bad_text a.r.now refl (path_unended (unended_at a.r.now a.at (sym c.in_default.is ∙ c.read_text.ensures))) in
    record { path = w.0; inside = w.1 }

pub path_span-requires : goal.path_span-requires
path_span-requires c =
    let a = c.args in
    let w = ended_at_lem a.r.now a.at _ (sym c.in-Some.is ∙ c.read_text.ensures) in
    omega (arith, w.within)

pub returns : goal.returns
returns c =
    let a = c.args in
    let w = ended_at_lem a.r.now a.at _ (sym c.in-Some.is ∙ c.read_text.ensures) in record { path = c.path_span.ensures.path ∙ sym (ap path_of w.is); inside = c.path_span.ensures.inside }
