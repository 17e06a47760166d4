-- The domain name of an entry.
use mathlib.Core.Path.{refl, sym, ap, ◌∙◌}
use Prim.Native.Nat.{ℕ, ◌+◌}
use native.Mathlib.Omega.{arith}
use Rattle.reply_bytes.specs.texts.Bytes.{text_from}
use Rattle.reply_bytes.proofs.texts.UnitLaws.{ended_at_lem, unended_at}
use Rattle.reply_read.specs.name_lists.NameLists.{domain_said}
use Rattle.reply_read.specs.referral.Replies.{text_of}
use Rattle.reply_read.proofs.name_lists.ListLaws.{domain_unended}
use Rattle.reply_read.proofs.referral.TextLaws.{bad_text}
use Rattle.reply_read.specs.name_lists.NameLists.{domain_at}
use Rattle.reply_read.proofs.name_lists.domain_at.Goals as goal

pub returns-in_default : goal.returns-in_default
unfolding domain_at text_of
returns-in_default c =
    let a = c.args in
    let t = sym (ap (λ (o : ℕ). text_from a.r.now (a.e + o)) c.read_unit-o.ensures) in
    let w =
    bad_text a.r.now refl (domain_unended (t ∙ unended_at a.r.now (a.e + c.read_unit-o.result) (sym c.in_default.is ∙ c.read_text.ensures))) in
    record { name = w.0; inside = w.1 }

pub domain_span-requires : goal.domain_span-requires
domain_span-requires c =
    let a = c.args in
    let w = ended_at_lem a.r.now (a.e + c.read_unit-o.result) _ (sym c.in-Some.is ∙ c.read_text.ensures) in
    omega (arith, w.within)

pub returns : goal.returns
unfolding domain_at text_of
returns c =
    let a = c.args in
    let t = sym (ap (λ (o : ℕ). text_from a.r.now (a.e + o)) c.read_unit-o.ensures) in
    let w = ended_at_lem a.r.now (a.e + c.read_unit-o.result) _ (sym c.in-Some.is ∙ c.read_text.ensures) in record { name = c.domain_span.ensures.name ∙ sym (ap domain_said (t ∙ w.is)); inside = c.domain_span.ensures.inside }
