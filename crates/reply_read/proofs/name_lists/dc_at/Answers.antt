-- The DC name at a byte, and where the next text starts.
use mathlib.Core.Path.{refl, sym, ap, ◌∙◌}
use native.Mathlib.Omega.{arith}
use Rattle.reply_bytes.proofs.texts.UnitLaws.{ended_at_lem, unended_at}
use Rattle.reply_read.specs.name_lists.NameLists.{dc_of}
use Rattle.reply_read.proofs.referral.TextLaws.{text_bad, text_good, text_inside_lem}
use Rattle.reply_read.proofs.name_lists.ListLaws.{dc_unended, no_dc_lem, some_dc, past_ended}
use Rattle.reply_read.proofs.name_lists.dc_at.Goals as goal

pub returns-in_default : goal.returns-in_default
returns-in_default c =
    let a = c.args in
    let w = no_dc_lem a.r.now _ refl (dc_unended (unended_at a.r.now a.at (sym c.in_default.is ∙ c.read_text.ensures))) in
    record { name = w.0; placed = w.1 }

pub dc_span-requires : goal.dc_span-requires
dc_span-requires c =
    let a = c.args in
    let w = ended_at_lem a.r.now a.at _ (sym c.in-Some.is ∙ c.read_text.ensures) in
    omega (arith, w.within)

pub returns-in_default-dc_span : goal.returns-in_default-dc_span
returns-in_default-dc_span c =
    let a = c.args in
    let t = ended_at_lem a.r.now a.at _ (sym c.in-Some.is ∙ c.read_text.ensures) in
    let w = no_dc_lem a.r.now _ refl (ap dc_of t.is ∙ text_bad a.r.now c.in_default-dc_span.is c.dc_span.ensures.name) in
    record { name = w.0; placed = w.1 }

pub overflow_add-result : goal.overflow_add-result
overflow_add-result c =
    let a = c.args in
    let w = ended_at_lem a.r.now a.at _ (sym c.in-Some.is ∙ c.read_text.ensures) in
    omega (arith, w.within)

pub overflow_mul-result : goal.overflow_mul-result
overflow_mul-result c =
    let a = c.args in
    let w = ended_at_lem a.r.now a.at _ (sym c.in-Some.is ∙ c.read_text.ensures) in
    omega (arith, w.within)

pub overflow_add-result-2 : goal.overflow_add-result-2
overflow_add-result-2 c =
    let a = c.args in
    let w = ended_at_lem a.r.now a.at _ (sym c.in-Some.is ∙ c.read_text.ensures) in
    omega (arith, w.within, w.from_is)

pub returns : goal.returns
returns c =
    let a = c.args in
    let w = ended_at_lem a.r.now a.at _ (sym c.in-Some.is ∙ c.read_text.ensures) in record {
      name = (some_dc a.r.now _ _ (ap dc_of w.is ∙ text_good a.r.now _ c.in-Some-dc_span.is c.dc_span.ensures.name)
          (text_inside_lem a.r.now _ c.in-Some-dc_span.is c.dc_span.ensures.inside) (past_ended a.at a.r.now _ w.is)).0;
      placed = (some_dc a.r.now _ _ (ap dc_of w.is ∙ text_good a.r.now _ c.in-Some-dc_span.is c.dc_span.ensures.name)
          (text_inside_lem a.r.now _ c.in-Some-dc_span.is c.dc_span.ensures.inside) (past_ended a.at a.r.now _ w.is)).1;
    }
