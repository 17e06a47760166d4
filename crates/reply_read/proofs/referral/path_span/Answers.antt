-- The path in a text: its form tells where it stands, and how many components it has.
use Rattle.std.specs.Prelude.{Some}
use mathlib.Core.Path.{◌≡◌, sym, ap, ◌∙◌}
use Prim.Native.Nat.{ℕ, ◌+◌, ◌-◌}
use native.Mathlib.Omega.{arith}
use lib.ListN.{take, drop}
use Rattle.reply_bytes.specs.texts.Code.{spanned, part_of}
use Rattle.reply_bytes.proofs.texts.UnitLaws.{length_spanned, part_spanned, inside_is}
use Rattle.reply_read.specs.referral.Code.{text_shown, text_inside}
use Rattle.reply_read.proofs.referral.TargetLaws.{inside_test}
use Rattle.reply_read.proofs.referral.TextLaws.{path_unformed, path_few, path_led, path_within, path_found}
use Rattle.reply_read.proofs.referral.path_span.Goals as goal

pub returns-in_err-form-clause-path : goal.returns-in_err-form-clause-path
unfolding text_shown
returns-in_err-form-clause-path c =
    let u = spanned c.args.r.now c.args.s in
    ap (text_shown c.args.r.now) c.from_residual.ensures ∙ sym (path_unformed u c.form_within.ensures (sym c.ok.ensures.value ∙ c.in_err-form.was))

pub returns-then-form-lt2-clause-path : goal.returns-then-form-lt2-clause-path
unfolding text_shown
returns-then-form-lt2-clause-path c =
    let u = spanned c.args.r.now c.args.s in
    sym (path_few u c.form_within.ensures (sym c.ok.ensures.value ∙ c.in_ok-form.was) c.if-form-lt2.true)

pub overflow_sub-from : goal.overflow_sub-from
overflow_sub-from c =
    let u = spanned c.args.r.now c.args.s in
    path_led u c.form_within.ensures (sym c.ok.ensures.value ∙ c.in_ok-form.was) c.lead-from.ensures

pub overflow_add-from : goal.overflow_add-from
overflow_add-from c =
    let u = spanned c.args.r.now c.args.s in
    omega (arith, length_spanned c.args.r.now c.args.s, path_within u c.form_within.ensures (sym c.ok.ensures.value ∙ c.in_ok-form.was) c.lead-from.ensures)

pub part-requires : goal.part-requires
part-requires c =
    let u = spanned c.args.r.now c.args.s in
    let w = path_within u c.form_within.ensures (sym c.ok.ensures.value ∙ c.in_ok-form.was) c.lead-from.ensures in
    (omega arith, (omega (arith, length_spanned c.args.r.now c.args.s), omega arith))

pub returns-clause-path : goal.returns-clause-path
unfolding text_shown
returns-clause-path c =
    let r = c.args.r.now in
    let s = c.args.s in
    let from = c.lead-from.result - 1 in
    let units = c.in_ok-form.form.units in
    let h = sym c.ok.ensures.value ∙ c.in_ok-form.was in
    let w = path_within (spanned r s) c.form_within.ensures h c.lead-from.ensures in
    let n : from + units - from ≡ units = omega arith in
    let f =
    ap (spanned r) c.part.ensures ∙ (part_spanned r s from (from + units) (omega arith) (omega (arith, length_spanned r s)) ∙ ap (λ (k : ℕ). take k (drop from (spanned r s))) n) in
    (λ i. Some (f i)) ∙ path_found (spanned r s) c.form_within.ensures h c.lead-from.ensures c.if-form-lt2.false

pub returns-clause-inside : goal.returns-clause-inside
unfolding text_inside
returns-clause-inside c =
    let r = c.args.r.now in
    let s = c.args.s in
    let from = c.lead-from.result - 1 in
    let to = from + c.in_ok-form.form.units in
    let w = path_within (spanned r s) c.form_within.ensures (sym c.ok.ensures.value ∙ c.in_ok-form.was) c.lead-from.ensures in
    inside_test r c.part.result (inside_is r c.part.result (part_of s from to) c.part.ensures (omega (arith, length_spanned r s)))
