use mathlib.Core.Path.{ap, ◌∙◌}
use Prim.Native.Nat.{ℕ, ◌+◌}
use native.Mathlib.Omega.{arith}
use lib.ListN.{drop}
use Rattle.listing_spelling.specs.unspell.Code.{decimal_form}
use Rattle.listing_read.specs.fill_cache.Code.{value_at}
use Rattle.listing_read.proofs.fill_cache.LineLaws.{value_slice, line_inside, number_known}
use Rattle.listing_read.proofs.fill_cache.number_at.Goals as goal

pub offset_bounds-text-from : goal.offset_bounds-text-from
offset_bounds-text-from c = omega (arith, c.line_end-end.ensures, c.requires.keyed, line_inside c.args.text.now c.args.at c.requires.ended)

pub slice_bounds-decimal_form-end : goal.slice_bounds-decimal_form-end
slice_bounds-decimal_form-end c = omega (arith, c.line_end-end.ensures, line_inside c.args.text.now c.args.at c.requires.ended)

pub overflow_add-result : goal.overflow_add-result
overflow_add-result c = omega (arith, c.line_end-end.ensures, line_inside c.args.text.now c.args.at c.requires.ended)

pub returns : goal.returns
returns c =
    let s = value_at c.args.key (drop c.args.at c.args.text.now) in
    let f = c.decimal_form.ensures ∙ ap decimal_form (value_slice c.args.text.now c.args.at c.args.key c.line_end-end.ensures c.requires.keyed) in
    record { value = c.unwrap_or-value.ensures ∙ number_known s c.requires.good f; next = ap (λ (x : ℕ). x + 1) c.line_end-end.ensures }
