use mathlib.Core.Path.{◌≡◌, refl, sym, ap, ◌∙◌}
use Prim.Native.Nat.{ℕ}
use native.Mathlib.Omega.{arith}
use Rattle.std.specs.Prelude.{Result, Err, Some, None}
use Rattle.walk_calls.proofs.resting.RestingLaws.{end_told}
use Rattle.walk_shown.specs.question.Shown.{given}
use Rattle.walk_shown.specs.declared.question.ShowError.{ShowError}
use Rattle.walk_shown.specs.declared.question.ShowError.TheVariants.{OutOfForm}
use Rattle.walk_shown.proofs.question.ShownLaws.{path_shown, path_ends, path_few, tried_within, tried_few, path_unended}
use Rattle.walk_shown.proofs.numbers.end_path.Goals as goal

pub returns-in_err-end : goal.returns-in_err-end
returns-in_err-end c =
    let none : c.end.result ≡ None = grind arith in
    let refused : c.from_residual.result ≡ Err OutOfForm = grind arith in
    ap (λ (r : Result ℕ ShowError). given r c.args.out.now) refused ∙ path_unended c.args.walk c.args.texts.now _ (sym c.end.ensures ∙ none)

pub slice_bounds-put_end-end : goal.slice_bounds-put_end-end
slice_bounds-put_end-end c =
    let came : c.end.result ≡ Some (c.in_ok-end.end, c.in_ok-end.field-0-1) = grind arith in
    let t = end_told c.args.walk c.args.texts.now _ _ (sym c.end.ensures ∙ came) in
    path_ends _ _ refl t.0

pub slice_bounds-put_end-end-2 : goal.slice_bounds-put_end-end-2
slice_bounds-put_end-end-2 c =
    let came : c.end.result ≡ Some (c.in_ok-end.end, c.in_ok-end.field-0-1) = grind arith in
    let t = end_told c.args.walk c.args.texts.now _ _ (sym c.end.ensures ∙ came) in
    tried_within _ _ refl t.0

pub put_end-requires : goal.put_end-requires
put_end-requires c =
    let came : c.end.result ≡ Some (c.in_ok-end.end, c.in_ok-end.field-0-1) = grind arith in
    let t = end_told c.args.walk c.args.texts.now _ _ (sym c.end.ensures ∙ came) in
    (path_few _ _ refl t.0, tried_few _ _ refl t.0)

pub returns : goal.returns
returns c =
    let came : c.end.result ≡ Some (c.in_ok-end.end, c.in_ok-end.field-0-1) = grind arith in
    let t = end_told c.args.walk c.args.texts.now _ _ (sym c.end.ensures ∙ came) in
    path_shown _ _ _ refl t.0 _ _ t.1 c.put_end.ensures
