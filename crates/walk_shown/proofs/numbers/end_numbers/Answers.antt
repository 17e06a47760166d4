use mathlib.Core.Path.{◌≡◌, refl, sym, ap, ◌∙◌}
use Prim.Native.Nat.{ℕ}
use native.Mathlib.Omega.{arith}
use Rattle.std.specs.Prelude.{Result, Err, Some, None}
use Rattle.walk_calls.proofs.resting.RestingLaws.{end_told}
use Rattle.walk_shown.specs.question.Shown.{given}
use Rattle.walk_shown.specs.declared.question.ShowError.{ShowError}
use Rattle.walk_shown.specs.declared.question.ShowError.TheVariants.{OutOfForm}
use Rattle.walk_shown.proofs.question.ShownLaws.{end_shown_lem, end_unended}
use Rattle.walk_shown.proofs.numbers.end_numbers.Goals as goal

pub returns-in_err-end : goal.returns-in_err-end
returns-in_err-end c =
    let none : c.end.result ≡ None = grind arith in
    let refused : c.from_residual.result ≡ Err OutOfForm = grind arith in
    ap (λ (r : Result ℕ ShowError). given r c.args.out.now) refused ∙ end_unended c.args.walk c.args.texts.now _ (sym c.end.ensures ∙ none)

pub returns : goal.returns
returns c =
    let came : c.end.result ≡ Some (c.in_ok-end.end, c.in_ok-end.status) = grind arith in
    let t = end_told c.args.walk c.args.texts.now _ _ (sym c.end.ensures ∙ came) in
    end_shown_lem _ _ _ refl t.0 _ _ t.1 c.end_number.ensures c.put_numbers.ensures
