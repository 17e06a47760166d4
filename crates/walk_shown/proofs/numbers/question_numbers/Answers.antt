use mathlib.Core.Path.{◌≡◌, refl, sym, ap, ◌∙◌}
use Prim.Native.Nat.{ℕ}
use native.Mathlib.Omega.{arith}
use Rattle.std.specs.Prelude.{Result, Err, Some, None}
use Rattle.walk_calls.proofs.resting.RestingLaws.{question_told}
use Rattle.walk_shown.specs.question.Shown.{given}
use Rattle.walk_shown.specs.declared.question.ShowError.{ShowError}
use Rattle.walk_shown.specs.declared.question.ShowError.TheVariants.{OutOfForm}
use Rattle.walk_shown.proofs.question.ShownLaws.{question_shown_lem, question_unasked}
use Rattle.walk_shown.proofs.numbers.question_numbers.Goals as goal

pub returns-in_err-q : goal.returns-in_err-q
returns-in_err-q c =
    let none : c.question.result ≡ None = grind arith in
    let refused : c.from_residual.result ≡ Err OutOfForm = grind arith in
    ap (λ (r : Result ℕ ShowError). given r c.args.out.now) refused ∙ question_unasked c.args.walk c.args.texts.now _ (sym c.question.ensures ∙ none)

pub returns : goal.returns
returns c =
    let asked : c.question.result ≡ Some c.in_ok-q.q = grind arith in
    let t = question_told c.args.walk c.args.texts.now _ (sym c.question.ensures ∙ asked) in
    question_shown_lem _ _ _ refl t.0 _ t.1 c.kind_number.ensures c.put_numbers.ensures
