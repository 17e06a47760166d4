use mathlib.Core.Path.{◌≡◌, refl, sym, ap, ◌∙◌}
use Prim.Native.Nat.{ℕ}
use native.Mathlib.Omega.{arith}
use Rattle.std.specs.Prelude.{Result, Err, Some, None}
use Rattle.walk_calls.proofs.resting.RestingLaws.{question_told}
use Rattle.walk_shown.specs.question.Shown.{given}
use Rattle.walk_shown.specs.declared.question.ShowError.{ShowError}
use Rattle.walk_shown.specs.declared.question.ShowError.TheVariants.{OutOfForm}
use Rattle.walk_shown.proofs.question.ShownLaws.{name_shown, path_ends, path_few, tried_within, tried_few, name_unasked}
use Rattle.walk_shown.proofs.question.question_name.Goals as goal

pub returns-in_err-q : goal.returns-in_err-q
returns-in_err-q c =
    let none : c.question.result ≡ None = grind arith in
    let refused : c.from_residual.result ≡ Err OutOfForm = grind arith in
    ap (λ (r : Result ℕ ShowError). given r c.args.out.now) refused ∙ name_unasked c.args.walk c.args.texts.now _ (sym c.question.ensures ∙ none)

pub slice_bounds-put_name-end : goal.slice_bounds-put_name-end
slice_bounds-put_name-end c =
    let asked : c.question.result ≡ Some c.in_ok-q.q = grind arith in
    let t = question_told c.args.walk c.args.texts.now _ (sym c.question.ensures ∙ asked) in
    path_ends _ _ refl t.0

pub slice_bounds-put_name-end-2 : goal.slice_bounds-put_name-end-2
slice_bounds-put_name-end-2 c =
    let asked : c.question.result ≡ Some c.in_ok-q.q = grind arith in
    let t = question_told c.args.walk c.args.texts.now _ (sym c.question.ensures ∙ asked) in
    tried_within _ _ refl t.0

pub put_name-requires : goal.put_name-requires
put_name-requires c =
    let asked : c.question.result ≡ Some c.in_ok-q.q = grind arith in
    let t = question_told c.args.walk c.args.texts.now _ (sym c.question.ensures ∙ asked) in
    (path_few _ _ refl t.0, tried_few _ _ refl t.0)

pub returns : goal.returns
returns c =
    let asked : c.question.result ≡ Some c.in_ok-q.q = grind arith in
    let t = question_told c.args.walk c.args.texts.now _ (sym c.question.ensures ∙ asked) in
    name_shown _ _ _ refl t.0 _ t.1 c.put_name.ensures
