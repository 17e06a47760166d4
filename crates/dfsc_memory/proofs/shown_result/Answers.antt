use mathlib.Core.Path.{◌≡◌, sym, ap, ◌∙◌}
use Rattle.std.proofs.Common.{Err}
use Prim.Native.Nat.{ℕ, ◌*◌}
use native.Mathlib.Omega.{arith}
use Rattle.walk_shown.specs.declared.question.ShowError.{ShowError}
use Rattle.walk_shown.specs.declared.question.ShowError.TheVariants.{OutOfForm}
use Rattle.dfsc_memory.specs.Units.{shown_result}
use Rattle.dfsc_memory.proofs.UnitLaws.{error_small}
use Rattle.dfsc_memory.proofs.shown_result.Goals as goal

pub returns-in-Ok : goal.returns-in-Ok
unfolding shown_result
returns-in-Ok c = ap shown_result (sym c.in-Ok.is)

pub overflow_mul-result : goal.overflow_mul-result
overflow_mul-result c = omega (arith, c.from.ensures, error_small OutOfForm)

pub returns-in-Err-OutOfForm : goal.returns-in-Err-OutOfForm
unfolding shown_result
returns-in-Err-OutOfForm c =
    let h : c.in-Err-OutOfForm.field-0 ≡ OutOfForm = rw c.in-Err-OutOfForm.is at c.in-Err-OutOfForm.field-0-is in
    ap (λ (n : ℕ). 65536 * n) c.from.ensures ∙ (sym (ap (λ (e : ShowError). shown_result (Err e)) h) ∙ ap shown_result (sym c.in-Err-OutOfForm.is))

pub overflow_mul-result-in-Err : goal.overflow_mul-result-in-Err
overflow_mul-result-in-Err c = omega (arith, c.from-in-Err.ensures, error_small c.in-Err.error)

pub returns-in-Err : goal.returns-in-Err
unfolding shown_result
returns-in-Err c = ap (λ (n : ℕ). 65536 * n) c.from-in-Err.ensures ∙ ap shown_result (sym c.in-Err.is)
