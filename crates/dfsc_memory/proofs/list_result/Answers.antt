use Rattle.std.proofs.Common.{Err}
use Prim.Native.Nat.{ℕ, ◌*◌}
use mathlib.Core.Path.{◌≡◌, sym, ap, ◌∙◌}
use native.Mathlib.Omega.{arith}
use Rattle.listing_write.specs.declared.ListError.{ListError}
use Rattle.listing_write.specs.declared.ListError.TheVariants.{NotInOrder}
use Rattle.dfsc_memory.specs.Listing.{list_result}
use Rattle.dfsc_memory.proofs.UnitLaws.{list_small}
use Rattle.dfsc_memory.proofs.list_result.Goals as goal

pub returns-in-Ok : goal.returns-in-Ok
unfolding list_result
returns-in-Ok c = ap list_result (sym c.in-Ok.is)

pub overflow_mul-result : goal.overflow_mul-result
overflow_mul-result c = omega (arith, c.from.ensures, c.from-in-Err-NotInOrder.ensures, list_small NotInOrder)

pub returns-in-Err-NotInOrder : goal.returns-in-Err-NotInOrder
unfolding list_result
returns-in-Err-NotInOrder c =
    let h : c.in-Err-NotInOrder.field-0 ≡ NotInOrder = rw c.in-Err-NotInOrder.is at c.in-Err-NotInOrder.field-0-is in
    ap (λ (n : ℕ). 4294967296 * n) (c.from-in-Err-NotInOrder.ensures ∙ c.from.ensures)
    ∙ (sym (ap (λ (e : ListError). list_result (Err e)) h) ∙ ap list_result (sym c.in-Err-NotInOrder.is))

pub overflow_mul-result-in-Err : goal.overflow_mul-result-in-Err
overflow_mul-result-in-Err c = omega (arith, c.from-in-Err.ensures, c.from-in-Err-2.ensures, list_small c.in-Err.error)

pub returns-in-Err : goal.returns-in-Err
unfolding list_result
returns-in-Err c = ap (λ (n : ℕ). 4294967296 * n) (c.from-in-Err-2.ensures ∙ c.from-in-Err.ensures) ∙ ap list_result (sym c.in-Err.is)
