-- Each refusal's number.
use mathlib.Core.Path.{sym, ap}
use Rattle.std.specs.Prelude.{Err}
use Rattle.listing_write.specs.declared.ListError.{ListError}
use Rattle.listing_write.specs.Listed.{list_refusal}
use Rattle.listing_write.proofs.U32FromListError.from.Goals as goal

pub returns-in-NotInOrder : goal.returns-in-NotInOrder
unfolding list_refusal
returns-in-NotInOrder c = ap (λ (e : ListError). list_refusal (Err e)) (sym c.in-NotInOrder.is)

pub returns-in-TooShort : goal.returns-in-TooShort
unfolding list_refusal
returns-in-TooShort c = ap (λ (e : ListError). list_refusal (Err e)) (sym c.in-TooShort.is)
