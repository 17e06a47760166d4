use mathlib.Core.Path.{sym, ap, ◌∙◌}
use Rattle.std.specs.Prelude.{Result}
use Rattle.walk_form.specs.declared.held.Walk.{Walk}
use Rattle.walk_calls.specs.declared.call_end.Refusal.{Refusal}
use Rattle.walk_calls.specs.calls.Calls.{refusal_number}
use Rattle.walk_calls.specs.call_end.Code.{verdict_of}
use Rattle.dfsc_memory.proofs.UnitLaws.{close_refused, close_taken, taken_number}
use Rattle.dfsc_memory.proofs.close.Goals as goal

pub pack-requires : goal.pack-requires
pack-requires c = c.requires (taken_number _ c.in-Ok.is)

pub returns-in-Ok : goal.returns-in-Ok
returns-in-Ok c = record { number = sym (taken_number _ c.in-Ok.is); units = close_taken _ _ c.in-Ok.is c.pack.ensures }

pub returns-in-Err : goal.returns-in-Err
returns-in-Err c = record {
  number = c.into.ensures ∙ ap (λ (r : Result Walk Refusal). refusal_number (verdict_of r)) (sym c.in-Err.is);
  units = close_refused _ _ c.in-Err.is;
}
