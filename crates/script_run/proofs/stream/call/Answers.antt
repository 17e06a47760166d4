use Rattle.script_run.proofs.call_due.CallingLaws.{made_within, made_taken, printed_few, printed_all}
use native.Mathlib.Omega.{arith}
use Rattle.script_run.proofs.stream.call.Goals as goal

pub slice_bounds-out-end : goal.slice_bounds-out-end
slice_bounds-out-end c = made_within _ _ _ c.make-d.ensures (omega arith)

pub slice_bounds-write-end : goal.slice_bounds-write-end
slice_bounds-write-end c = made_taken _ _ _ c.make-d.ensures (omega arith)

pub write-requires : goal.write-requires
write-requires c = (printed_few _ _ _ c.make-d.ensures (omega arith), printed_all _ _ _ c.make-d.ensures (omega arith))
