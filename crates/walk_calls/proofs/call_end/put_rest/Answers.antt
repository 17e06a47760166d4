use mathlib.Core.Path.{sym}
use native.Mathlib.Omega.{arith}
use lib.Seq.{length-take-le}
use Rattle.walk_calls.proofs.call_end.put_rest.Goals as goal

pub slice_bounds-put_request-end : goal.slice_bounds-put_request-end
slice_bounds-put_request-end c = sym (length-take-le _ _ (omega arith))
