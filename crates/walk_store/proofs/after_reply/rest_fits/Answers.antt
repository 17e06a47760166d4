use native.Mathlib.Omega.{arith}
use mathlib.Core.Path.{sym}
use lib.Seq.{length-take-le}
use Rattle.walk_store.proofs.after_reply.rest_fits.Goals as goal

pub slice_bounds-fits-end : goal.slice_bounds-fits-end
slice_bounds-fits-end c = sym (length-take-le _ _ (omega arith))
