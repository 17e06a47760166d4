use lib.Seq.{length-take-le}
use mathlib.Core.Path.{ap, sym}
use native.Mathlib.Omega.{arith}
use Prim.Native.Nat.{ℕ}
use lib.Dec.{leb}
use Rattle.cache.specs.order.Order.{good_prefix}
use Rattle.listing_read.proofs.line.good_text.Goals as goal

pub slice_bounds-normalised_count-end : goal.slice_bounds-normalised_count-end
slice_bounds-normalised_count-end c = sym (length-take-le c.args.n c.args.room.now (omega arith))

pub returns : goal.returns
unfolding good_prefix
returns c = ap (λ (x : ℕ). leb 2 x) c.normalised_count.ensures
