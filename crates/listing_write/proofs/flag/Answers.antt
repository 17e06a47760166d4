use mathlib.Core.Path.{ap}
use Prim.Native.Nat.{ℕ}
use lib.Dec.{eqb}
use Rattle.cache.specs.places.Layout.{flag_at}
use Rattle.listing_write.proofs.flag.Goals as goal

pub returns : goal.returns
unfolding flag_at
returns c = ap (λ (x : ℕ). eqb x 1) c.unit.ensures
