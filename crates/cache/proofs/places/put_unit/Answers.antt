-- Writes one unit of a place.
use native.Mathlib.Omega.{arith}
use Rattle.cache.proofs.places.WriterLaws.{unit_put}
use Rattle.cache.proofs.places.put_unit.Goals as goal

pub returns : goal.returns
returns c = unit_put _ _ (omega arith) _ _ c.put_unit.ensures (omega arith)
