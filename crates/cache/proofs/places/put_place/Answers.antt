-- Writes a whole place.
use native.Mathlib.Omega.{arith}
use Rattle.cache.proofs.places.WriterLaws.{place_put}
use Rattle.cache.proofs.places.put_place.Goals as goal

pub returns : goal.returns
returns c = place_put _ _ (omega arith) _ c.copy_units.ensures
