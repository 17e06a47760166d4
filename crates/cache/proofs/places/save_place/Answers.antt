-- Copies a place into memory of its own.
use native.Mathlib.Omega.{arith}
use Rattle.cache.proofs.places.WriterLaws.{place_saved}
use Rattle.cache.proofs.places.save_place.Goals as goal

pub returns : goal.returns
returns c = place_saved _ _ (omega arith) _ c.copy_units.ensures (omega arith)
