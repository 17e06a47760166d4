-- Makes every unit of a place zero.
use mathlib.Core.Path.{refl}
use native.Mathlib.Omega.{arith}
use Rattle.cache.proofs.places.WriterLaws.{place_cleared}
use Rattle.cache.proofs.places.clear_place.Goals as goal

pub returns : goal.returns
returns c = place_cleared _ _ (omega arith) 2336 c.clear_units.ensures refl
