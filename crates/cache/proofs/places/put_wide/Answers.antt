-- Writes a number of 32 bits of a place.
use native.Mathlib.Omega.{arith}
use Rattle.cache.proofs.places.WriterLaws.{wide_put}
use Rattle.cache.proofs.places.put_wide.Goals as goal

pub returns : goal.returns
returns c =
    wide_put _ _ (omega arith) _ _
    c.put_unit.ensures
    c.put_unit-2.ensures
    (omega arith)
