-- Writes the settings of a place.
use native.Mathlib.Omega.{arith}
use Rattle.cache.proofs.places.WriterLaws.{settings_put}
use Rattle.cache.proofs.places.put_settings.Goals as goal

pub returns : goal.returns
returns c =
    settings_put _ _ (omega arith) _ _ _ _ _
    c.put_unit.ensures
    c.put_unit-2.ensures
    c.put_unit-3.ensures
    c.put_wide.ensures
    c.put_wide-2.ensures
