-- Makes all of a place but its key zero.
use native.Mathlib.Omega.{arith}
use mathlib.Core.Path.{refl}
use Rattle.cache.proofs.places.WriterLaws.{key_kept}
use Rattle.cache.proofs.places.keep_key.Goals as goal

pub returns : goal.returns
returns c =
    key_kept _ _ (omega arith) 31 2048
    c.clear_units.ensures
    c.clear_units-2.ensures
    refl
    refl
