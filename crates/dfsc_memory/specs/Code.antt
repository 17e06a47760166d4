-- Shapes of the code, proved equal to the rules; nothing here is to be believed.
use Rattle.std.specs.Prelude.{ℕ, List, eqb}
use Rattle.laws.specs.Choice.{choose}
use Rattle.laws.specs.Lists.{pasted}
use Rattle.walk_form.specs.declared.held.Walk.{Walk}
use Rattle.walk_form.specs.packed.Packing.{packed_walk}

-- the units of a walk after a call, as they are written
unfoldable pub closed_units : ℕ → Walk → List ℕ → List ℕ
closed_units number w units = choose (eqb number 0) (pasted units 0 (packed_walk w)) units
