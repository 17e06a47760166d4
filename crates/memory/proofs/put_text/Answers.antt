use native.Mathlib.Omega.{arith}
use Rattle.laws.proofs.Pasting.{pasted_room}
use Rattle.memory.proofs.put_text.Goals as goal

pub returns : goal.returns
returns c =
    pasted_room _ _ _ _
    c.copy_units.ensures
    c.clear_units.ensures
    (omega arith)
    (omega arith)
