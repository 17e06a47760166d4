use native.Mathlib.Omega.{arith}
use Rattle.laws.proofs.Pasting.{set_pasted}
use Rattle.memory.proofs.put_unit.Goals as goal

pub returns : goal.returns
returns c = set_pasted _ _ _ (omega arith)
