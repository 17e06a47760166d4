use native.Mathlib.Omega.{arith}
use Rattle.laws.proofs.Pasting.{pasted_fill}
use Rattle.memory.proofs.clear_units.Goals as goal

pub returns : goal.returns
returns c = pasted_fill _ _ _ _ _ (c.fill.ensures.after (λ y h. h)) (omega arith) (omega arith)
