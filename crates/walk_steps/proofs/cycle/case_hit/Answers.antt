use Rattle.walk_steps.proofs.cycle.PointLaws.{parts_found}
use native.Mathlib.Omega.{arith}
use Rattle.walk_steps.proofs.cycle.case_hit.Goals as goal

pub returns : goal.returns
returns c = parts_found _ _ _ c.requires.0 c.requires.1.0 (omega arith)
