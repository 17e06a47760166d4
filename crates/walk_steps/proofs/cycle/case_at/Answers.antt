use Rattle.walk_steps.proofs.cycle.PointLaws.{parts_kept}
use native.Mathlib.Omega.{arith}
use Rattle.walk_steps.proofs.cycle.case_at.Goals as goal

pub returns : goal.returns
returns c = parts_kept _ _ _ c.requires.0 c.requires.1.0 (omega arith)
