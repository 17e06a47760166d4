use Rattle.walk_steps.proofs.cycle.PointLaws.{parts_of}
use native.Mathlib.Omega.{arith}
use Rattle.walk_steps.proofs.cycle.point.Goals as goal

pub returns : goal.returns
returns c = parts_of _ _ _ _ c.requires.0 c.requires.1.0 c.requires.1.1.0 c.args.hit (omega arith)
