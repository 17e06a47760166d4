use native.Mathlib.Omega.{arith}
use Rattle.walk_steps.proofs.steps.StepLaws.{first_within}
use Rattle.walk_steps.proofs.steps.domain_asking.Goals as goal

pub overflow_cast-result : goal.overflow_cast-result
overflow_cast-result c = omega (arith, first_within 1 _ c.first_end-n.ensures)
