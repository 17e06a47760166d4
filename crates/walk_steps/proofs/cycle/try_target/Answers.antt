use Rattle.walk_steps.proofs.cycle.MoveLaws.{goes_asks}
use Rattle.walk_steps.specs.cycle.Code.{packed}
use mathlib.Core.Path.{sym, ap, ◌∙◌}
use Rattle.walk_steps.proofs.cycle.try_target.Goals as goal

pub returns : goal.returns
returns c = λ d. c.step8.ensures _ ∙ ap packed (sym (goes_asks _ d _ _ _))
