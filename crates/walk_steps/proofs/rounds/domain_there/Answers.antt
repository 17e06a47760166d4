use mathlib.Core.Path.{◌∙◌}
use Rattle.walk_steps.proofs.rounds.RoundLaws.{there_told}
use Rattle.walk_steps.proofs.rounds.domain_there.Goals as goal

pub returns : goal.returns
returns c = c.is_some.ensures ∙ there_told _ _ _ c.domain_place.ensures
