use Rattle.std.proofs.Common.{◌∙◌}
use Rattle.walk_steps.specs.steps.Steps.{next_target_statuses}
use Rattle.walk_steps.proofs.rounds.TableLaws.{one_found}
use Rattle.walk_steps.proofs.rounds.is_next.Goals as goal

pub returns : goal.returns
returns c = c.contains.ensures.value ∙ one_found c.args.status next_target_statuses
