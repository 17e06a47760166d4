use Rattle.walk_steps.proofs.rounds.RoundLaws.{targets_gone, targets_fit, targets_held}
use Rattle.walk_steps.proofs.rounds.targets.Goals as goal

pub returns-in_default : goal.returns-in_default
returns-in_default c = targets_gone _ _ c.find_prefix.ensures c.in_default.is

pub target_count-requires : goal.target_count-requires
target_count-requires c = targets_fit _ _ c.find_prefix.ensures _ c.in-Some.is

pub returns : goal.returns
returns c = targets_held _ _ c.find_prefix.ensures _ c.in-Some.is c.target_count.ensures
