use Rattle.walk_steps.proofs.rounds.RoundLaws.{targets_fit}
use Rattle.walk_answers.proofs.io_answer.place.Goals as goal

pub target_count-n-requires : goal.target_count-n-requires
target_count-n-requires c = targets_fit c.args.prefix.now c.args.refs.now c.find_prefix.ensures _ c.in_ok-i.was
