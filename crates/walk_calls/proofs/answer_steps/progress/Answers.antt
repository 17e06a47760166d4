use Rattle.walk_calls.proofs.answer_steps.DueLaws.{progress_is}
use Rattle.walk_calls.proofs.answer_steps.progress.Goals as goal

pub returns : goal.returns
returns c = progress_is c.args.walk c.args.clock c.args.room
