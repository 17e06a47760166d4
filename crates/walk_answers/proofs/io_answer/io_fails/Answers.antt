use Rattle.walk_answers.proofs.io_answer.TryLaws.{called_rests, tried_rests}
use Rattle.walk_answers.proofs.io_answer.io_fails.Goals as goal

pub try_target-requires : goal.try_target-requires
try_target-requires c = (c.requires.standing, (c.requires.usable, c.after_failure.ensures.inside _ c.in-Tries.is))

pub returns-in-Calls : goal.returns-in-Calls
returns-in-Calls c = called_rests c.args.rooms.now c.args.g c.args.q c.args.status _ c.after_failure.ensures.called c.requires.standing _ c.in-Calls.is c.rest.ensures

pub returns-in-Tries : goal.returns-in-Tries
returns-in-Tries c = tried_rests c.args.rooms.now c.args.g c.args.q c.args.status _ c.after_failure.ensures.called _ c.in-Tries.is c.try_target.ensures
