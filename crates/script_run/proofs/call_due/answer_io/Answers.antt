use Rattle.script_run.proofs.call_due.CallingLaws.{io_made_lem}
use Rattle.script_run.specs.call_due.Calling.{request_room}
use mathlib.Core.Path.{refl}
use Rattle.script_run.proofs.call_due.answer_io.Goals as goal

pub returns : goal.returns
unfolding request_room
returns c = io_made_lem c.args.s refl _ _ _ _ c.answer_io-o.ensures c.tell.ensures
