use Rattle.script_run.proofs.call_due.CallingLaws.{start_made_lem}
use Rattle.script_run.specs.call_due.Calling.{request_room}
use mathlib.Core.Path.{refl}
use Rattle.script_run.proofs.call_due.start.Goals as goal

pub returns : goal.returns
unfolding request_room
returns c = start_made_lem c.args.s refl _ _ _ _ _ c.min-n.ensures c.min-b.ensures (c.start-o.ensures c.args.walk) c.tell.ensures
