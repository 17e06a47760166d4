use Rattle.script_run.proofs.call_due.CallingLaws.{refusal_room}
use Rattle.script_run.proofs.call_due.refuse.Goals as goal

pub put_refused-bytes-requires : goal.put_refused-bytes-requires
put_refused-bytes-requires c = refusal_room _ c.requires
