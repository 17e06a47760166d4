use Rattle.script_run.proofs.call_due.CallingLaws.{referral_made_lem}
use Rattle.script_run.specs.call_due.Calling.{request_room}
use mathlib.Core.Path.{refl}
use Rattle.script_run.proofs.call_due.answer_referral.Goals as goal

pub returns : goal.returns
unfolding request_room
returns c = referral_made_lem c.args.s refl _ _ _ _ _ _ c.min-n.ensures c.answer_referral-o.ensures c.tell.ensures
