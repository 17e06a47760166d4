use Rattle.script_run.proofs.call_due.CallingLaws.{told_taken, told_refused}
use Rattle.script_run.proofs.call_due.tell.Goals as goal

pub returns-in-Ok : goal.returns-in-Ok
returns-in-Ok c = told_taken c.args.s c.args.walk _ _ _ _ _ _ c.in-Ok.is c.put_outcome-bytes.ensures

pub returns-in-Err : goal.returns-in-Err
returns-in-Err c = told_refused c.args.s c.args.walk _ _ _ _ _ _ c.in-Err.is c.into-number.ensures c.put_outcome-bytes-in-Err.ensures c.with_last.ensures
