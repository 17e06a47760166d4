use Rattle.script_run.proofs.stream.NextLaws.{is_read_lem}
use Rattle.script_run.proofs.stream.next.Goals as goal

pub returns-then-not-ended : goal.returns-then-not-ended
returns-then-not-ended c = is_read_lem _ _ _ c.if-count-at.true c.if-not-ended.true c.read.ensures
