use Rattle.walk_shown.proofs.numbers.EndLaws.{done_shows, others_show}
use Rattle.walk_shown.proofs.numbers.put_end.Goals as goal

pub returns-in_default : goal.returns-in_default
returns-in_default c = others_show _ _ _ _ c.in_default.not-Done c.put-in_default.ensures

pub returns-in-Done : goal.returns-in-Done
returns-in-Done c = done_shows _ _ _ _ c.in-Done.is c.put.ensures
