use Rattle.dfsc_memory.proofs.UnitLaws.{name_seen_lem}
use Rattle.dfsc.proofs.dfsc_question_name.Goals as goal

pub returns : goal.returns
returns c = name_seen_lem _ _ c.head_units-n.ensures c.held.ensures c.shown_result.ensures c.question_name-s.ensures
