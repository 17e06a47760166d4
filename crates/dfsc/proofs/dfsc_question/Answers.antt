use Rattle.dfsc_memory.proofs.UnitLaws.{question_seen_lem}
use Rattle.dfsc.proofs.dfsc_question.Goals as goal

pub returns : goal.returns
returns c = question_seen_lem _ _ c.head_units-n.ensures c.held.ensures c.shown_result.ensures c.question_numbers-s.ensures
