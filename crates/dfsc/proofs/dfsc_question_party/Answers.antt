use Rattle.dfsc_memory.proofs.UnitLaws.{party_seen_lem}
use Rattle.dfsc.proofs.dfsc_question_party.Goals as goal

pub returns : goal.returns
returns c = party_seen_lem _ _ c.head_units-n.ensures c.held.ensures c.shown_result.ensures _ _ c.question_party-s.ensures
