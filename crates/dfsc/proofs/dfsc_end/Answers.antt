use Rattle.dfsc_memory.proofs.UnitLaws.{end_seen_lem}
use Rattle.dfsc.proofs.dfsc_end.Goals as goal

pub returns : goal.returns
returns c = end_seen_lem _ _ c.head_units-n.ensures c.held.ensures c.shown_result.ensures c.end_numbers-s.ensures
