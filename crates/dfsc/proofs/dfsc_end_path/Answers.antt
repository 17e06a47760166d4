use Rattle.dfsc_memory.proofs.UnitLaws.{path_seen_lem}
use Rattle.dfsc.proofs.dfsc_end_path.Goals as goal

pub returns : goal.returns
returns c = path_seen_lem _ _ c.head_units-n.ensures c.held.ensures c.shown_result.ensures c.end_path-s.ensures
