use Rattle.cache_upkeep.proofs.CallLaws.{call_told_lem}
use Rattle.dfsc.proofs.dfsc_next_dc.Goals as goal

pub returns : goal.returns
returns c = let whole = call_told_lem c.next_dc-answer.ensures c.number.ensures in record { number = whole.0; cache = whole.1 }
