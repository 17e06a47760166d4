use Rattle.dfsc_memory.proofs.UnitLaws.{held_given}
use Rattle.dfsc_memory.proofs.held.Goals as goal

pub returns : goal.returns
returns c = held_given _ c.head_units.ensures _ c.unpack.ensures c.no_walk.ensures c.unwrap_or.ensures
