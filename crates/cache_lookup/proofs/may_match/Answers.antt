-- Compares the last units of a prefix.
use Rattle.std.proofs.Common.{arith}
use Rattle.cache_lookup.proofs.FindLaws.{units_none}
use Rattle.cache_lookup.proofs.EndLaws.{ends_apart}
use Rattle.cache_lookup.proofs.may_match.Goals as goal

pub returns-then-units-lt-END : goal.returns-then-units-lt-END
returns-then-units-lt-END c = units_none _ _ _ (omega arith) c.unit-units.ensures

pub returns : goal.returns
returns c =
    ends_apart _ _ _ (omega arith) c.unit-units.ensures c.room-room.ensures.0 (omega arith) (omega arith)
    c.four_units.ensures c.four_units-2.ensures
