-- Sets DCHint.
use Rattle.std.proofs.Common.{arith}
use Rattle.cache_lookup.proofs.EntryLaws.{dc_hint_set_lem}
use Rattle.cache_lookup.proofs.set_dc_hint.Goals as goal

pub returns : goal.returns
returns c =
    dc_hint_set_lem _ _ _ c.requires.0 (omega arith) c.requires.1.1
    c.put_unit.ensures
