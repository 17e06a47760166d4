-- Reads DCHint.
use Rattle.cache_lookup.proofs.EntryLaws.{read_dc_hint}
use Rattle.cache_lookup.proofs.dc_hint.Goals as goal

pub returns : goal.returns
returns c = read_dc_hint _ _ c.unit.ensures
