-- Reads the number of DCs.
use Rattle.cache_lookup.proofs.EntryLaws.{read_dcs_lem}
use Rattle.cache_lookup.proofs.dc_count.Goals as goal

pub returns : goal.returns
returns c = read_dcs_lem _ _ c.list_count.ensures
