-- Reads the Interlink of an entry.
use Rattle.cache_lookup.proofs.EntryLaws.{read_interlink}
use Rattle.cache_lookup.proofs.is_interlink.Goals as goal

pub returns : goal.returns
returns c = read_interlink _ _ c.unit.ensures
