-- Reads whether an entry is a root.
use Rattle.cache_lookup.proofs.EntryLaws.{read_root}
use Rattle.cache_lookup.proofs.is_root.Goals as goal

pub returns : goal.returns
returns c = read_root _ _ c.unit.ensures
