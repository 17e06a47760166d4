-- Reads the number of targets.
use Rattle.cache_lookup.proofs.EntryLaws.{read_count}
use Rattle.cache_lookup.proofs.target_count.Goals as goal

pub returns : goal.returns
returns c = read_count _ _ c.list_count.ensures
