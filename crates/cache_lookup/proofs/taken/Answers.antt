-- Reads the time at which an entry was taken.
use Rattle.cache_lookup.proofs.AgeLaws.{entry_taken}
use Rattle.cache_lookup.proofs.taken.Goals as goal

pub returns : goal.returns
returns c = entry_taken _ _ c.wide.ensures
