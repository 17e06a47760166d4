-- Reads the TTL of an entry.
use Rattle.cache_lookup.proofs.AgeLaws.{entry_ttl}
use Rattle.cache_lookup.proofs.ttl.Goals as goal

pub returns : goal.returns
returns c = entry_ttl _ _ c.wide.ensures
