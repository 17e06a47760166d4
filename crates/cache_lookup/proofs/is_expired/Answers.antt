-- Compares the age of an entry with its TTL.
use Rattle.cache_lookup.proofs.AgeLaws.{entry_expired}
use Rattle.cache_lookup.proofs.is_expired.Goals as goal

pub returns : goal.returns
returns c = entry_expired _ _ _ c.ttl.ensures c.taken.ensures c.age.ensures
