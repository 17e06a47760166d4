-- Hands out the prefix of an entry.
use Rattle.cache_lookup.proofs.EntryLaws.{read_prefix}
use Rattle.cache_lookup.proofs.prefix.Goals as goal

pub returns : goal.returns
returns c = read_prefix _ _ c.text.ensures
