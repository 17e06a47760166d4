-- Reads TargetHint.
use Rattle.cache_lookup.proofs.EntryLaws.{read_hint}
use Rattle.cache_lookup.proofs.target_hint.Goals as goal

pub returns : goal.returns
returns c = read_hint _ _ c.unit.ensures
