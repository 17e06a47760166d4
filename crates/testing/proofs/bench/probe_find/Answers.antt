use Rattle.testing.proofs.bench.FoundLaws.{found_at, found_none}
use Rattle.testing.proofs.bench.probe_find.Goals as goal

pub returns-in_default : goal.returns-in_default
returns-in_default c = found_none _ _ c.find.ensures c.in_default.is

pub returns : goal.returns
returns c = found_at _ _ _ c.find.ensures c.in-Some.is
