-- The next DC, round past the last.
use Rattle.cache_upkeep.proofs.CallLaws.{after_round, after_next}
use Rattle.cache_upkeep.proofs.after.Goals as goal

pub returns-then-n-j : goal.returns-then-n-j
returns-then-n-j c = after_round _ _ c.if-n-j.true

pub returns-else-n-j : goal.returns-else-n-j
returns-else-n-j c = after_next _ _ c.if-n-j.false
