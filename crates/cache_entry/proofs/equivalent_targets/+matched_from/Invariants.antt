-- Matches an entry's targets one after the other; the measure is how many are left.
use Prim.Native.Nat.{◌-◌}
use Rattle.cache_entry.proofs.equivalent_targets.+matched_from.Given as goal

abbrev pub decreases-matched_from : goal.decreases-matched_from
decreases-matched_from l = l.end - l.t
