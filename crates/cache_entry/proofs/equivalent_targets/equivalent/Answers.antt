-- A reply of version 4 is compared set by set, any other as one set.
use Rattle.cache_entry.proofs.equivalent_targets.SetLaws.{by_sets, by_targets}
use Rattle.cache_entry.proofs.equivalent_targets.equivalent.Goals as goal

pub returns-then-version-eq-SETS : goal.returns-then-version-eq-SETS
returns-then-version-eq-SETS c = by_sets _ _ _ _ _ c.if-version-eq-SETS.true c.same_sets.ensures

pub returns-else-version-eq-SETS : goal.returns-else-version-eq-SETS
returns-else-version-eq-SETS c = by_targets _ _ _ _ _ c.if-version-eq-SETS.false c.list_count-n.ensures c.same_set.ensures
