-- The age of what a place holds.
use Rattle.cache_lookup.proofs.AgeLaws.{age_free, age_used}
use Rattle.cache_lookup.proofs.place_age.Goals as goal

pub returns-then-unit-eq0 : goal.returns-then-unit-eq0
returns-then-unit-eq0 c = age_free _ _ _ c.unit.ensures c.if-unit-eq0.true

pub returns-else-unit-eq0 : goal.returns-else-unit-eq0
returns-else-unit-eq0 c =
    age_used _ _ _ c.unit.ensures c.if-unit-eq0.false c.taken.ensures c.age.ensures
