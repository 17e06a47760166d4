use Rattle.std.proofs.Common.{sym, ◌∙◌, arith, rules}
use Rattle.cache_lookup.proofs.AgeLaws.{free_hit, free_miss, free_end}
use Rattle.cache_lookup.proofs.first_free.Goals as goal

pub returns-then-unit-eq0 : goal.returns-then-unit-eq0
returns-then-unit-eq0 c =
    sym (c.loop-i.invariant ∙ free_hit _ _ c.unit.ensures c.if-unit-eq0.true (omega arith))

pub loop-i-preserved : goal.loop-i-preserved
loop-i-preserved c = c.loop-i.invariant ∙ free_miss _ _ c.unit.ensures (search rules) (omega arith)

pub returns : goal.returns
returns c = sym (c.loop-i.invariant ∙ free_end _ _ (omega arith))
