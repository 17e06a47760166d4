use Rattle.std.proofs.Common.{sym, ◌∙◌, arith}
use Rattle.cache_lookup.proofs.AgeLaws.{oldest_start, oldest_hit, oldest_miss, oldest_end}
use Rattle.cache_lookup.proofs.oldest_place.Goals as goal
use Rattle.cache_lookup.proofs.oldest_place.Goals.{then-most-seconds, else-most-seconds}

pub loop-i-init : goal.loop-i-init
loop-i-init c = oldest_start _ _

pub loop-i-preserved : goal.loop-i-preserved
loop-i-preserved c =
    c.loop-i.invariant
    ∙ (elim c.if-most-seconds.branch [
      | then-most-seconds w ↦ oldest_hit _ _ _ _ _ c.place_age-seconds.ensures w.if-most-seconds.true w.oldest-is w.most-is (omega arith)
      | else-most-seconds w ↦ oldest_miss _ _ _ _ _ c.place_age-seconds.ensures w.if-most-seconds.false w.oldest-is w.most-is (omega arith)
    ])

pub returns : goal.returns
returns c = sym (c.loop-i.invariant ∙ oldest_end _ _ _ _ _ (omega arith))
