use Rattle.std.proofs.Common.{sym, refl, ◌∙◌, arith}
use Rattle.cache_lookup.proofs.FindLaws.{find_start, find_hit, find_miss, find_end}
use Rattle.cache_lookup.proofs.EndLaws.{find_whole}
use Rattle.cache_lookup.proofs.find.Goals as goal
use Rattle.cache_lookup.proofs.find.Goals.{then-longer_match+else-units-path, else-longer_match}

pub loop-i-init : goal.loop-i-init
loop-i-init c = (omega arith, find_start _ _)

pub returns-then-units-path : goal.returns-then-units-path
returns-then-units-path c =
    let next = c.in-Some.ensures in
    sym (c.loop-i.invariant.1
    ∙ (next.1.1.same _ _
    ∙ (find_hit _ _ _ _ _ c.longer_match.ensures c.if-longer_match.true refl c.text-units.ensures refl next.1.0
    ∙ find_whole _ _ _ _ _ c.if-units-path.true (omega (arith, next.1.0)))))

pub loop-i-preserved : goal.loop-i-preserved
loop-i-preserved c =
    let next = c.in-Some.ensures in (
      omega (arith, next.1.0),
      c.loop-i.invariant.1
          ∙ (next.1.1.same _ _
          ∙ (elim c.if-longer_match.branch [
            | then-longer_match+else-units-path w ↦ find_hit _ _ _ _ _ c.longer_match.ensures w.if-longer_match.true w.best-is w.text-units.ensures w.units-is next.1.0
            | else-longer_match w ↦ find_miss _ _ _ _ _ c.longer_match.ensures w.if-longer_match.false w.best-is w.units-is next.1.0
          ])),
    )

pub returns : goal.returns
returns c = sym (c.loop-i.invariant.1 ∙ (c.in_default.ensures.same _ _ ∙ find_end _ _ _ _ _ (omega arith)))
