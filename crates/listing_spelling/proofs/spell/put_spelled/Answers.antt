use mathlib.Core.Path.{refl}
use native.Mathlib.Omega.{arith}
use Rattle.listing_spelling.proofs.spell.PutLaws.{left_start, left_next, left_done}
use Rattle.listing_spelling.proofs.spell.SpellingLaws.{spelled_cons, spelled_end, units_more}
use borrow.Author.Rules.{rules}
use Rattle.listing_spelling.proofs.spell.put_spelled.Goals as goal

pub loop-u-init : goal.loop-u-init
loop-u-init c = (refl, left_start _ _ _ (search rules))

pub put_unit-end-requires : goal.put_unit-end-requires
put_unit-end-requires c = omega (arith, c.loop-u.invariant.1.fits, units_more c.args.s.now c.loop-u.u-index (omega arith))

pub loop-u-preserved : goal.loop-u-preserved
loop-u-preserved c =
    let l = c.loop-u in
    (omega arith, left_next _ _ l.invariant.1 (spelled_cons c.args.s.now l.u-index (omega arith)) c.put_unit-end.ensures)

pub returns : goal.returns
returns c = left_done _ _ _ c.loop-u.invariant.1 refl refl (spelled_end _ c.loop-u.u-index (omega arith))
