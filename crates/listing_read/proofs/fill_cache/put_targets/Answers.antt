use mathlib.Core.Path.{refl, ◌∙◌}
use native.Mathlib.Omega.{arith}
use Rattle.listing_read.proofs.fill_cache.EntryLaws.{targets_few, more_left, left_none, left_past, target_there, target_next, target_added, targets_done}
use borrow.Author.Rules.{rules}
use Rattle.listing_read.proofs.fill_cache.put_targets.Goals as goal

pub loop-end-init : goal.loop-end-init
loop-end-init c = (search rules, (refl, (c.requires.1, refl)))

pub returns-else-text-end-eq-TARGET : goal.returns-else-text-end-eq-TARGET
returns-else-text-end-eq-TARGET c = targets_done c.args.text.now c.args.i c.loop-end.end c.loop-end.n c.loop-end.invariant.1.1.0 c.args.refs.now c.loop-end.refs (omega arith) c.loop-end.invariant.1.1.1 (left_none c.args.text.now c.args.i c.loop-end.end c.loop-end.n c.loop-end.invariant.1.1.0 c.if-text-end-eq-TARGET.false)

pub put_target-end-requires : goal.put_target-end-requires
put_target-end-requires c =
    let l = more_left c.args.text.now c.args.i c.loop-end.end c.loop-end.n c.loop-end.invariant.1.1.0 c.if-text-end-eq-TARGET.true in
    let f = targets_few c.args.text.now c.args.i c.loop-end.end c.loop-end.n c.loop-end.invariant.1.1.0 in
    (omega arith, (omega arith, target_there c.args.text.now c.args.i c.loop-end.end c.loop-end.n c.loop-end.invariant.1.1.0 l))

pub overflow_add-n : goal.overflow_add-n
overflow_add-n c = omega (arith, targets_few c.args.text.now c.args.i c.loop-end.end c.loop-end.n c.loop-end.invariant.1.1.0)

pub loop-end-smaller : goal.loop-end-smaller
loop-end-smaller c = omega (arith, more_left c.args.text.now c.args.i c.loop-end.end c.loop-end.n c.loop-end.invariant.1.1.0 c.if-text-end-eq-TARGET.true)

pub loop-end-preserved : goal.loop-end-preserved
loop-end-preserved c =
    let l = more_left c.args.text.now c.args.i c.loop-end.end c.loop-end.n c.loop-end.invariant.1.1.0 c.if-text-end-eq-TARGET.true in (
      omega arith,
      (
        omega arith,
        (
          target_next c.args.text.now c.args.i c.loop-end.end c.loop-end.n c.loop-end.invariant.1.1.0 l c.loop-end.refs (omega arith) c.put_target-end.ensures,
          c.loop-end.invariant.1.1.1 ∙ target_added c.args.text.now c.args.i c.loop-end.end c.loop-end.n c.loop-end.invariant.1.1.0 l c.loop-end.refs (omega arith) c.put_target-end.ensures,
        ),
      ),
    )

pub returns-after-loop-end : goal.returns-after-loop-end
returns-after-loop-end c = targets_done c.args.text.now c.args.i c.loop-end.end c.loop-end.n c.loop-end.invariant.1.1.0 c.args.refs.now c.loop-end.refs (omega arith) c.loop-end.invariant.1.1.1 (left_past c.args.text.now c.args.i c.loop-end.end c.loop-end.n c.loop-end.invariant.1.1.0 (omega arith))
