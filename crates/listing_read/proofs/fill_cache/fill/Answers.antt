use mathlib.Core.Path.{refl}
use native.Mathlib.Omega.{arith}
use Rattle.listing_read.proofs.fill_cache.FillLaws.{at_start, entry_left, none_left, lines_here, stands_next, falls, entry_put, fill_starts, fill_ends}
use borrow.Author.Rules.{rules}
use Rattle.listing_read.proofs.fill_cache.fill.Goals as goal

pub loop-at-init : goal.loop-at-init
loop-at-init c = (search rules, (refl, (at_start c.args.text.now c.requires.1.0, fill_starts c.args.text.now c.requires.1.0 c.args.refs.now c.requires.0 c.requires.1.1)))

pub put_entry-at-requires : goal.put_entry-at-requires
put_entry-at-requires c =
    let l = entry_left c.args.text.now c.requires.1.0 c.loop-at.i c.loop-at.at c.loop-at.invariant.1.1.0 (omega arith) in
    (omega (arith, c.requires.1.1), lines_here c.args.text.now c.requires.1.0 c.loop-at.i c.loop-at.at c.loop-at.invariant.1.1.0 l)

pub overflow_add-i : goal.overflow_add-i
overflow_add-i c = omega (arith, c.requires.1.1)

pub loop-at-smaller : goal.loop-at-smaller
loop-at-smaller c =
    let l = entry_left c.args.text.now c.requires.1.0 c.loop-at.i c.loop-at.at c.loop-at.invariant.1.1.0 (omega arith) in
    falls c.args.text.now c.requires.1.0 c.loop-at.i c.loop-at.at c.loop-at.invariant.1.1.0 l _ c.put_entry-at.ensures.next

pub loop-at-preserved : goal.loop-at-preserved
loop-at-preserved c =
    let l = entry_left c.args.text.now c.requires.1.0 c.loop-at.i c.loop-at.at c.loop-at.invariant.1.1.0 (omega arith) in (
      omega arith,
      (
        omega arith,
        (
          stands_next c.args.text.now c.requires.1.0 c.loop-at.i c.loop-at.at c.loop-at.invariant.1.1.0 l _ c.put_entry-at.ensures.next,
          entry_put c.args.text.now c.requires.1.0 c.loop-at.i c.loop-at.at c.loop-at.invariant.1.1.0 l c.args.refs.now c.loop-at.refs c.requires.0 c.requires.1.1 c.loop-at.invariant.1.0 _ c.loop-at.invariant.1.1.1 c.put_entry-at.ensures,
        ),
      ),
    )

pub overflow_mul-held : goal.overflow_mul-held
overflow_mul-held c = omega (arith, c.requires.1.1)

pub overflow_sub-refs : goal.overflow_sub-refs
overflow_sub-refs c = omega (arith, c.requires.1.1)

pub clear_units-requires : goal.clear_units-requires
clear_units-requires c = omega (arith, c.requires.1.1)

pub returns : goal.returns
returns c =
    fill_ends c.args.text.now c.requires.1.0 c.args.refs.now c.requires.0 c.requires.1.1 c.loop-at.i c.loop-at.refs (none_left c.args.text.now c.requires.1.0 c.loop-at.i c.loop-at.at c.loop-at.invariant.1.1.0 (omega arith)) (omega (arith, c.requires.1.1))
    c.loop-at.invariant.1.0 c.loop-at.invariant.1.1.1 c.clear_units.ensures
