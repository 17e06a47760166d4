use Rattle.std.proofs.Common.{sym, ◌∙◌, arith, length-take, length-drop}
use Rattle.laws.proofs.Every.{every_drop, every_take}
use Rattle.cache_entry.proofs.equivalent_targets.SetLaws.{sets_short, sets_end, sets_differ, sets_more}
use Rattle.cache_entry.proofs.equivalent_targets.same_sets.Goals as goal

pub returns-then-given-b : goal.returns-then-given-b
returns-then-given-b c = sym (c.loop-a.invariant.1.1 ∙ sets_short _ _ _ c.args.given.now c.loop-a.a c.loop-a.b (omega arith) (omega arith))

pub same_set-requires : goal.same_set-requires
same_set-requires c = (
  omega arith,
  (
    omega arith,
    (
      omega arith,
      (
        simp (length-take, length-drop) (omega arith),
        every_take _ _ _ (every_drop _ c.loop-a.b c.args.given.now c.requires.1.1.1),
      ),
    ),
  ),
)

pub returns-then-not-same_set : goal.returns-then-not-same_set
returns-then-not-same_set c =
    sym (c.loop-a.invariant.1.1
    ∙ sets_differ _ _ _ c.args.given.now _ _ c.held_end-end.ensures.ends c.given_end-to.ensures.ends c.same_set.ensures (omega arith) (omega arith) c.if-not-same_set.true)

pub loop-a-preserved : goal.loop-a-preserved
loop-a-preserved c = (
  omega arith,
  (
    omega arith,
    c.loop-a.invariant.1.1
        ∙ sets_more _ _ _ c.args.given.now _ _ c.held_end-end.ensures.ends c.given_end-to.ensures.ends c.same_set.ensures (omega arith) (omega arith) c.if-not-same_set.false,
  ),
)

pub returns : goal.returns
returns c = sets_end _ _ _ c.args.given.now c.loop-a.a c.loop-a.b (omega arith) ∙ sym c.loop-a.invariant.1.1
