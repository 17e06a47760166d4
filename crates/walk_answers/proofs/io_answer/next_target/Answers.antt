use Rattle.walk_answers.proofs.io_answer.TryLaws.{no_try, next_end, next_try, next_inside}
use Rattle.cache.proofs.order.KindLaws.{referral_told}
use native.Mathlib.Omega.{arith}
use Rattle.walk_answers.proofs.io_answer.next_target.Goals as goal

pub next_place-target-requires : goal.next_place-target-requires
next_place-target-requires c = omega (arith, c.target_count.ensures, (referral_told _ c.requires.1).few)

pub returns-then-target-q : goal.returns-then-target-q
returns-then-target-q c = record { called = next_end c.args.q c.args.status _ c.next_place-target.ensures c.target_count.ensures c.if-target-q.true; inside = no_try _ _ }

pub returns-else-target-q : goal.returns-else-target-q
returns-else-target-q c = record { called = next_try c.args.q c.args.status _ c.next_place-target.ensures c.target_count.ensures c.if-target-q.false; inside = next_inside c.args.q c.args.status _ c.next_place-target.ensures c.target_count.ensures c.requires.1 }
