use Rattle.walk_answers.proofs.io_answer.TryLaws.{no_try, fails_covered, fails_on, fails_end}
use Rattle.walk_answers.proofs.io_answer.after_failure.Goals as goal

pub returns-then-status-eq-PATH_NOT_COVERED : goal.returns-then-status-eq-PATH_NOT_COVERED
returns-then-status-eq-PATH_NOT_COVERED c = record { called = fails_covered c.args.q c.args.g c.args.status _ c.if-status-eq-PATH_NOT_COVERED.true _ c.not_covered.ensures; inside = no_try _ _ }

pub returns-then-is_next : goal.returns-then-is_next
returns-then-is_next c = record { called = fails_on c.args.q c.args.g c.args.status _ c.if-status-eq-PATH_NOT_COVERED.false c.is_next.ensures c.if-is_next.true _ c.next_target.ensures.called; inside = c.next_target.ensures.inside }

pub returns-else-is_next : goal.returns-else-is_next
returns-else-is_next c = record { called = fails_end c.args.q c.args.g c.args.status _ c.if-status-eq-PATH_NOT_COVERED.false c.is_next.ensures c.if-is_next.false; inside = no_try _ _ }
