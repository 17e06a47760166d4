use Rattle.walk_calls.proofs.resting.RestingLaws.{no_question, question_asked, question_ended}
use Rattle.walk_calls.proofs.resting.question.Goals as goal

pub returns-then-not-in_form : goal.returns-then-not-in_form
returns-then-not-in_form c = no_question _ _ c.in_form.ensures c.if-not-in_form.true

pub returns-in-Asks : goal.returns-in-Asks
returns-in-Asks c = question_asked _ _ c.in_form.ensures c.if-not-in_form.false _ c.in-Asks.is

pub returns-in-Ends : goal.returns-in-Ends
returns-in-Ends c = question_ended _ _ c.in_form.ensures c.if-not-in_form.false _ _ c.in-Ends.is
