use Rattle.walk_calls.proofs.resting.RestingLaws.{no_end, end_asked, end_ended}
use Rattle.walk_calls.proofs.resting.end.Goals as goal

pub returns-then-not-in_form : goal.returns-then-not-in_form
returns-then-not-in_form c = no_end _ _ c.in_form.ensures c.if-not-in_form.true

pub returns-in-Asks : goal.returns-in-Asks
returns-in-Asks c = end_asked _ _ c.in_form.ensures c.if-not-in_form.false _ c.in-Asks.is

pub returns-in-Ends : goal.returns-in-Ends
returns-in-Ends c = end_ended _ _ c.in_form.ensures c.if-not-in_form.false _ _ c.in-Ends.is
