use Rattle.walk_steps.proofs.question_request.NameLaws.{part_whole, absent_out, first_out}
use Rattle.walk_steps.proofs.question_request.put_request.Goals as goal

pub returns-in_default : goal.returns-in_default
returns-in_default c = absent_out _ _ c.next_units.ensures _ c.in_default.is

pub slice_bounds-request-end : goal.slice_bounds-request-end
slice_bounds-request-end c = part_whole _ _ c.next_units.ensures _ c.in-Some.is

pub returns : goal.returns
returns c = first_out _ _ c.next_units.ensures _ _ c.in-Some.is c.request.ensures.buffer
