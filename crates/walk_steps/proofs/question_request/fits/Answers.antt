use Rattle.walk_steps.proofs.question_request.NameLaws.{part_whole, absent_fits, first_fits}
use Rattle.walk_steps.proofs.question_request.fits.Goals as goal

pub returns-in_default : goal.returns-in_default
returns-in_default c = absent_fits _ _ c.next_units.ensures _ c.in_default.is

pub slice_bounds-request_length-end : goal.slice_bounds-request_length-end
slice_bounds-request_length-end c = part_whole _ _ c.next_units.ensures _ c.in-Some.is

pub returns : goal.returns
returns c = first_fits _ _ c.next_units.ensures _ _ c.in-Some.is c.request_length.ensures
