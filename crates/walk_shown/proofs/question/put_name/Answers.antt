use Rattle.walk_shown.proofs.question.ShownLaws.{name_first, name_tried, first_short}
use Rattle.walk_steps.proofs.question_request.NameLaws.{part_whole}
use Rattle.walk_shown.proofs.question.put_name.Goals as goal

pub returns-in_default : goal.returns-in_default
returns-in_default c = name_tried _ _ _ _ c.next_units.ensures c.in_default.is c.put.ensures

pub slice_bounds-put-end : goal.slice_bounds-put-end
slice_bounds-put-end c = part_whole _ _ c.next_units.ensures _ c.in-Some.is

pub put-requires-2 : goal.put-requires-2
put-requires-2 c = first_short c.in-Some.n _ c.requires.0

pub returns : goal.returns
returns c = name_first _ _ _ _ c.next_units.ensures _ c.in-Some.is c.put-2.ensures
