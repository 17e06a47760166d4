use Rattle.walk_shown.proofs.question.ShownLaws.{put_short, put_whole}
use Rattle.walk_shown.proofs.question.put.Goals as goal

pub returns-then-out-text : goal.returns-then-out-text
returns-then-out-text c = put_short _ _ c.if-out-text.true

pub returns : goal.returns
returns c = put_whole _ _ c.if-out-text.false c.copy_units.ensures
