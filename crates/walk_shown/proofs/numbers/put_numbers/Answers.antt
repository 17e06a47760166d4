use Rattle.walk_shown.proofs.question.ShownLaws.{numbers_short, numbers_put}
use Rattle.walk_shown.proofs.numbers.put_numbers.Goals as goal

pub returns-then-out-lt3 : goal.returns-then-out-lt3
returns-then-out-lt3 c = numbers_short _ _ _ _ c.if-out-lt3.true

pub returns : goal.returns
returns c = numbers_put _ _ _ _ c.if-out-lt3.false c.copy_from_slice.ensures.after
