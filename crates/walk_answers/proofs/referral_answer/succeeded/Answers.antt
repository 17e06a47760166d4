use native.Mathlib.Omega.{arith}
use borrow.Author.Rules.{rules}
use Rattle.walk_answers.proofs.referral_answer.succeeded.Goals as goal

pub reply_saved-requires : goal.reply_saved-requires
reply_saved-requires c = (search rules, omega arith)
