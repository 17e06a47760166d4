-- It never calls itself, so any measure will do.
use Rattle.walk_answers.proofs.referral_answer.+reply_saved.Given as goal

abbrev pub decreases-reply_saved : goal.decreases-reply_saved
decreases-reply_saved l = 0
