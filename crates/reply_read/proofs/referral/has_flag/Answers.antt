-- Whether a flag is set.
use mathlib.Core.Path.{refl}
use Rattle.reply_bytes.specs.texts.Bytes.{flag}
use Rattle.reply_read.proofs.referral.has_flag.Goals as goal

pub returns : goal.returns
unfolding flag
returns c = refl
