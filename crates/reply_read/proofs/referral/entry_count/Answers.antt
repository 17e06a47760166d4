-- What is tested first of every reply.
use native.Mathlib.Omega.{arith}
use mathlib.Core.Path.{ap}
use Rattle.reply_bytes.specs.declared.reader.Header.{Header}
use Rattle.reply_read.specs.referral.Replies.{referral_count}
use Rattle.reply_read.proofs.referral.ReplyLaws.{count_short, count_long, count_none, count_some}
use Rattle.reply_read.proofs.referral.entry_count.Goals as goal
use Rattle.reply_read.proofs.referral.entry_count.Goals.{then-r-lt8-via-then-r-lt8, then-r-lt8-via-else-r-lt8+then-size-r}

pub returns-then-r-lt8 : goal.returns-then-r-lt8
returns-then-r-lt8 c = elim c.then-r-lt8.branch [ then-r-lt8-via-then-r-lt8 w ↦ count_short c.args.size c.args.r.now w.if-r-lt8.true | then-r-lt8-via-else-r-lt8+then-size-r w ↦ count_long c.args.size c.args.r.now w.if-size-r.true ]

pub returns-then-count-eq0 : goal.returns-then-count-eq0
unfolding referral_count
returns-then-count-eq0 c = count_none c.args.size c.args.r.now (omega arith) (omega arith) (ap (λ (z : Header). z.count) c.read_header-count.ensures) c.if-count-eq0.true

pub returns : goal.returns
unfolding referral_count
returns c = count_some c.args.size c.args.r.now (omega arith) (omega arith) (ap (λ (z : Header). z.count) c.read_header-count.ensures) c.if-count-eq0.false
