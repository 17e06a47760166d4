-- What the first entry fixes.
use mathlib.Core.Path.{ap, sym}
use native.Mathlib.Omega.{arith}
use Rattle.reply_bytes.specs.declared.reader.Marks.{Marks}
use Rattle.reply_bytes.specs.declared.reader.Start.{Start}
use Rattle.reply_read.specs.referral.Replies.{version_at, server_type_at}
use Rattle.reply_read.proofs.referral.EntryLaws.{entry_prefix, entry_short}
use Rattle.reply_read.proofs.referral.TextLaws.{text_bad, text_good, text_inside_lem}
use Rattle.reply_read.proofs.referral.first_entry.Goals as goal

pub returns-then-r-lt42-clause-none : goal.returns-then-r-lt42-clause-none
returns-then-r-lt42-clause-none c = λ h. entry_short c.args.r.now (omega arith) (omega arith)

pub returns-in_err-prefix-clause-none : goal.returns-in_err-prefix-clause-none
returns-in_err-prefix-clause-none c = λ h. sym (entry_prefix c.args.r.now 8 (text_bad c.args.r.now c.in_err-prefix.was c.prefix_of.ensures.path))

pub returns-clause-read : goal.returns-clause-read
unfolding version_at server_type_at
returns-clause-read c = record {
  version_is = ap (λ (z : Start). z.version) c.read_start.ensures;
  kind_is = ap (λ (z : Marks). z.kind) c.read_marks.ensures;
  first_is = text_good c.args.r.now _ c.in_ok-prefix.was c.prefix_of.ensures.path;
  first_inside = text_inside_lem c.args.r.now _ c.in_ok-prefix.was c.prefix_of.ensures.inside;
}
