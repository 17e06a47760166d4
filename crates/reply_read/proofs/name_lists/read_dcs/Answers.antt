-- A DC reply is read: the number of its entries, then its first entry.
use mathlib.Core.Path.{ap, sym, ◌∙◌}
use lib.ListN.{take}
use Rattle.reply_read.specs.referral.Replies.{all_read, read_or}
use Rattle.reply_read.specs.referral.Code.{unread, denoted}
use Rattle.reply_read.specs.name_lists.NameLists.{good_dcs, dc_names, read_dcs}
use Rattle.reply_read.specs.name_lists.Code.{dcs_shown}
use Rattle.reply_read.proofs.referral.ReplyLaws.{passed_on, counted, read_uncounted, read_bad, read_good}
use Rattle.reply_read.proofs.referral.SaysLaws.{denoted_err}
use Rattle.reply_read.proofs.name_lists.read_dcs.Goals as goal

pub returns-in_err-entry_count-clause-found : goal.returns-in_err-entry_count-clause-found
unfolding read_dcs
returns-in_err-entry_count-clause-found c =
    let r = c.args.r.now in
    let e = c.in_err-entry_count.field-0.0 in
    denoted_err (dcs_shown r) e (passed_on _ e c.from_residual.ensures.1)
    ∙ read_uncounted c.args.size r c.entry_count.ensures (good_dcs r) (all_read (take 8 (dc_names r))) e c.in_err-entry_count.was

pub good_dcs-requires : goal.good_dcs-requires
good_dcs-requires c = (counted c.args.size c.args.r.now c.entry_count.ensures _ c.in_ok-entry_count.was).header

pub returns-then-not-good_dcs-clause-found : goal.returns-then-not-good_dcs-clause-found
unfolding read_dcs denoted unread
returns-then-not-good_dcs-clause-found c =
    let r = c.args.r.now in
    read_bad c.args.size r c.entry_count.ensures (good_dcs r) (all_read (take 8 (dc_names r))) _ c.in_ok-entry_count.was (sym c.good_dcs.ensures ∙ c.if-not-good_dcs.true)

pub returns-clause-found : goal.returns-clause-found
unfolding read_dcs denoted read_or
returns-clause-found c =
    let r = c.args.r.now in
    ap read_or (sym c.dcs_in.ensures.found)
    ∙ read_good c.args.size r c.entry_count.ensures (good_dcs r) (all_read (take 8 (dc_names r))) _ c.in_ok-entry_count.was (sym c.good_dcs.ensures ∙ c.if-not-good_dcs.false)
