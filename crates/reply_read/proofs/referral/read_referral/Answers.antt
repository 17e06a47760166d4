-- A reply is read: the number of its entries, its entries, its prefix.
use Rattle.std.specs.Prelude.{is_some}
use Rattle.std.specs.Result.{result_ok}
use mathlib.Core.Path.{ap, sym, ◌∙◌}
use mathlib.Core.Bool.{◌&&◌}
use native.Mathlib.Omega.{arith}
use Rattle.laws.specs.Lists.{every}
use Rattle.laws.proofs.Choices.{and_both, and_no_left, and_no_right}
use Rattle.reply_read.specs.referral.Replies.{good_entry, entries, matches_read, prefix_at, referral_in, read_or, read_referral}
use Rattle.reply_read.specs.referral.Code.{unread, denoted, referral_shown}
use Rattle.reply_read.proofs.referral.EntryLaws.{entries_short}
use Rattle.reply_read.proofs.referral.ReplyLaws.{passed_on, missing, read_first, counted, read_uncounted, read_bad, read_good, read_matches, good_long}
use Rattle.reply_read.proofs.referral.SaysLaws.{denoted_err}
use Rattle.reply_read.proofs.referral.read_referral.Goals as goal
use Rattle.reply_read.proofs.referral.read_referral.Goals.{else-good_entries-via-then-good_entries+else-span_matches, else-good_entries-via-else-good_entries}

pub returns-in_err-n-clause-found : goal.returns-in_err-n-clause-found
unfolding read_referral
returns-in_err-n-clause-found c =
    let r = c.args.r.now in
    let e = c.in_err-n.field-0.0 in
    denoted_err (referral_shown r) e (passed_on _ e c.from_residual.ensures.1)
    ∙ read_uncounted c.args.size r c.entry_count.ensures (every (good_entry r) (entries r) && matches_read (prefix_at r 8) c.args.asked.now) (referral_in r) e c.in_err-n.was

pub first_entry-requires : goal.first_entry-requires
first_entry-requires c = let w = counted c.args.size c.args.r.now c.entry_count.ensures _ c.in_ok-n.was in (w.header, omega (arith, w.within))

pub returns-in_err-first-clause-found : goal.returns-in_err-first-clause-found
unfolding read_referral unread
returns-in_err-first-clause-found c =
    let r = c.args.r.now in
    let e = c.in_err-first.field-0.0 in
    let w = counted c.args.size r c.entry_count.ensures _ c.in_ok-n.was in
    let none = c.ok_or.ensures.ok_part ∙ ap result_ok c.in_err-first.was in
    denoted_err (referral_shown r) e (passed_on _ e c.from_residual-in_err-first.ensures.1)
    ∙ (ap unread (missing none c.ok_or.ensures.value c.in_err-first.was)
    ∙ read_bad c.args.size r c.entry_count.ensures (every (good_entry r) (entries r) && matches_read (prefix_at r 8) c.args.asked.now) (referral_in r) _ c.in_ok-n.was
    (and_no_left _ (entries_short (good_entry r) r (omega (arith, w.is, w.some)) (c.first_entry.ensures.none (ap is_some none)))))

pub good_entries-requires : goal.good_entries-requires
good_entries-requires c =
    let w = counted c.args.size c.args.r.now c.entry_count.ensures _ c.in_ok-n.was in
    ((read_first c.first_entry.ensures.read c.ok_or.ensures.ok_part c.in_ok-first.was), (w.header, (omega (arith, w.within), w.is)))

pub referral_in-requires : goal.referral_in-requires
referral_in-requires c =
    let r = c.args.r.now in
    let w = counted c.args.size r c.entry_count.ensures _ c.in_ok-n.was in
    let g = sym c.good_entries.ensures ∙ c.if-good_entries.true in (
      record {
        short = omega (arith, w.within);
        long = good_long r w.header (omega (arith, w.is, w.some)) g;
        good = g;
        firstly = (read_first c.first_entry.ensures.read c.ok_or.ensures.ok_part c.in_ok-first.was);
      },
      w.is,
    )

pub returns-then-span_matches-clause-found : goal.returns-then-span_matches-clause-found
unfolding read_referral denoted read_or
returns-then-span_matches-clause-found c =
    let r = c.args.r.now in
    ap read_or (sym c.referral_in.ensures.found)
    ∙ read_good c.args.size r c.entry_count.ensures (every (good_entry r) (entries r) && matches_read (prefix_at r 8) c.args.asked.now) (referral_in r) _ c.in_ok-n.was
    (and_both (sym c.good_entries.ensures ∙ c.if-good_entries.true)
    (read_matches c.args.asked.now (read_first c.first_entry.ensures.read c.ok_or.ensures.ok_part c.in_ok-first.was).first_is c.span_matches.ensures ∙ c.if-span_matches.true))

pub returns-else-good_entries-clause-found : goal.returns-else-good_entries-clause-found
unfolding read_referral denoted unread
returns-else-good_entries-clause-found c =
    let r = c.args.r.now in
    read_bad c.args.size r c.entry_count.ensures (every (good_entry r) (entries r) && matches_read (prefix_at r 8) c.args.asked.now) (referral_in r) _ c.in_ok-n.was
    (elim c.else-good_entries.branch [
      | else-good_entries-via-then-good_entries+else-span_matches w ↦
          and_no_right (every (good_entry r) (entries r)) (read_matches c.args.asked.now (read_first c.first_entry.ensures.read c.ok_or.ensures.ok_part c.in_ok-first.was).first_is w.span_matches.ensures ∙ w.if-span_matches.false)
      | else-good_entries-via-else-good_entries w ↦ and_no_left _ (sym c.good_entries.ensures ∙ w.if-good_entries.false)
    ])
