use mathlib.Core.Path.{sym, ◌∙◌}
use native.Mathlib.Omega.{arith}
use Rattle.reply_read.specs.referral.Replies.{good_entry}
use Rattle.reply_read.proofs.referral.EntryLaws.{entry_fit, starts_hit, starts_miss, starts_end, entries_start}
use Rattle.reply_read.proofs.referral.good_entries.Goals as goal

pub loop-i-init : goal.loop-i-init
loop-i-init c = (omega arith, entries_start (good_entry c.args.r.now) c.args.r.now c.requires.1.1.1)

pub good_entry-requires : goal.good_entry-requires
good_entry-requires c = (c.requires.0, (omega arith, omega arith))

pub returns-then-not-good_entry : goal.returns-then-not-good_entry
returns-then-not-good_entry c =
    let r = c.args.r.now in
    let l = c.loop-i in
    sym (l.invariant.1 ∙ starts_miss (good_entry r) r c.args.n l._i l.e (omega arith) c.good_entry.ensures c.if-not-good_entry.true)

pub next_entry-e-requires : goal.next_entry-e-requires
next_entry-e-requires c =
    let w = entry_fit c.args.r.now c.loop-i.e c.good_entry.ensures c.if-not-good_entry.false in
    (omega (arith, w.0, w.1), omega arith)

pub loop-i-preserved : goal.loop-i-preserved
loop-i-preserved c =
    let r = c.args.r.now in
    let l = c.loop-i in
    let w = entry_fit r l.e c.good_entry.ensures c.if-not-good_entry.false in
    (omega (arith, c.next_entry-e.ensures, w.1), l.invariant.1 ∙ starts_hit (good_entry r) r c.args.n l._i l.e (omega arith) c.good_entry.ensures c.if-not-good_entry.false c.next_entry-e.ensures)

pub returns : goal.returns
returns c =
    let r = c.args.r.now in
    let l = c.loop-i in
    sym (l.invariant.1 ∙ starts_end (good_entry r) r c.args.n l._i l.e (omega arith))
