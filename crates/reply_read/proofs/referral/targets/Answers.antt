use lib.ListN.{length-set}
use mathlib.Core.Path.{sym, ◌∙◌}
use native.Mathlib.Omega.{arith}
use Rattle.reply_read.specs.referral.Replies.{good_entry}
use Rattle.reply_read.proofs.referral.EntryLaws.{entries_start}
use Rattle.reply_read.proofs.referral.TargetLaws.{come_all, target_all, none_kept, target_next, kept_next, left_fits, left_next, left_read}
use Rattle.reply_read.proofs.referral.TextLaws.{text_bad, text_good, text_inside_lem}
use borrow.Author.Rules.{rules}
use Rattle.reply_read.proofs.referral.targets.Goals as goal

pub loop-i-init : goal.loop-i-init
loop-i-init c = let r = c.args.r.now in (search rules, (sym (entries_start (good_entry r) r c.requires.1.0) ∙ c.requires.1.1, (come_all r c.requires.1.0, none_kept r 8)))

pub target_of-requires : goal.target_of-requires
target_of-requires c =
    let l = c.loop-i in
    let w = left_fits c.args.r.now c.args.n l.i l.e (omega (arith, c.kept_of-m.ensures)) l.invariant.1.0 in
    (omega (arith, w.0, w.1), omega arith)

pub returns-in_default-clause-targets : goal.returns-in_default-clause-targets
returns-in_default-clause-targets c =
    let r = c.args.r.now in
    let l = c.loop-i in
    absurd (left_read r c.args.n l.i l.e (omega (arith, c.kept_of-m.ensures)) l.invariant.1.0 (text_bad r c.in_default.is c.target_of.ensures.path))

pub opens_at-opens-requires : goal.opens_at-opens-requires
opens_at-opens-requires c =
    let l = c.loop-i in
    let w = left_fits c.args.r.now c.args.n l.i l.e (omega (arith, c.kept_of-m.ensures)) l.invariant.1.0 in
    omega (arith, w.0, w.1)

pub next_entry-e-requires : goal.next_entry-e-requires
next_entry-e-requires c =
    let l = c.loop-i in
    let w = left_fits c.args.r.now c.args.n l.i l.e (omega (arith, c.kept_of-m.ensures)) l.invariant.1.0 in
    (omega (arith, w.0, w.1), omega arith)

pub loop-i-preserved : goal.loop-i-preserved
loop-i-preserved c =
    let k = c.kept_of-m.ensures in
    let r = c.args.r.now in
    let n = c.args.n in
    let l = c.loop-i in
    let path = c.in-Some.path in
    (length-set l.kept l.i _ ∙ l.invariant.0, (left_next r n l.i l.e (omega arith) l.invariant.1.0 c.next_entry-e.ensures, (target_next n l.i r l.e l.kept path c.opens_at-opens.result l.invariant.1.1.0 (omega (arith, l.invariant.0)) (omega arith) (omega arith) c.next_entry-e.ensures (text_good r path c.in-Some.is c.target_of.ensures.path) c.opens_at-opens.ensures, kept_next r l.kept l.i path c.opens_at-opens.result l.invariant.1.1.1 (text_inside_lem r path c.in-Some.is c.target_of.ensures.inside))))

pub returns-clause-targets : goal.returns-clause-targets
returns-clause-targets c = target_all c.args.n c.loop-i.i c.kept_of-m.result c.args.r.now c.loop-i.e c.loop-i.kept c.loop-i.invariant.1.1.0 c.requires.1.0 c.kept_of-m.ensures (omega arith) (omega arith)
