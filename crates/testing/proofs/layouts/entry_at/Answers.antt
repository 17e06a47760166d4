use mathlib.Core.Path.{refl, sym, ◌∙◌}
use native.Mathlib.Omega.{arith}
use Rattle.reply_read.specs.referral.Replies.{referral_count}
use Rattle.reply_read.proofs.referral.EntryLaws.{entries_start}
use Rattle.reply_read.specs.name_lists.NameLists.{good_domain_name}
use Rattle.reply_read.proofs.name_lists.SaysLaws.{left_fits, left_next}
use Rattle.testing.proofs.layouts.WireLaws.{entry_first, entry_next, entry_here}
use Rattle.testing.proofs.layouts.entry_at.Goals as goal

pub loop-j-init : goal.loop-j-init
loop-j-init c = (sym (entries_start (good_domain_name c.args.r.now) c.args.r.now refl) ∙ c.requires.good, entry_first c.args.r.now c.args.i)

pub next_entry-e-requires : goal.next_entry-e-requires
next_entry-e-requires c =
    let w = left_fits c.args.r.now (referral_count c.args.r.now) c.loop-j._j c.loop-j.e (omega (arith, c.requires.there)) c.loop-j.invariant.0 in
    (omega (arith, w.0, w.1), c.requires.short)

pub loop-j-preserved : goal.loop-j-preserved
loop-j-preserved c = (left_next c.args.r.now (referral_count c.args.r.now) c.loop-j._j c.loop-j.e (omega (arith, c.requires.there)) c.loop-j.invariant.0 c.next_entry-e.ensures, c.loop-j.invariant.1 ∙ entry_next c.args.r.now (referral_count c.args.r.now) c.args.i c.loop-j._j c.loop-j.e (omega arith) (omega (arith, c.requires.there)) c.next_entry-e.ensures)

pub returns : goal.returns
returns c =
    let w = left_fits c.args.r.now (referral_count c.args.r.now) c.loop-j._j c.loop-j.e (omega (arith, c.requires.there)) c.loop-j.invariant.0 in record { start = sym (c.loop-j.invariant.1 ∙ entry_here c.args.r.now (referral_count c.args.r.now) c.args.i c.loop-j._j c.loop-j.e (omega arith) (omega (arith, c.requires.there))); inside = omega (arith, w.0, w.1) }
