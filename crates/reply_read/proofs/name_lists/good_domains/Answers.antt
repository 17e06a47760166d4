use mathlib.Core.Path.{sym, ◌∙◌}
use native.Mathlib.Omega.{arith}
use Rattle.reply_read.specs.name_lists.NameLists.{good_domain_name}
use Rattle.reply_read.proofs.referral.EntryLaws.{starts_hit, starts_miss, starts_end, entries_start}
use Rattle.reply_read.proofs.name_lists.ListLaws.{domain_fit}
use Rattle.reply_read.proofs.name_lists.good_domains.Goals as goal

pub loop-i-init : goal.loop-i-init
loop-i-init c = (omega arith, entries_start (good_domain_name c.args.r.now) c.args.r.now c.requires.1.1)

pub returns-then-not-good_domain : goal.returns-then-not-good_domain
returns-then-not-good_domain c =
    let l = c.loop-i in
    sym (l.invariant.1 ∙ starts_miss (good_domain_name c.args.r.now) c.args.r.now c.args.n l._i l.e (omega arith) c.good_domain.ensures c.if-not-good_domain.true)

pub next_entry-e-requires : goal.next_entry-e-requires
next_entry-e-requires c =
    let w = domain_fit c.args.r.now c.loop-i.e c.good_domain.ensures c.if-not-good_domain.false in
    (omega (arith, w.0, w.1), omega arith)

pub loop-i-preserved : goal.loop-i-preserved
loop-i-preserved c =
    let l = c.loop-i in
    let w = domain_fit c.args.r.now l.e c.good_domain.ensures c.if-not-good_domain.false in
    (omega (arith, c.next_entry-e.ensures, w.1), l.invariant.1 ∙ starts_hit (good_domain_name c.args.r.now) c.args.r.now c.args.n l._i l.e (omega arith) c.good_domain.ensures c.if-not-good_domain.false c.next_entry-e.ensures)

pub returns : goal.returns
returns c = let l = c.loop-i in sym (l.invariant.1 ∙ starts_end (good_domain_name c.args.r.now) c.args.r.now c.args.n l._i l.e (omega arith))
