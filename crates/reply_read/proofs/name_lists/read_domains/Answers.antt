-- A domain reply is read: the number of its entries, then its entries.
use mathlib.Core.Path.{ap, sym, ◌∙◌}
use mathlib.Core.List.{map}
use native.Mathlib.Omega.{arith}
use Rattle.laws.specs.Lists.{every}
use Rattle.reply_read.specs.referral.Replies.{all_read, entries}
use Rattle.reply_read.specs.name_lists.NameLists.{domain_at, good_domain_name, read_domains}
use Rattle.reply_read.specs.name_lists.Code.{answer_of}
use Rattle.reply_read.proofs.referral.ReplyLaws.{passed_on, counted, read_uncounted, read_bad, read_good}
use Rattle.reply_read.proofs.name_lists.ListLaws.{domains_read, answer_ok, answer_err}
use Rattle.reply_read.proofs.name_lists.read_domains.Goals as goal

pub returns-in_err-n : goal.returns-in_err-n
unfolding read_domains
returns-in_err-n c =
    let r = c.args.r.now in
    let e = c.in_err-n.field-0.0 in
    passed_on _ e c.from_residual.ensures.1
    ∙ (answer_err _ e ∙ ap answer_of (read_uncounted c.args.size r c.entry_count.ensures (every (good_domain_name r) (entries r)) (all_read (map (domain_at r) (entries r))) e c.in_err-n.was))

pub good_domains-requires : goal.good_domains-requires
good_domains-requires c = let w = counted c.args.size c.args.r.now c.entry_count.ensures _ c.in_ok-n.was in (w.header, (omega (arith, w.within), w.is))

pub returns-then-not-good_domains : goal.returns-then-not-good_domains
unfolding read_domains answer_of
returns-then-not-good_domains c =
    let r = c.args.r.now in
    ap answer_of (read_bad c.args.size r c.entry_count.ensures (every (good_domain_name r) (entries r)) (all_read (map (domain_at r) (entries r))) _ c.in_ok-n.was (sym c.good_domains.ensures ∙ c.if-not-good_domains.true))

pub returns : goal.returns
unfolding read_domains
returns c =
    let r = c.args.r.now in
    let g = sym c.good_domains.ensures ∙ c.if-not-good_domains.false in
    answer_ok (domains_read r (entries r) g)
    ∙ ap answer_of (read_good c.args.size r c.entry_count.ensures (every (good_domain_name r) (entries r)) (all_read (map (domain_at r) (entries r))) _ c.in_ok-n.was g)
