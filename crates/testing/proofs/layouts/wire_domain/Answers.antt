-- A domain reply is read, then its domain i.
use mathlib.Core.Path.{sym, ◌∙◌}
use native.Mathlib.Omega.{arith}
use Rattle.reply_read.specs.referral.Replies.{referral_count}
use Rattle.reply_read.specs.name_lists.NameLists.{read_domains}
use Rattle.reply_read.specs.name_lists.Code.{answer_of}
use Rattle.reply_read.proofs.name_lists.SaysLaws.{says_domains}
use Rattle.testing.proofs.layouts.WireLaws.{says_two, two_says}
use Rattle.testing.proofs.layouts.wire_domain.Goals as goal
use Rattle.testing.proofs.layouts.wire_domain.Goals.{then-wire_domains-ne2-via-then-wire_domains-ne2, then-wire_domains-ne2-via-else-wire_domains-ne2+then-reply-lt8}

pub returns-then-wire_domains-ne2 : goal.returns-then-wire_domains-ne2
returns-then-wire_domains-ne2 c =
    elim c.then-wire_domains-ne2.branch [
      | then-wire_domains-ne2-via-then-wire_domains-ne2 w ↦ λ h l. absurd (w.if-wire_domains-ne2.true (c.wire_domains.ensures ∙ two_says h))
      | then-wire_domains-ne2-via-else-wire_domains-ne2+then-reply-lt8 w ↦ λ h l. absurd (let s = says_domains c.args.size c.args.reply.now h in omega (arith, s.header))
    ]

pub returns-then-n-i : goal.returns-then-n-i
unfolding referral_count
returns-then-n-i c = λ h l. absurd (omega (arith, c.unit_at-n.ensures))

pub domain_number-requires : goal.domain_number-requires
unfolding referral_count
domain_number-requires c =
    let w = says_domains c.args.size c.args.reply.now (says_two (answer_of (read_domains c.args.size c.args.reply.now)) (sym c.wire_domains.ensures ∙ c.if-wire_domains-ne2.false)) in
    record { header = w.header; short = omega (arith, w.within); good = w.good; there = omega (arith, c.unit_at-n.ensures) }

pub returns : goal.returns
returns c = λ h l. c.domain_number.ensures
