-- One entry, held to the first one.
use mathlib.Core.Path.{sym, ◌∙◌}
use mathlib.Core.Bool.{true≢false}
use native.Mathlib.Omega.{arith}
use Rattle.reply_read.proofs.referral.EntryLaws.{entry_room}
use Rattle.reply_read.proofs.referral.good_entry.Goals as goal
use Rattle.reply_read.proofs.referral.good_entry.Goals.{then-good_fields, else-good_fields}

pub prefix_of-requires : goal.prefix_of-requires
prefix_of-requires c =
    let w = entry_room c.args.r.now c.args.e c.good_fields.ensures c.if-good_fields.true in
    (omega (arith, w.0, w.1), omega arith)

pub target_of-requires : goal.target_of-requires
target_of-requires c =
    elim c.if-good_fields.branch [
      | then-good_fields w ↦ let s = entry_room c.args.r.now c.args.e c.good_fields.ensures w.if-good_fields.true in (omega (arith, s.0, s.1), omega arith)
      | else-good_fields w ↦ absurd (true≢false (sym c.if-is_some_and.true ∙ (w.value-is ∙ w.if-good_fields.false)))
    ]
