use mathlib.Core.Path.{sym, ◌∙◌}
use Prim.Native.Nat.{◌+◌}
use native.Mathlib.Omega.{arith}
use Rattle.reply_bytes.specs.texts.Bytes.{text_from}
use Rattle.reply_read.specs.name_lists.NameLists.{bytes_past}
use Rattle.reply_read.proofs.referral.TargetLaws.{none_inside}
use Rattle.reply_read.proofs.name_lists.ListLaws.{dc_bad, dc_good, dc_next, dc_inside, names_hit, names_left, names_start, name_next, name_all, name_start, span_next}
use lib.ListN.{length-set}
use borrow.Author.Rules.{rules}
use Rattle.reply_read.proofs.name_lists.names.Goals as goal

pub loop-i-init : goal.loop-i-init
loop-i-init c =
    let r = c.args.r.now in
    (search rules, (sym (names_start r c.args.n c.args.from) ∙ c.requires, (name_start r c.args.n c.args.from, none_inside r 8)))

pub returns-in_default-clause-names : goal.returns-in_default-clause-names
returns-in_default-clause-names c =
    let a = c.args in
    let l = c.loop-i in
    absurd (names_left a.r.now a.n l.i l.at (omega (arith, c.kept_of-m.ensures)) l.invariant.1.0 (dc_bad a.r.now c.in_default.is c.dc_at.ensures.name))

pub loop-i-preserved : goal.loop-i-preserved
loop-i-preserved c =
    let k = c.kept_of-m.ensures in
    let a = c.args in
    let r = a.r.now in
    let l = c.loop-i in
    let e = c.in-Some.is in
    let d = c.dc_at.ensures in
    let g = dc_good r _ e d.name in
    let i = l.at + bytes_past (text_from r l.at) in
    let z = dc_next r _ e i d.placed in
    (length-set l.kept l.i _ ∙ l.invariant.0, (sym (names_hit r a.n l.i l.at _ g z (omega arith)) ∙ l.invariant.1.0, (name_next r a.n l.i l.at _ g z l.kept l.invariant.1.1.0 (omega (arith, l.invariant.0)) (omega arith) (omega arith), span_next r l.kept l.i _ l.invariant.1.1.1 (dc_inside r _ e i d.placed))))

pub returns-clause-names : goal.returns-clause-names
returns-clause-names c =
    let a = c.args in
    let l = c.loop-i in
    name_all a.r.now a.n l.i l.at c.kept_of-m.result l.kept l.invariant.1.1.0 c.kept_of-m.ensures (omega arith) (omega arith)
