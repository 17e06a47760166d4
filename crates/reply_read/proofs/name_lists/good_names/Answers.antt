use mathlib.Core.Path.{sym, ◌∙◌}
use Prim.Native.Nat.{◌+◌}
use native.Mathlib.Omega.{arith}
use Rattle.reply_bytes.specs.texts.Bytes.{text_from}
use Rattle.reply_read.specs.name_lists.NameLists.{bytes_past}
use Rattle.reply_read.proofs.name_lists.ListLaws.{dc_bad, dc_good, dc_next, names_hit, names_miss, names_end}
use Rattle.reply_read.proofs.name_lists.good_names.Goals as goal

pub returns-in_default : goal.returns-in_default
returns-in_default c =
    let a = c.args in
    let l = c.loop-i in
    sym (l.invariant ∙ names_miss a.r.now a.n l._i l.at (omega arith) (dc_bad a.r.now c.in_default.is c.dc_at.ensures.name))

pub loop-i-preserved : goal.loop-i-preserved
loop-i-preserved c =
    let a = c.args in
    let l = c.loop-i in
    let e = c.in-Some.is in
    let d = c.dc_at.ensures in
    l.invariant ∙ names_hit a.r.now a.n l._i l.at _ (dc_good a.r.now _ e d.name) (dc_next a.r.now _ e (l.at + bytes_past (text_from a.r.now l.at)) d.placed) (omega arith)

pub returns : goal.returns
returns c = sym (c.loop-i.invariant ∙ names_end c.args.r.now c.args.n c.loop-i._i c.loop-i.at (omega arith))
