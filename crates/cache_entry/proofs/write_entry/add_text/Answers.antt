use Rattle.reply_bytes.proofs.texts.UnitLaws.{length_spanned}
use Rattle.reply_bytes.specs.texts.Code.{spanned}
use mathlib.Core.Path.{sym}
use native.Mathlib.Omega.{arith}
use Rattle.cache_entry.proofs.write_entry.WritingLaws.{text_added}
use Rattle.cache_entry.proofs.write_entry.add_text.Goals as goal

pub returns : goal.returns
returns c =
    let l = length_spanned c.args.reply.now c.args.s in
    text_added c.args.cache.now c.args.i (omega arith) c.args.n c.args.s.units (spanned c.args.reply.now c.args.s) (sym l)
    c.put_unit.ensures c.put_span.ensures c.put_unit-2.ensures (omega arith) (omega arith)
