use Rattle.reply_bytes.proofs.texts.UnitLaws.{length_spanned}
use Rattle.reply_bytes.specs.texts.Code.{spanned}
use native.Mathlib.Omega.{arith}
use Rattle.cache_entry.proofs.write_entry.WritingLaws.{entry_begun}
use Rattle.cache_entry.proofs.write_entry.begin_entry.Goals as goal

pub returns : goal.returns
returns c =
    entry_begun c.args.cache.now c.args.i (omega arith) (spanned c.args.reply.now c.args.s) c.clear_place.ensures c.add_text.ensures
    (omega (arith, length_spanned c.args.reply.now c.args.s))
