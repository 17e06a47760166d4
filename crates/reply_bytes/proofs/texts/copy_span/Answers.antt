use native.Mathlib.Omega.{arith}
use Rattle.laws.proofs.Pasting.{copied_all}
use Rattle.reply_bytes.proofs.texts.UnitLaws.{length_spanned}
use Rattle.reply_bytes.specs.texts.Code.{spanned}
use Rattle.reply_bytes.proofs.texts.copy_span.Goals as goal

pub returns : goal.returns
returns c =
    copied_all c.args.dst.now c.args.at (spanned c.args.r.now c.args.s) c.loop-i.i c.loop-i.invariant (omega (arith, length_spanned c.args.r.now c.args.s))
