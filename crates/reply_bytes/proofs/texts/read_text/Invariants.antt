use mathlib.Core.Path.{◌≡◌}
use Prim.Native.Nat.{◌+◌, ◌*◌}
use Rattle.reply_bytes.specs.texts.Bytes.{text_from}
use Rattle.reply_bytes.specs.texts.Code.{text_end}
use Rattle.reply_bytes.proofs.texts.read_text.Given as goal

abbrev pub invariant-loop-n : goal.invariant-loop-n
invariant-loop-n l = text_end l.at 0 (text_from l.r l.at) ≡ text_end l.at l.n (text_from l.r (l.at + 2 * l.n))
