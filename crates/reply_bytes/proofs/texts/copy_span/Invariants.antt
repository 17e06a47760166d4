use mathlib.Core.Path.{◌≡◌}
use lib.ListN.{take}
use Rattle.laws.specs.Lists.{pasted}
use Rattle.reply_bytes.specs.texts.Code.{spanned}
use Rattle.reply_bytes.proofs.texts.copy_span.Given as goal

abbrev pub invariant-loop-i : goal.invariant-loop-i
invariant-loop-i l = l.dst ≡ pasted l.initial.dst l.at (take l.i (spanned l.r l.s))
