-- Units as bytes: the loop stores one unit each turn.
use mathlib.Core.Path.{◌≡◌}
use lib.ListN.{length, take}
use Rattle.laws.specs.Lists.{pasted}
use Rattle.reply_read.specs.referral.Request.{bytes_of}
use Rattle.reply_read.proofs.request.put_units.Given as goal

abbrev pub invariant-loop-i : goal.invariant-loop-i
invariant-loop-i l = (length l.out ≡ length l.initial.out) × (l.out ≡ pasted l.initial.out l.at (bytes_of (take l.i l.name)))
