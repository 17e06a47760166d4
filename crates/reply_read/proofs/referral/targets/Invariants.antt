-- The first 8 targets: the loop stores one of them each turn.
use mathlib.Core.Path.{◌≡◌}
use Prim.Native.Nat.{◌-◌}
use lib.ListN.{length, take}
use Rattle.reply_read.specs.referral.Replies.{good_entry, starts, entries}
use Rattle.laws.specs.Lists.{every}
use mathlib.Core.Bool.{true}
use mathlib.Core.List.{map, ◌++◌}
use Rattle.reply_read.specs.referral.Code.{kept_from, target_shown, kept_inside}
use Rattle.reply_read.proofs.referral.TargetLaws.{to_come}
use Rattle.reply_read.proofs.referral.targets.Given as goal

abbrev pub invariant-loop-i : goal.invariant-loop-i
invariant-loop-i l = (length l.kept ≡ 8) × ((every (good_entry l.r) (starts (l.n - l.i) l.e l.r) ≡ true) × ((kept_from 0 l.r (take 8 (entries l.r)) ≡ map (target_shown l.r) (take l.i l.kept) ++ to_come l.n l.i l.r l.e) × (every (kept_inside l.r) l.kept ≡ true)))
