-- All entries, one after another.
use mathlib.Core.Path.{◌≡◌}
use Prim.Native.Nat.{◌-◌, ◌≤◌}
use lib.ListN.{length}
use Rattle.reply_read.specs.referral.Replies.{good_entry, starts, entries}
use Rattle.laws.specs.Lists.{every}
use Rattle.reply_read.proofs.referral.good_entries.Given as goal

abbrev pub invariant-loop-i : goal.invariant-loop-i
invariant-loop-i l = (l.e ≤ length l.r) × (every (good_entry l.r) (entries l.r) ≡ every (good_entry l.r) (starts (l.n - l._i) l.e l.r))
