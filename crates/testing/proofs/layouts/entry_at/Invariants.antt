-- Where entry i starts: the loop passes one entry each turn.
use mathlib.Core.Path.{◌≡◌}
use mathlib.Core.Bool.{true}
use Prim.Native.Nat.{◌-◌}
use lib.ListN.{get_or}
use Rattle.laws.specs.Lists.{every}
use Rattle.reply_read.specs.referral.Replies.{referral_count, starts, entries}
use Rattle.reply_read.specs.name_lists.NameLists.{good_domain_name}
use Rattle.testing.proofs.layouts.entry_at.Given as goal

abbrev pub invariant-loop-j : goal.invariant-loop-j
invariant-loop-j l = (every (good_domain_name l.r) (starts (referral_count l.r - l._j) l.e l.r) ≡ true) × (get_or (entries l.r) l.i 0 ≡ get_or (starts (referral_count l.r - l._j) l.e l.r) (l.i - l._j) 0)
