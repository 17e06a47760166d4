-- All entries of a domain reply, one after another.
use mathlib.Core.Path.{◌≡◌}
use Prim.Native.Nat.{◌-◌, ◌≤◌}
use lib.ListN.{length}
use Rattle.reply_read.specs.referral.Replies.{starts, entries}
use Rattle.laws.specs.Lists.{every}
use Rattle.reply_read.specs.name_lists.NameLists.{good_domain_name}
use Rattle.reply_read.proofs.name_lists.good_domains.Given as goal

abbrev pub invariant-loop-i : goal.invariant-loop-i
invariant-loop-i l = (l.e ≤ length l.r) × (every (good_domain_name l.r) (entries l.r) ≡ every (good_domain_name l.r) (starts (l.n - l._i) l.e l.r))
