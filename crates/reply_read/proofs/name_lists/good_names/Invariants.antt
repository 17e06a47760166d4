-- The DC names are tested one after another.
use mathlib.Core.Path.{◌≡◌}
use Prim.Native.Nat.{◌-◌}
use Rattle.reply_read.specs.name_lists.NameLists.{dc_of, texts_at}
use Rattle.laws.specs.Lists.{every}
use mathlib.Core.List.{map}
use Rattle.reply_read.specs.referral.Replies.{is_read}
use Rattle.reply_read.proofs.name_lists.good_names.Given as goal

abbrev pub invariant-loop-i : goal.invariant-loop-i
invariant-loop-i l = every is_read (map dc_of (texts_at l.n l.from l.r)) ≡ every is_read (map dc_of (texts_at (l.n - l._i) l.at l.r))
