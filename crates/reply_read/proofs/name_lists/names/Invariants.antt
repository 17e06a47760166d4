-- The first 8 DC names: the loop stores one of them each turn.
use mathlib.Core.Path.{◌≡◌}
use Prim.Native.Nat.{◌-◌}
use lib.ListN.{length, take}
use Rattle.reply_bytes.specs.texts.Code.{spanned}
use Rattle.reply_read.specs.name_lists.NameLists.{dc_of, texts_at}
use Rattle.laws.specs.Lists.{every}
use mathlib.Core.Bool.{true}
use mathlib.Core.List.{map, ◌++◌}
use Rattle.reply_read.specs.referral.Replies.{is_read}
use Rattle.reply_read.specs.referral.Code.{is_inside, units_read}
use Rattle.reply_read.proofs.name_lists.names.Given as goal

abbrev pub invariant-loop-i : goal.invariant-loop-i
invariant-loop-i l = (length l.kept ≡ 8) × ((every is_read (map dc_of (texts_at (l.n - l.i) l.at l.r)) ≡ true) × ((map units_read (take 8 (map dc_of (texts_at l.n l.from l.r))) ≡ map (spanned l.r) (take l.i l.kept) ++ map units_read (take (8 - l.i) (map dc_of (texts_at (l.n - l.i) l.at l.r)))) × (every (is_inside l.r) l.kept ≡ true)))
