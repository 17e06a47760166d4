-- Compares set by set. The invariant: the entry's sets from place a on and the reply's from place b on decide.
use Rattle.std.proofs.Common.{◌≡◌, ◌-◌, ◌≤◌, length, map}
use Rattle.reply_read.specs.referral.Code.{target_shown}
use Rattle.cache_entry.specs.equivalent_targets.Equivalence.{sets, same_sets}
use Rattle.cache_entry.specs.equivalent_targets.Code.{held_targets}
use Rattle.cache_entry.proofs.equivalent_targets.SetLaws.{sets_from}
use Rattle.cache_entry.proofs.equivalent_targets.same_sets.Given as goal

abbrev pub invariant-loop-a : goal.invariant-loop-a
invariant-loop-a l =
    (l.a ≤ l.n)
    × ((l.b ≤ length l.given)
    × (same_sets (sets (held_targets l.i l.cache)) (sets (map (target_shown l.reply) l.given)) ≡ sets_from l.i l.cache l.reply l.given l.a l.b))

abbrev pub decreases-loop-a : goal.decreases-loop-a
decreases-loop-a l = l.n - l.a
