use mathlib.Core.Path.{◌≡◌}
use Prim.Native.Nat.{◌-◌, ◌≤◌}
use lib.ListN.{length, drop}
use Rattle.cache.specs.places.Code.{changed}
use Rattle.listing_write.specs.Form.{target_lines}
use Rattle.cache_entry.specs.write_entry.Code.{add_target, add_all}
use Rattle.listing_read.specs.fill_cache.Code.{said_at, LinesAt}
use Rattle.listing_read.proofs.fill_cache.put_targets.Given as goal

abbrev pub invariant-loop-end : goal.invariant-loop-end
invariant-loop-end l =
    (l.n ≤ length (said_at l.text l.i).targets)
    × ((length l.refs ≡ length l.initial.refs)
    × (LinesAt l.text l.i l.end (target_lines (drop l.n (said_at l.text l.i).targets))
    × (changed l.i (add_all add_target 0 (said_at l.text l.i).targets) l.initial.refs ≡ changed l.i (add_all add_target l.n (drop l.n (said_at l.text l.i).targets)) l.refs)))

abbrev pub decreases-loop-end : goal.decreases-loop-end
decreases-loop-end l = length (said_at l.text l.i).targets - l.n
