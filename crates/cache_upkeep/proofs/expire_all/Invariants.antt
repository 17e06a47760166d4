-- Expires place after place. The invariant: the first i places are expired, and the cache is in order.
use Prim.Native.Nat.{◌≤◌}
use mathlib.Core.Path.{◌≡◌}
use lib.ListN.{length}
use Rattle.cache.specs.places.Layout.{place_count}
use Rattle.cache_upkeep.proofs.CallLaws.{Sofar}
use Rattle.cache_upkeep.proofs.expire_all.Given as goal

abbrev pub invariant-loop-i : goal.invariant-loop-i
invariant-loop-i l = (l.i ≤ place_count l.initial.refs) × ((length l.refs ≡ length l.initial.refs) × Sofar l.initial.refs l.i l.refs)
