use mathlib.Core.Path.{◌≡◌}
use Prim.Native.Nat.{◌+◌, ◌*◌, ◌≤◌}
use lib.ListN.{length}
use Rattle.cache.specs.places.Layout.{place_at}
use Rattle.listing_write.proofs.FormLaws.{targets_left}
use Rattle.listing_write.proofs.targets_units.Given as goal

abbrev pub invariant-loop-j : goal.invariant-loop-j
invariant-loop-j l = (l.n ≤ 1288 * l.j) × (length (targets_left 0 (place_at l.i l.cache)) ≡ l.n + length (targets_left l.j (place_at l.i l.cache)))
