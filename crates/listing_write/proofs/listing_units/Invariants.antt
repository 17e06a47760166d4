use mathlib.Core.Path.{◌≡◌}
use Prim.Native.Nat.{◌+◌, ◌*◌, ◌≤◌}
use lib.ListN.{length}
use Rattle.listing_write.specs.Listed.{listed_text}
use Rattle.listing_write.proofs.FormLaws.{places_left}
use Rattle.listing_write.proofs.listing_units.Given as goal

abbrev pub invariant-loop-i : goal.invariant-loop-i
invariant-loop-i l = (l.n ≤ 11704 * l.i) × (length (listed_text l.cache) ≡ l.n + length (places_left l.i l.cache))
