use mathlib.Core.Path.{◌≡◌}
use Prim.Native.Nat.{◌+◌}
use lib.ListN.{length}
use Rattle.laws.specs.Lists.{pasted}
use Rattle.cache.specs.places.Layout.{place_at}
use Rattle.listing_spelling.proofs.spell.PutLaws.{Left}
use Rattle.listing_write.proofs.FormLaws.{targets_left}
use Rattle.listing_write.proofs.put_targets.Given as goal

abbrev pub invariant-loop-j : goal.invariant-loop-j
invariant-loop-j l =
    (length l.out ≡ length l.initial.out) × Left (pasted l.initial.out l.at (targets_left 0 (place_at l.i l.cache))) (l.at + length (targets_left 0 (place_at l.i l.cache))) l.out l.end (targets_left l.j (place_at l.i l.cache))
