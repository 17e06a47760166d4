use mathlib.Core.Path.{◌≡◌}
use Prim.Native.Nat.{◌+◌}
use lib.ListN.{length}
use Rattle.laws.specs.Lists.{pasted}
use Rattle.listing_spelling.proofs.spell.PutLaws.{Left}
use Rattle.listing_write.specs.Listed.{listed_text}
use Rattle.listing_write.proofs.FormLaws.{places_left}
use Rattle.listing_write.proofs.put_listing.Given as goal

abbrev pub invariant-loop-i : goal.invariant-loop-i
invariant-loop-i l = (length l.out ≡ length l.initial.out) × Left (pasted l.initial.out 0 (listed_text l.cache)) (0 + length (listed_text l.cache)) l.out l.end (places_left l.i l.cache)
