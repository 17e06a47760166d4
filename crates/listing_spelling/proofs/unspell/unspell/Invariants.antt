use mathlib.Core.Bool.{true}
use mathlib.Core.Path.{◌≡◌}
use Prim.Native.Nat.{◌+◌}
use lib.ListN.{length}
use Rattle.laws.specs.Lists.{pasted}
use Rattle.listing_spelling.proofs.spell.PutLaws.{Left}
use Rattle.listing_spelling.specs.unspell.Reading.{is_spelled, unspelled}
use Rattle.listing_spelling.proofs.unspell.unspell.Given as goal

abbrev pub invariant-loop-u : goal.invariant-loop-u
invariant-loop-u l =
    (length l.out ≡ length l.initial.out) × ((is_spelled l.rest ≡ true) × Left (pasted l.initial.out l.at (unspelled l.s)) (l.at + length (unspelled l.s)) l.out l.end (unspelled l.rest))

abbrev pub decreases-loop-u : goal.decreases-loop-u
decreases-loop-u l = length l.rest
