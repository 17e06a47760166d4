use mathlib.Core.Path.{◌≡◌}
use Prim.Native.Nat.{◌+◌}
use lib.ListN.{length, drop}
use Rattle.laws.specs.Lists.{pasted}
use Rattle.listing_spelling.specs.spell.Spelling.{spelled}
use Rattle.listing_spelling.proofs.spell.PutLaws.{Left}
use Rattle.listing_spelling.proofs.spell.put_spelled.Given as goal

abbrev pub invariant-loop-u : goal.invariant-loop-u
invariant-loop-u l = (length l.out ≡ length l.initial.out) × Left (pasted l.initial.out l.at (spelled l.s)) (l.at + length (spelled l.s)) l.out l.end (spelled (drop l.u-index l.s))
