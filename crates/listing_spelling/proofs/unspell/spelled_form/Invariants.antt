use mathlib.Core.Path.{◌≡◌}
use Prim.Native.Nat.{◌+◌, ◌≤◌}
use lib.ListN.{length}
use Rattle.listing_spelling.specs.unspell.Code.{spelled_form}
use Rattle.listing_spelling.proofs.unspell.UnspelledLaws.{form_from}
use Rattle.listing_spelling.proofs.unspell.spelled_form.Given as goal

abbrev pub invariant-loop-u : goal.invariant-loop-u
invariant-loop-u l = (l.n + length l.rest ≤ length l.s) × (spelled_form l.s ≡ form_from l.n l.rest)

abbrev pub decreases-loop-u : goal.decreases-loop-u
decreases-loop-u l = length l.rest
