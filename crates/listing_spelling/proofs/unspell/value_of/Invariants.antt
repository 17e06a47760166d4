use mathlib.Core.Path.{◌≡◌}
use Prim.Native.Nat.{◌<◌}
use lib.ListN.{drop}
use Rattle.listing_spelling.specs.unspell.Reading.{decimal_of, value_from}
use Rattle.listing_spelling.proofs.unspell.value_of.Given as goal

abbrev pub invariant-loop-u : goal.invariant-loop-u
invariant-loop-u l = (l.n < 4294967296) × (decimal_of l.s ≡ value_from l.n (drop l.u-index l.s))
