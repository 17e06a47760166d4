use native.Mathlib.Omega.{arith}
use Rattle.listing_spelling.proofs.spell.SpellingLaws.{length_spelled}
use Rattle.listing_write.proofs.path_units.Goals as goal

pub overflow_add-result : goal.overflow_add-result
overflow_add-result c = omega (arith, c.spelled_units.ensures, length_spelled c.args.s.now)

pub overflow_add-result-2 : goal.overflow_add-result-2
overflow_add-result-2 c = omega (arith, c.spelled_units.ensures, length_spelled c.args.s.now)
