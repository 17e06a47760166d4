use native.Mathlib.Omega.{arith}
use Rattle.listing_spelling.proofs.spell.DecimalLaws.{length_decimal}
use Rattle.listing_write.proofs.number_units.Goals as goal

pub overflow_add-result : goal.overflow_add-result
overflow_add-result c = omega (arith, c.decimal_units.ensures, length_decimal c.args.n)

pub overflow_add-result-2 : goal.overflow_add-result-2
overflow_add-result-2 c = omega (arith, c.decimal_units.ensures, length_decimal c.args.n)
