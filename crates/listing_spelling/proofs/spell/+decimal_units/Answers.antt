use mathlib.Core.Path.{sym}
use Prim.Native.Nat.{◌/◌}
use native.Mathlib.Omega.{arith}
use Rattle.listing_spelling.proofs.spell.DecimalLaws.{length_low, length_high, length_decimal}
use Rattle.listing_spelling.proofs.spell.+decimal_units.Goals as goal

pub returns-then-n-lt10 : goal.returns-then-n-lt10
returns-then-n-lt10 t c = sym (length_low _ c.if-n-lt10.true)

pub overflow_add-result : goal.overflow_add-result
overflow_add-result t c = omega (arith, length_decimal (c.args.n / 10), c.decimal_units.ensures)

pub returns-else-n-lt10 : goal.returns-else-n-lt10
returns-else-n-lt10 t c = omega (arith, length_high c.args.n (omega arith) (omega arith), c.decimal_units.ensures)
