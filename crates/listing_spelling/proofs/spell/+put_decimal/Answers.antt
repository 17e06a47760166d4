use Prim.Native.Nat.{◌/◌, ◌+◌, ◌≤◌}
use lib.ListN.{length}
use native.Mathlib.Omega.{arith}
use Rattle.listing_spelling.specs.spell.Spelling.{decimal}
use Rattle.listing_spelling.proofs.spell.PutLaws.{length_put}
use Rattle.listing_spelling.proofs.spell.DecimalLaws.{length_low, length_high, put_low, put_high}
use Rattle.listing_spelling.proofs.spell.+put_decimal.Goals as goal

pub put_unit-requires : goal.put_unit-requires
put_unit-requires t c = omega (arith, length_low c.args.n (omega arith))

pub returns-then-n-lt10 : goal.returns-then-n-lt10
returns-then-n-lt10 t c = put_low _ (omega arith) c.put_unit.ensures

pub put_decimal-end-requires : goal.put_decimal-end-requires
put_decimal-end-requires t c = (omega arith, omega (arith, length_high c.args.n (omega arith) (omega arith)))

pub put_unit-requires-else-n-lt10 : goal.put_unit-requires-else-n-lt10
put_unit-requires-else-n-lt10 t c =
    let h = length_high c.args.n (omega arith) (omega arith) in
    let f : c.args.at + length (decimal (c.args.n / 10)) ≤ length c.args.out.now = omega arith in
    omega (arith, length_put c.put_decimal-end.ensures f, c.put_decimal-end.ensures.end)

pub overflow_add-result-else-n-lt10 : goal.overflow_add-result-else-n-lt10
overflow_add-result-else-n-lt10 t c =
    let h = length_high c.args.n (omega arith) (omega arith) in
    omega (arith, c.put_decimal-end.ensures.end)

pub returns-else-n-lt10 : goal.returns-else-n-lt10
returns-else-n-lt10 t c = put_high c.args.n c.args.out.now c.args.at (omega arith) (omega arith) (omega arith) c.put_decimal-end.ensures c.put_unit-else-n-lt10.ensures
