use native.Mathlib.Omega.{arith}
use Rattle.listing_spelling.specs.unspell.Reading.{unspelled}
use Rattle.listing_read.proofs.fill_cache.PutLaws.{value_put}
use Rattle.listing_read.proofs.fill_cache.put_value.Goals as goal

pub unspell-stop-requires : goal.unspell-stop-requires
unspell-stop-requires c = (c.requires.1.1.0, omega arith)

pub overflow_sub-start : goal.overflow_sub-start
overflow_sub-start c = omega (arith, c.unspell-stop.ensures, c.requires)

pub clear_units-requires : goal.clear_units-requires
clear_units-requires c = omega (arith, c.unspell-stop.ensures, c.requires)

pub overflow_cast-stop : goal.overflow_cast-stop
overflow_cast-stop c = omega (arith, c.unspell-stop.ensures, c.requires)

pub returns : goal.returns
returns c =
    let a = c.args in
    value_put a.refs.now a.i (omega arith) a.j (unspelled a.value.now) (omega arith) (omega (arith, c.requires))
    c.unspell-stop.ensures c.clear_units.ensures c.put_unit.ensures c.put_unit-2.ensures
