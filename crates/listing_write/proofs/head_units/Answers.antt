use mathlib.Core.Path.{ap}
use native.Mathlib.Omega.{arith}
use lib.ListN.{length}
use Rattle.cache.specs.places.Layout.{place_at}
use Rattle.listing_write.proofs.FormLaws.{length_text}
use Rattle.listing_write.proofs.EntryLaws.{head_sum, head_small}
use Rattle.listing_write.proofs.head_units.Goals as goal

pub path_units-prefix-requires : goal.path_units-prefix-requires
path_units-prefix-requires c = (omega arith, omega (arith, ap length c.text.ensures, length_text 0 (place_at c.args.i c.args.cache.now)))

pub overflow_add-result : goal.overflow_add-result
overflow_add-result c = omega (arith, head_small (place_at c.args.i c.args.cache.now) c.text.ensures c.path_units-prefix.ensures c.wide.ensures c.number_units-ttl.ensures c.wide-2.ensures c.number_units-taken.ensures c.unit.ensures c.number_units-hint.ensures)

pub overflow_add-result-2 : goal.overflow_add-result-2
overflow_add-result-2 c = omega (arith, head_small (place_at c.args.i c.args.cache.now) c.text.ensures c.path_units-prefix.ensures c.wide.ensures c.number_units-ttl.ensures c.wide-2.ensures c.number_units-taken.ensures c.unit.ensures c.number_units-hint.ensures)

pub overflow_add-result-3 : goal.overflow_add-result-3
overflow_add-result-3 c = omega (arith, head_small (place_at c.args.i c.args.cache.now) c.text.ensures c.path_units-prefix.ensures c.wide.ensures c.number_units-ttl.ensures c.wide-2.ensures c.number_units-taken.ensures c.unit.ensures c.number_units-hint.ensures)

pub overflow_add-result-4 : goal.overflow_add-result-4
overflow_add-result-4 c = omega (arith, head_small (place_at c.args.i c.args.cache.now) c.text.ensures c.path_units-prefix.ensures c.wide.ensures c.number_units-ttl.ensures c.wide-2.ensures c.number_units-taken.ensures c.unit.ensures c.number_units-hint.ensures)

pub returns : goal.returns
returns c =
    head_sum (place_at c.args.i c.args.cache.now) c.text.ensures c.path_units-prefix.ensures c.wide.ensures c.number_units-ttl.ensures c.wide-2.ensures
    c.number_units-taken.ensures c.unit.ensures c.number_units-hint.ensures
