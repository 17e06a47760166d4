use mathlib.Core.Path.{refl}
use native.Mathlib.Omega.{arith}
use Rattle.listing_read.proofs.fill_cache.EntryLaws.{flags_inside, ttl_there, taken_there, hint_there, hint_small, hint_said, settings_read}
use Rattle.listing_read.proofs.fill_cache.put_settings.Goals as goal

pub overflow_add-root : goal.overflow_add-root
overflow_add-root c = omega (arith, flags_inside c.args.text.now c.args.i c.args.at c.requires.1)

pub offset_bounds-text-at : goal.offset_bounds-text-at
offset_bounds-text-at c = omega (arith, flags_inside c.args.text.now c.args.i c.args.at c.requires.1)

pub bounds-text-at : goal.bounds-text-at
bounds-text-at c = omega (arith, flags_inside c.args.text.now c.args.i c.args.at c.requires.1)

pub overflow_add-interlink : goal.overflow_add-interlink
overflow_add-interlink c = omega (arith, flags_inside c.args.text.now c.args.i c.args.at c.requires.1)

pub offset_bounds-text-at-2 : goal.offset_bounds-text-at-2
offset_bounds-text-at-2 c = omega (arith, flags_inside c.args.text.now c.args.i c.args.at c.requires.1)

pub bounds-text-at-2 : goal.bounds-text-at-2
bounds-text-at-2 c = omega (arith, flags_inside c.args.text.now c.args.i c.args.at c.requires.1)

pub overflow_add-failback : goal.overflow_add-failback
overflow_add-failback c = omega (arith, flags_inside c.args.text.now c.args.i c.args.at c.requires.1)

pub offset_bounds-text-at-3 : goal.offset_bounds-text-at-3
offset_bounds-text-at-3 c = omega (arith, flags_inside c.args.text.now c.args.i c.args.at c.requires.1)

pub bounds-text-at-3 : goal.bounds-text-at-3
bounds-text-at-3 c = omega (arith, flags_inside c.args.text.now c.args.i c.args.at c.requires.1)

pub overflow_add-at : goal.overflow_add-at
overflow_add-at c = omega (arith, flags_inside c.args.text.now c.args.i c.args.at c.requires.1)

pub number_at-ttl-requires : goal.number_at-ttl-requires
number_at-ttl-requires c = ttl_there c.args.text.now c.args.i c.args.at c.requires.1

pub number_at-taken-requires : goal.number_at-taken-requires
number_at-taken-requires c = taken_there c.args.text.now c.args.i c.args.at c.requires.1 c.number_at-ttl.ensures

pub number_at-hint-requires : goal.number_at-hint-requires
number_at-hint-requires c = hint_there c.args.text.now c.args.i c.args.at c.requires.1 c.number_at-ttl.ensures c.number_at-taken.ensures

pub overflow_cast-hint : goal.overflow_cast-hint
overflow_cast-hint c =
    omega (arith, hint_said c.args.text.now c.args.i c.args.at c.requires.1 c.number_at-ttl.ensures c.number_at-taken.ensures c.number_at-hint.ensures, hint_small c.args.text.now c.args.i c.args.at c.requires.1 c.number_at-ttl.ensures c.number_at-taken.ensures)

pub returns : goal.returns
returns c =
    settings_read c.args.text.now c.args.i c.args.at c.requires.1 c.number_at-ttl.ensures c.number_at-taken.ensures c.number_at-hint.ensures
    c.args.refs.now c.requires.0 refl refl refl c.put_settings.ensures c.put_unit.ensures
