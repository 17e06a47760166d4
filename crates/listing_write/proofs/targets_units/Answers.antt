use Rattle.listing_spelling.specs.spell.Spelling.{spelled}
use mathlib.Core.Path.{ap}
use Prim.Native.Nat.{◌+◌}
use native.Mathlib.Omega.{arith}
use lib.ListN.{length}
use Rattle.cache.specs.places.Layout.{place_at, text_at}
use Rattle.listing_spelling.proofs.spell.SpellingLaws.{length_spelled}
use Rattle.listing_write.proofs.FormLaws.{length_text, targets_start, targets_units, targets_end}
use Rattle.listing_write.proofs.targets_units.Goals as goal

pub path_units-n-requires : goal.path_units-n-requires
path_units-n-requires c = (omega arith, omega (arith, ap length c.text.ensures, length_text (1 + c.loop-j.j) (place_at c.args.i c.args.cache.now)))

pub overflow_add-n : goal.overflow_add-n
overflow_add-n c = omega (arith, c.list_count-j-end.ensures, c.path_units-n.ensures, length_spelled c.text.result.now, ap length c.text.ensures, length_text (1 + c.loop-j.j) (place_at c.args.i c.args.cache.now))

pub loop-j-preserved : goal.loop-j-preserved
loop-j-preserved c =
    let piece = place_at c.args.i c.args.cache.now in
    let j = c.loop-j.j in
    let b = length_text (1 + j) piece in
    let s = length_spelled (text_at (1 + j) piece) in
    let e = ap (λ x. length (spelled x)) c.text.ensures in
    (omega (arith, c.path_units-n.ensures), omega (arith, c.path_units-n.ensures, c.loop-j.invariant.1, targets_units j piece (omega (arith, c.list_count-j-end.ensures))))

pub returns-clause-units : goal.returns-clause-units
returns-clause-units c =
    let piece = place_at c.args.i c.args.cache.now in
    omega (arith, c.loop-j.invariant.1, ap length (targets_start piece), ap length (targets_end c.loop-j.j piece (omega (arith, c.list_count-j-end.ensures))))
