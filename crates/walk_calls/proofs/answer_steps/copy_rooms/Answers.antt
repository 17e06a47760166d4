use native.Mathlib.Omega.{arith}
use mathlib.Core.Path.{sym}
use lib.Seq.{length-take-le}
use Rattle.walk_calls.proofs.answer_steps.DueLaws.{rooms_copied}
use Rattle.walk_calls.proofs.answer_steps.copy_rooms.Goals as goal

pub slice_bounds-copy_units-end : goal.slice_bounds-copy_units-end
slice_bounds-copy_units-end c = sym (length-take-le 512 c.args.texts.now (omega arith))

pub copy_units-requires : goal.copy_units-requires
copy_units-requires c = omega (arith, length-take-le 512 c.args.texts.now (omega arith))

pub returns : goal.returns
returns c = rooms_copied c.args.texts.now c.args.rooms.now c.requires.0 c.requires.1 c.copy_units.ensures
