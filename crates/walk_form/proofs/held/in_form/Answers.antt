-- The parts that are the path and the path tried: the rooms, which were tested before, hold them.
use Rattle.std.proofs.Common.{◌+◌, ◌≤◌, length, arith, sym}
use lib.Seq.{length-take-le}
use Rattle.walk_form.proofs.held.TestLaws.{rooms_hold}
use Rattle.walk_form.proofs.held.in_form.Goals as goal

pub slice_bounds-next_in_form-end : goal.slice_bounds-next_in_form-end
slice_bounds-next_in_form-end c =
    let h : c.args.walk.path ≤ length c.args.texts.now =
    grind (arith, rooms_hold c.args.walk.path c.args.walk.tried c.args.walk.boot c.args.texts.now) in
    sym (length-take-le _ _ h)

pub slice_bounds-next_in_form-end-then-walk : goal.slice_bounds-next_in_form-end-then-walk
slice_bounds-next_in_form-end-then-walk c =
    let h : c.args.walk.tried + 256 ≤ length c.args.texts.now =
    grind (arith, rooms_hold c.args.walk.path c.args.walk.tried c.args.walk.boot c.args.texts.now) in
    omega arith
