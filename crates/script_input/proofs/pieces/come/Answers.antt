use Rattle.script_input.proofs.pieces.PieceLaws.{line_within}
use native.Mathlib.Omega.{arith}
use Rattle.script_input.proofs.pieces.come.Goals as goal

pub slice_bounds-hold-end : goal.slice_bounds-hold-end
slice_bounds-hold-end c = (line_within c.args.units.now c.args.last.at (omega arith) c.line_end-end.ensures).1
