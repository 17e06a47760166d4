use Rattle.walk_steps.proofs.cycle.PointLaws.{units_stand, units_sysvol}
use Rattle.walk_steps.proofs.cycle.MoveLaws.{standing_path}
use mathlib.Core.Path.{sym}
use Rattle.walk_steps.proofs.cycle.for_sysvol.Goals as goal

pub slice_bounds-is_sysvol-end : goal.slice_bounds-is_sysvol-end
slice_bounds-is_sysvol-end c = sym (standing_path _ _ (units_stand c.args.texts.now c.args.n c.units-len.ensures c.requires))

pub returns : goal.returns
returns c = units_sysvol c.args.texts.now c.args.n c.units-len.ensures c.is_sysvol.ensures
