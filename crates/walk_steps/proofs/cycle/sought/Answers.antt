use Rattle.walk_steps.proofs.cycle.PointLaws.{longest_few, root_place, units_stand, units_good, sought_two, sought_nine, sought_five}
use Rattle.walk_steps.proofs.cycle.MoveLaws.{standing_path}
use native.Mathlib.Omega.{arith}
use mathlib.Core.Path.{sym, ◌∙◌}
use Rattle.walk_steps.proofs.cycle.sought.Goals as goal

pub slice_bounds-path-end : goal.slice_bounds-path-end
slice_bounds-path-end c = sym (standing_path _ _ (units_stand c.args.texts.now c.args.n c.units.ensures c.requires.standing))

pub number-requires : goal.number-requires
number-requires c = λ i h. longest_few _ _ i c.requires.order (sym c.find.ensures ∙ h)

pub returns-in-0 : goal.returns-in-0
returns-in-0 c = sought_two c.args.texts.now c.args.n c.units.ensures c.args.refs.now c.args.doms.now c.in-0.is c.find.ensures c.number.ensures

pub number-requires-in-2 : goal.number-requires-in-2
number-requires-in-2 c = λ i h. root_place _ _ i c.requires.order (sym c.root_entry.ensures ∙ h)

pub returns-in-2 : goal.returns-in-2
returns-in-2 c = sought_nine c.args.texts.now c.args.n c.units.ensures c.args.refs.now c.args.doms.now c.in-2.is c.root_entry.ensures c.number-in-2.ensures

pub dc_sought-requires : goal.dc_sought-requires
dc_sought-requires c = units_good c.args.texts.now c.args.n c.units.ensures c.requires.good

pub returns-in_default : goal.returns-in_default
returns-in_default c = sought_five c.args.texts.now c.args.n c.units.ensures c.args.refs.now c.args.doms.now (λ z. omega arith) (λ z. omega arith) c.dc_sought.ensures
