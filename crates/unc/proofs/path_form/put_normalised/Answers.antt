use native.Mathlib.Omega.{arith}
use Rattle.unc.proofs.names.FormLaws.{body_length}
use Rattle.unc.proofs.path_form.put_normalised.Goals as goal

pub put_unit-requires : goal.put_unit-requires
put_unit-requires c = omega (arith, body_length c.args.s.now _ _ 0 c.lead-from.ensures c.trail-to.ensures)

pub overflow_sub-n : goal.overflow_sub-n
overflow_sub-n c = omega (arith, body_length c.args.s.now _ _ 0 c.lead-from.ensures c.trail-to.ensures)
