-- Number k of a target.
use Rattle.std.specs.Prelude.{Ok, Err}
use Rattle.testing.specs.layouts.Code.{no_kept, targets_kept}
use Rattle.testing.proofs.layouts.WireLaws.{no_target_number}
use Rattle.testing.proofs.layouts.wire_target.Goals as goal

pub returns-in-Ok : goal.returns-in-Ok
unfolding no_kept targets_kept
returns-in-Ok c = λ h. record { found = Ok c.in-Ok.f; is = c.in-Ok.ensures.found; number = c.kept_number.ensures }

pub returns-in-Err : goal.returns-in-Err
unfolding targets_kept
returns-in-Err c = λ h. record { found = Err c.in-Err.field-0; is = c.in-Err.ensures.found; number = no_target_number c.args.k }
