-- Number k of a DC.
use Rattle.std.specs.Prelude.{Ok, Err}
use Rattle.testing.specs.layouts.Code.{dcs_kept}
use Rattle.testing.proofs.layouts.WireLaws.{no_span_number}
use Rattle.testing.proofs.layouts.wire_dc.Goals as goal

pub returns-in-Ok : goal.returns-in-Ok
unfolding dcs_kept
returns-in-Ok c = λ h. record { found = Ok c.in-Ok.f; is = c.in-Ok.ensures.found; number = c.span_number.ensures }

pub returns-in-Err : goal.returns-in-Err
unfolding dcs_kept
returns-in-Err c = λ h. record { found = Err c.in-Err.field-0; is = c.in-Err.ensures.found; number = no_span_number c.args.k }
