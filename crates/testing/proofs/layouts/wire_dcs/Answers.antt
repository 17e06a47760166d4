-- Number k of a DC reply.
use Rattle.std.specs.Prelude.{Ok, Err}
use Rattle.testing.specs.layouts.Code.{dcs_numbers}
use Rattle.testing.proofs.layouts.wire_dcs.Goals as goal

pub returns-in-Ok : goal.returns-in-Ok
unfolding dcs_numbers
returns-in-Ok c = record { found = Ok c.in-Ok.f; is = c.in-Ok.ensures.found; number = c.dcs_number.ensures }

pub returns-in-Err : goal.returns-in-Err
unfolding dcs_numbers
returns-in-Err c = record { found = Err c.in-Err.e; is = c.in-Err.ensures.found; number = c.unread_at.ensures }
