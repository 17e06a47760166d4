-- Number k of a reply to a root, link or SYSVOL request.
use Rattle.std.specs.Prelude.{Ok, Err}
use Rattle.testing.specs.layouts.Code.{found_numbers}
use Rattle.testing.proofs.layouts.wire_referral.Goals as goal

pub returns-in-Ok : goal.returns-in-Ok
unfolding found_numbers
returns-in-Ok c = record { found = Ok c.in-Ok.f; is = c.in-Ok.ensures.found; number = c.said_number.ensures }

pub returns-in-Err : goal.returns-in-Err
unfolding found_numbers
returns-in-Err c = record { found = Err c.in-Err.e; is = c.in-Err.ensures.found; number = c.unread_at.ensures }
