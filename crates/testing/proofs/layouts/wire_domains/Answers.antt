-- How a domain reply is read.
use mathlib.Core.Path.{ap, sym, ◌∙◌}
use Rattle.testing.specs.layouts.Code.{answer_number}
use Rattle.testing.proofs.layouts.wire_domains.Goals as goal

pub returns-in-Ok : goal.returns-in-Ok
unfolding answer_number
returns-in-Ok c = ap answer_number (sym c.in-Ok.is ∙ c.read_domains.ensures)

pub returns-in-Err : goal.returns-in-Err
unfolding answer_number
returns-in-Err c = c.unread_number.ensures ∙ ap answer_number (sym c.in-Err.is ∙ c.read_domains.ensures)
