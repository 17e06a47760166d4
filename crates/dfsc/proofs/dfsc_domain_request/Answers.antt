use Rattle.dfsc_memory.proofs.UnitLaws.{asked_bytes, asked_short}
use Rattle.dfsc.proofs.dfsc_domain_request.Goals as goal

pub returns-in_default : goal.returns-in_default
returns-in_default c = record { number = asked_short c.domain_request.ensures.number c.in_default.is; buffer = c.domain_request.ensures.buffer }

pub returns : goal.returns
returns c = record { number = asked_bytes c.domain_request.ensures.number _ c.in-Some.is; buffer = c.domain_request.ensures.buffer }
