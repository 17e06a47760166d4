use Rattle.script_output.proofs.outcome.TellingLaws.{refusal_fits, refusal_printed, end_fits, put_ends, outcome_printed}
use Rattle.listing_write.proofs.EntryLaws.{put_same}
use native.Mathlib.Omega.{arith}
use Rattle.script_output.proofs.outcome.put_outcome.Goals as goal

pub put_refused-requires : goal.put_refused-requires
put_refused-requires c = refusal_fits _ c.requires

pub returns-then-number-ne0 : goal.returns-then-number-ne0
returns-then-number-ne0 c = put_same (refusal_printed _ _ _ _ _ c.if-number-ne0.true) c.put_refused.ensures

pub put_ended-requires : goal.put_ended-requires
put_ended-requires c = omega (arith, end_fits _ _ _ _ c.requires (put_ends c.unwrap_or-n.ensures c.put_waiting.ensures))

pub returns : goal.returns
returns c = outcome_printed _ _ _ _ _ c.requires (put_ends c.unwrap_or-n.ensures c.put_waiting.ensures) (omega arith) (put_ends c.unwrap_or.ensures c.put_ended.ensures)
