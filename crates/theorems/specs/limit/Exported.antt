-- The calls that hosts in other languages make, along a list: `dfsc_start`, then `dfsc_answer_referral` and `dfsc_answer_io`, each given the units and caches that the last one
-- left.
use Rattle.std.specs.Prelude.{ℕ, List, ◌++◌}
use Rattle.walk_form.specs.packed.Packing.{packed_walk}
use Rattle.walk_calls.specs.calls.Calls.{Answered, refusal_number}
use Rattle.dfsc_memory.specs.Units.{AnswerLeft, answer_left, start_units, referral_answer_units, io_answer_units}
use Rattle.theorems.specs.limit.Calls.{Held, Start, Answer, referral, io, Calls, start, then}

-- the right-hand sides of the contracts of `dfsc_answer_referral` and `dfsc_answer_io`
unfoldable pub answered_units : AnswerLeft → Answer → AnswerLeft
answered_units o (referral status reply clock out) = referral_answer_units o.refs o.doms o.left.walk status reply clock out
answered_units o (io status clock out) = io_answer_units o.refs o.doms o.left.walk status clock out

-- what the last call of a list gives back and leaves; the start is lent these units, and its right-hand side is that of `dfsc_start`
unfoldable pub units_run : ℕ → Held → Start → List ℕ → Calls → AnswerLeft
units_run l h s units start = record {
  left = start_units h.refs h.doms units s.path s.boot l s.size s.clock s.out;
  refs = h.refs;
  doms = h.doms;
}
units_run l h s units (then cs a) = answered_units (units_run l h s units cs) a

-- what a call leaves, the walk as its packed form
unfoldable pub packed_answer : Answered → AnswerLeft
packed_answer o = answer_left (refusal_number o.left.verdict) (packed_walk o.left.walk ++ o.left.texts) o.left.out o.refs o.doms
