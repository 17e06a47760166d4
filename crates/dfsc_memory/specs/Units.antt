-- The calls of hosts in other languages. A walk is lent as 800 units: its packed form in the first 32 (`walk_form::packed`), then its three texts. Units
-- of another length or not of that form are a walk out of form.
use Rattle.std.specs.Prelude.{ℕ, ◌*◌, false, List, ◌++◌, take, drop, eqb, Result, Ok, Err, Option, Some, None}
use Rattle.laws.specs.Choice.{choose}
use Rattle.walk_steps.specs.declared.steps.End.TheVariants.{Gone}
use Rattle.walk_steps.specs.declared.steps.Next.TheVariants.{Ends}
use Rattle.walk_form.specs.declared.held.Walk.{Walk}
use Rattle.walk_form.specs.packed.Packing.{packed_walk, unpacked}
use Rattle.walk_calls.specs.call_end.Closing.{Left}
use Rattle.walk_calls.specs.calls.Calls.{refusal_number, Answered, start_call, referral_call, io_call}
use Rattle.walk_shown.specs.question.Shown.{Given, shown_number, party_call, name_call, path_call, question_call, end_call}
use Rattle.walk_shown.specs.declared.question.ShowError.{ShowError}

-- a walk that is out of form with any texts: its limit is 0
unfoldable pub no_walk : Walk
no_walk = record { limit = 0; size = 0; boot = 0; moves = 0; path = 0; tried = 0; hit = false; next = Ends Gone 0 }

-- the walk in its units, and its texts
unfoldable pub held_in : Option Walk → Walk
held_in (Some w) = w
held_in None = no_walk

unfoldable pub walk_in : List ℕ → Walk
walk_in units = held_in (unpacked (take 32 units))

abbrev pub texts_in : List ℕ → List ℕ
texts_in units = drop 32 units

-- what a call gives back and leaves: 0 where it is taken, else the number of its refusal; the units of the walk; the output buffer
pub record UnitsLeft : Type 0 where
  pub number : ℕ
  pub walk : List ℕ
  pub out : List ℕ

abbrev pub units_left : ℕ → List ℕ → List ℕ → UnitsLeft
units_left number walk out = record { number = number; walk = walk; out = out }

-- the packed form is written where the call is taken, and stays where it is refused
unfoldable pub head_after : ℕ → Walk → List ℕ → List ℕ
head_after number w units = choose (eqb number 0) (packed_walk w) (take 32 units)

unfoldable pub in_units : List ℕ → Left → UnitsLeft
in_units units l =
    units_left (refusal_number l.verdict) (head_after (refusal_number l.verdict) l.walk units ++ l.texts) l.out

-- `dfsc_start`: the units may hold anything
unfoldable pub start_units : List ℕ → List ℕ → List ℕ → List ℕ → List ℕ → ℕ → ℕ → ℕ → List ℕ → UnitsLeft
start_units refs doms units path boot limit size clock out =
    in_units units (start_call refs doms (texts_in units) no_walk path boot limit size clock out)

-- an answer leaves both caches too
pub record AnswerLeft : Type 0 where
  pub left : UnitsLeft
  pub refs : List ℕ
  pub doms : List ℕ

abbrev pub answer_left : ℕ → List ℕ → List ℕ → List ℕ → List ℕ → AnswerLeft
answer_left number walk out refs doms = record { left = units_left number walk out; refs = refs; doms = doms }

unfoldable pub answer_in_units : List ℕ → Answered → AnswerLeft
answer_in_units units a = record { left = in_units units a.left; refs = a.refs; doms = a.doms }

-- `dfsc_answer_referral` and `dfsc_answer_io`
unfoldable pub referral_answer_units : List ℕ → List ℕ → List ℕ → ℕ → List ℕ → ℕ → List ℕ → AnswerLeft
referral_answer_units refs doms units status reply clock out =
    answer_in_units units (referral_call refs doms (texts_in units) (walk_in units) status reply clock out)

unfoldable pub io_answer_units : List ℕ → List ℕ → List ℕ → ℕ → ℕ → List ℕ → AnswerLeft
io_answer_units refs doms units status clock out = answer_in_units units (io_call refs doms (texts_in units) (walk_in units) status clock out)

-- how many units are shown, or 65,536 times the number that says why there are none
unfoldable pub shown_result : Result ℕ ShowError → ℕ
shown_result (Ok n) = n
shown_result (Err e) = 65536 * shown_number (Err e)

pub record Seen : Type 0 where
  pub result : ℕ
  pub out : List ℕ

abbrev pub seen : ℕ → List ℕ → Seen
seen result out = record { result = result; out = out }

unfoldable pub as_seen : Given → Seen
as_seen g = seen (shown_result g.answer) g.out

-- `dfsc_question_party`, `dfsc_question_name`, `dfsc_question`, `dfsc_end_path`, `dfsc_end`
unfoldable pub party_seen : List ℕ → List ℕ → List ℕ → List ℕ → Seen
party_seen refs doms units out = as_seen (party_call refs doms (walk_in units) (texts_in units) out)

unfoldable pub name_seen : List ℕ → List ℕ → Seen
name_seen units out = as_seen (name_call (walk_in units) (texts_in units) out)

unfoldable pub question_seen : List ℕ → List ℕ → Seen
question_seen units out = as_seen (question_call (walk_in units) (texts_in units) out)

unfoldable pub path_seen : List ℕ → List ℕ → Seen
path_seen units out = as_seen (path_call (walk_in units) (texts_in units) out)

unfoldable pub end_seen : List ℕ → List ℕ → Seen
end_seen units out = as_seen (end_call (walk_in units) (texts_in units) out)
