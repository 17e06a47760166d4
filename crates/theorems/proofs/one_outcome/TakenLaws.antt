-- A call that is taken leaves caches, a walk and an entry in use of which just one outcome is printed.
use mathlib.Core.List.{List}
use Prim.Native.Nat.{ℕ}
use Rattle.walk_form.specs.declared.held.Walk.{Walk}
use Rattle.walk_calls.specs.call_end.Closing.{Left}
use Rattle.walk_calls.specs.calls.Calls.{Answered, rest_in}
use Rattle.theorems.specs.keeps.Stands.{Stands, StartStands, AnswerStands}
use Rattle.theorems.proofs.keeps.StandLaws.{start_stands, referral_stands, io_stands}
use Rattle.script_output.specs.outcome.One.{PrintsOne}
use Rattle.script_output.proofs.outcome.OneLaws.{prints_one}
use Rattle.theorems.specs.one_outcome.Taken.{StartPrints, AnswerPrints, CallsPrint}

stands_prints : (refs doms : List ℕ) (walk : Walk) (texts : List ℕ) → Stands refs doms walk texts → PrintsOne refs doms walk texts (rest_in walk texts)
stands_prints refs doms walk texts s = prints_one refs doms walk texts s.order s.form s.there

start_prints : (refs doms : List ℕ) (x : Left) → StartStands refs doms x → StartPrints refs doms x
unfolding StartStands StartPrints
start_prints refs doms x s h = stands_prints refs doms x.walk x.texts (s h)

answer_prints : (x : Answered) → AnswerStands x → AnswerPrints x
unfolding AnswerStands AnswerPrints
answer_prints x s h = stands_prints x.refs x.doms x.left.walk x.left.texts (s h)

-- the three calls
pub calls_print : CallsPrint
calls_print = record {
  start = λ refs doms texts walk path boot limit size clock out. start_prints refs doms _ (start_stands refs doms texts walk path boot limit size clock out);
  answer_referral = λ refs doms texts walk status reply clock out. answer_prints _ (referral_stands refs doms texts walk status reply clock out);
  answer_io = λ refs doms texts walk status clock out. answer_prints _ (io_stands refs doms texts walk status clock out);
}
