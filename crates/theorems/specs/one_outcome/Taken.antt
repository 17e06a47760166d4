-- After a call that was taken just one outcome is printed: the question that waits, or the end. Document 01, "Examples to hold it to".
use Rattle.std.specs.Prelude.{ℕ, ◌≡◌, List}
use Rattle.walk_form.specs.declared.held.Walk.{Walk}
use Rattle.walk_calls.specs.call_end.Closing.{Left}
use Rattle.walk_calls.specs.calls.Calls.{refusal_number, start_call, Answered, rest_in, referral_call, io_call}
use Rattle.script_output.specs.outcome.One.{PrintsOne}

-- a start leaves the caches as they were; an answer leaves caches too
unfoldable pub StartPrints : List ℕ → List ℕ → Left → Type 0
StartPrints refs doms x = refusal_number x.verdict ≡ 0 → PrintsOne refs doms x.walk x.texts (rest_in x.walk x.texts)

unfoldable pub AnswerPrints : Answered → Type 0
AnswerPrints x = refusal_number x.left.verdict ≡ 0 → PrintsOne x.refs x.doms x.left.walk x.left.texts (rest_in x.left.walk x.left.texts)

-- The three calls, whatever they are given.
pub record CallsPrint : Type 0 where
  pub start : (refs doms texts : List ℕ) (walk : Walk) (path boot : List ℕ) (limit size clock : ℕ) (out : List ℕ)
      → StartPrints refs doms (start_call refs doms texts walk path boot limit size clock out)
  pub answer_referral : (refs doms texts : List ℕ) (walk : Walk) (status : ℕ) (reply : List ℕ) (clock : ℕ) (out : List ℕ)
      → AnswerPrints (referral_call refs doms texts walk status reply clock out)
  pub answer_io : (refs doms texts : List ℕ) (walk : Walk) (status clock : ℕ) (out : List ℕ) → AnswerPrints (io_call refs doms texts walk status clock out)
