-- What a call that is taken leaves: caches in order, a walk in form, and where it waits the entry that its question uses.
use Rattle.std.specs.Prelude.{ℕ, ◌≡◌, true, ◌&&◌, List}
use Rattle.cache.specs.order.Memory.{referrals, domains, in_order}
use Rattle.walk_steps.specs.steps.Steps.{Question, waits, is_in_use}
use Rattle.walk_steps.specs.steps.Held.{caches_of}
use Rattle.walk_form.specs.held.Walks.{in_form}
use Rattle.walk_form.specs.declared.held.Walk.{Walk}
use Rattle.walk_form.specs.held.Walks.{core_in}
use Rattle.walk_calls.specs.call_end.Closing.{Left}
use Rattle.walk_calls.specs.calls.Calls.{refusal_number, start_call, Answered, rest_in, referral_call, io_call}

-- the question's party can be shown: end 27 does not come while the caches stay as they are
pub record Stands (refs doms : List ℕ) (walk : Walk) (texts : List ℕ) : Type 0 where
  pub order : (in_order referrals refs && in_order domains doms) ≡ true
  pub form : in_form walk texts ≡ true
  pub there : (q : Question) → rest_in walk texts ≡ waits q → is_in_use (caches_of refs doms) (core_in walk texts) q ≡ true

-- a start that is taken, which leaves the caches as they were; an answer that is taken, with the caches that it leaves
unfoldable pub StartStands : List ℕ → List ℕ → Left → Type 0
StartStands refs doms x = refusal_number x.verdict ≡ 0 → Stands refs doms x.walk x.texts

unfoldable pub AnswerStands : Answered → Type 0
AnswerStands x = refusal_number x.left.verdict ≡ 0 → Stands x.refs x.doms x.left.walk x.left.texts

-- The laws of the three calls.
pub record CallsStand : Type 0 where
  pub start : (refs doms texts : List ℕ) (walk : Walk) (path boot : List ℕ) (limit size clock : ℕ) (out : List ℕ)
      → StartStands refs doms (start_call refs doms texts walk path boot limit size clock out)
  pub answer_referral : (refs doms texts : List ℕ) (walk : Walk) (status : ℕ) (reply : List ℕ) (clock : ℕ) (out : List ℕ)
      → AnswerStands (referral_call refs doms texts walk status reply clock out)
  pub answer_io : (refs doms texts : List ℕ) (walk : Walk) (status clock : ℕ) (out : List ℕ) → AnswerStands (io_call refs doms texts walk status clock out)
