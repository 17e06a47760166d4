-- Shapes of the code, proved equal to the rules; nothing here is to be believed.
use Rattle.std.specs.Prelude.{ℕ, ◌-◌, ◌≡◌, Bool, true, List, [], length, Result}
use Rattle.cache.specs.order.Memory.{referrals, domains, in_order}
use Rattle.walk_steps.specs.steps.Steps.{Turn, turned, referral_answered, io_answered}
use Rattle.walk_steps.specs.steps.Held.{caches_of, question_of}
use Rattle.walk_steps.specs.declared.steps.Asking.{Asking}
use Rattle.walk_steps.specs.declared.steps.Progress.{Progress}
use Rattle.walk_steps.specs.declared.steps.Next.TheVariants.{Asks}
use Rattle.walk_store.specs.after_reply.Code.{leaves}
use Rattle.walk_form.specs.held.Walks.{has_tried, in_form, tried_in, boot_in, core_in}
use Rattle.walk_form.specs.declared.held.Walk.{Walk}
use Rattle.walk_calls.specs.call_end.Closing.{Left, closes}
use Rattle.walk_calls.specs.call_end.Code.{left}
use Rattle.walk_calls.specs.declared.call_end.Refusal.{Refusal}

-- an answer is due: both caches are in order, the walk is in form and waits at q, which has a path tried or none
pub record AnswerDue (refs doms : List ℕ) (walk : Walk) (texts : List ℕ) (q : Asking) (has : Bool) : Type 0 where
  pub order : in_order referrals refs ≡ true
  pub doms_order : in_order domains doms ≡ true
  pub form : in_form walk texts ≡ true
  pub next : walk.next ≡ Asks q
  pub kind : has_tried q.kind ≡ has

-- what a walk hands on to the steps
unfoldable pub progress_of : Walk → ℕ → ℕ → Progress
progress_of walk clock room =
    record { len = walk.path; left = walk.limit - walk.moves; hit = walk.hit; size = walk.size; clock = clock; room = room }

-- the turn of an I/O answer
unfoldable pub io_turn : List ℕ → List ℕ → List ℕ → Walk → Asking → ℕ → Turn
io_turn refs doms texts walk q status = io_answered (caches_of refs doms) (core_in walk texts) (question_of q (tried_in walk texts)) status

-- the turn of an answer to a referral request, which has no path tried
unfoldable pub referral_turn : List ℕ → List ℕ → List ℕ → Walk → Asking → ℕ → List ℕ → ℕ → Turn
referral_turn refs doms texts walk q status reply clock =
    referral_answered (caches_of refs doms) (core_in walk texts) (question_of q []) status reply clock

-- what the call of an answer leaves: its end, and both caches
pub record Closed : Type 0 where
  pub ending : Left
  pub refs : List ℕ
  pub doms : List ℕ

abbrev pub closed : Result Walk Refusal → Walk → List ℕ → List ℕ → List ℕ → List ℕ → Closed
closed r walk texts out refs doms = record { ending = left r walk texts out; refs = refs; doms = doms }

-- a turn whose call ends
unfoldable pub closing : ℕ → Walk → List ℕ → List ℕ → List ℕ → List ℕ → Turn → Closed
closing clock walk texts out refs doms t = record {
  ending = closes walk.limit (boot_in walk texts) (turned (walk.limit - walk.moves) clock t) walk texts out;
  refs = (leaves (progress_of walk clock (length out)) refs doms t).refs;
  doms = (leaves (progress_of walk clock (length out)) refs doms t).doms;
}
