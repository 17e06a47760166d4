-- What the calls of a host keep.
use Rattle.std.specs.Prelude.{ℕ, ◌≡◌, Bool, true, ◌&&◌, List, Ok}
use Rattle.cache.specs.order.Memory.{referrals, domains, in_order}
use Rattle.walk_steps.specs.steps.Held.{caches_of}
use Rattle.walk_form.specs.held.Walks.{in_form, core_in}
use Rattle.walk_form.specs.declared.held.Walk.{Walk}
use Rattle.walk_calls.specs.call_end.Closing.{Left, refused}
use Rattle.walk_calls.specs.calls.Calls.{start_call, Answered, refused_answer, rest_in, referral_call, io_call}
use Rattle.theorems.specs.keeps.Named.{referral_names, io_names, domain_names, Elsewhere}

-- What a start keeps: the walk that comes back is in form, and a refused call is the identity.
pub record StartKeeps (walk : Walk) (texts out : List ℕ) (x : Left) : Type 0 where
  pub keeps_form : x.verdict ≡ Ok tt → in_form x.walk x.texts ≡ true
  pub identity : (x.verdict ≡ Ok tt → ⊥) → x ≡ refused x.verdict walk texts out

-- What an answer keeps: the same; caches in order stay in order (others are refused, so that what comes back is in order exactly where what was
-- given is); and every cache entry that the answer does not name stays as it was.
pub record AnswerKeeps (names_referral names_domain : ℕ → Bool) (walk : Walk) (texts out refs doms : List ℕ) (x : Answered) : Type 0 where
  pub keeps_form : x.left.verdict ≡ Ok tt → in_form x.left.walk x.left.texts ≡ true
  pub identity : (x.left.verdict ≡ Ok tt → ⊥) → x ≡ refused_answer x.left.verdict walk texts out refs doms
  pub order : (in_order referrals x.refs && in_order domains x.doms) ≡ (in_order referrals refs && in_order domains doms)
  pub elsewhere : Elsewhere names_referral names_domain (caches_of refs doms) (caches_of x.refs x.doms)

-- The laws of the three calls.
pub record CallsKeep : Type 0 where
  pub start : (refs doms texts : List ℕ) (walk : Walk) (path boot : List ℕ) (limit size clock : ℕ) (out : List ℕ)
      → StartKeeps walk texts out (start_call refs doms texts walk path boot limit size clock out)
  pub answer_referral : (refs doms texts : List ℕ) (walk : Walk) (status : ℕ) (reply : List ℕ) (clock : ℕ) (out : List ℕ)
      → AnswerKeeps (referral_names (caches_of refs doms) (core_in walk texts) (rest_in walk texts) reply clock)
      (domain_names (caches_of refs doms) (core_in walk texts) (rest_in walk texts)) walk texts out refs doms
      (referral_call refs doms texts walk status reply clock out)
  pub answer_io : (refs doms texts : List ℕ) (walk : Walk) (status clock : ℕ) (out : List ℕ)
      → AnswerKeeps (io_names (caches_of refs doms) (core_in walk texts) (rest_in walk texts))
      (domain_names (caches_of refs doms) (core_in walk texts) (rest_in walk texts)) walk texts out refs doms (io_call refs doms texts walk status clock out)
