-- An answer that fails names no entry: both caches come back as they were. Document 01: "Success sets the hint to the party that answered"; "Moving the hint on a failed
-- try"; "a failed refresh leaves the entry expired".
use Rattle.std.specs.Prelude.{ℕ, ◌≡◌, true, List, leb, eqb}
use Rattle.walk_steps.specs.steps.Steps.{severity}
use Rattle.walk_form.specs.declared.held.Walk.{Walk}
use Rattle.walk_calls.specs.calls.Calls.{Answered, referral_call, io_call}

pub record Unchanged (refs doms : List ℕ) (x : Answered) : Type 0 where
  pub refs_stay : x.refs ≡ refs
  pub doms_stay : x.doms ≡ doms

pub record FailuresKeep : Type 0 where
  -- a status of severity 2 or 3 fails a referral
  pub answer_referral : (refs doms texts : List ℕ) (walk : Walk) (status : ℕ) (reply : List ℕ) (clock : ℕ) (out : List ℕ) → leb 2 (severity status) ≡ true
      → Unchanged refs doms (referral_call refs doms texts walk status reply clock out)
  -- I/O fails only at severity 3
  pub answer_io : (refs doms texts : List ℕ) (walk : Walk) (status clock : ℕ) (out : List ℕ) → eqb (severity status) 3 ≡ true
      → Unchanged refs doms (io_call refs doms texts walk status clock out)
