-- How a call ends: what it leaves of the walk, its texts and the output buffer.
use Rattle.std.specs.Prelude.{ℕ, List, length, Result, Ok, Err, ⊤}
use Rattle.laws.specs.Choice.{choose}
use Rattle.walk_steps.specs.steps.Steps.{Resting}
use Rattle.walk_steps.specs.question_request.Questions.{rest_fits, out_after}
use Rattle.walk_form.specs.held.Walks.{walk_of, texts_after}
use Rattle.walk_form.specs.declared.held.Walk.{Walk}
use Rattle.walk_calls.specs.declared.call_end.Refusal.{Refusal}
use Rattle.walk_calls.specs.declared.call_end.Refusal.TheVariants.{ShortBuffer}

-- whether a call is taken, and if not why
abbrev pub Verdict : Type 0
Verdict = Result ⊤ Refusal

-- what a call leaves of the walk, its texts and the output buffer
pub record Left : Type 0 where
  pub verdict : Verdict
  pub walk : Walk
  pub texts : List ℕ
  pub out : List ℕ

-- a refused call changes nothing
abbrev pub refused : Verdict → Walk → List ℕ → List ℕ → Left
refused v walk texts out = record { verdict = v; walk = walk; texts = texts; out = out }

-- a call whose steps come to rest: 10 exactly when the request of the question then put is longer than the buffer
unfoldable pub closes : ℕ → List ℕ → Resting → Walk → List ℕ → List ℕ → Left
closes limit boot x walk texts out =
    choose (rest_fits (length out) x)
    (record { verdict = Ok tt; walk = walk_of limit boot x; texts = texts_after boot x; out = out_after x out })
    (refused (Err ShortBuffer) walk texts out)
