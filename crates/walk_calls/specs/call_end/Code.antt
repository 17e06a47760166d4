-- Shapes of the code, proved equal to the rules; nothing here is to be believed.
use Rattle.std.specs.Prelude.{ℕ, ◌-◌, List, ◌++◌, length, take, Result, Ok, Err}
use Rattle.std.specs.Result.{result_unwrap_or}
use Rattle.laws.specs.Choice.{choose}
use Rattle.laws.specs.Lists.{roomed}
use Rattle.unc.specs.declared.names.PathError.{PathError}
use Rattle.unc.specs.declared.names.PathError.TheVariants.{Bad, Long}
use Rattle.walk_steps.specs.declared.steps.Rested.{Rested}
use Rattle.walk_steps.specs.question_request.Questions.{name_fits, with_request}
use Rattle.walk_steps.specs.question_request.Code.{next_units, named}
use Rattle.walk_form.specs.declared.held.Walk.{Walk}
use Rattle.walk_calls.specs.declared.call_end.Refusal.{Refusal}
use Rattle.walk_calls.specs.declared.call_end.Refusal.TheVariants.{BadPath, LongPath, ShortBuffer}
use Rattle.walk_calls.specs.call_end.Closing.{Verdict, Left, refused}

-- the refusal of a path without a form
unfoldable pub path_refusal : PathError → Refusal
path_refusal Bad = BadPath
path_refusal Long = LongPath

-- whether what a call gives back is a walk
abbrev pub verdict_of : Result Walk Refusal → Verdict
verdict_of (Ok w) = Ok tt
verdict_of (Err e) = Err e

-- a call's answer and what it leaves, as one; where it is refused the walk stays
abbrev pub left : Result Walk Refusal → Walk → List ℕ → List ℕ → Left
left r walk texts out = record { verdict = verdict_of r; walk = result_unwrap_or r walk; texts = texts; out = out }

-- the walk of a rest that is held as numbers
unfoldable pub walk_with : ℕ → ℕ → ℕ → Rested → Walk
walk_with limit size boot r = record {
  limit = limit;
  size = size;
  boot = boot;
  moves = limit - r.left;
  path = r.path;
  tried = r.tried;
  hit = r.hit;
  next = r.next;
}

-- a call that rests so, by the numbers and the rooms of the path and of the path tried
unfoldable pub closed_rest : ℕ → ℕ → List ℕ → Rested → List ℕ → Walk → List ℕ → List ℕ → Left
closed_rest limit size boot r rooms walk texts out =
    choose (name_fits (length out) (named (next_units r.next (take r.path rooms)) (take r.path rooms)))
    (record {
      verdict = Ok tt;
      walk = walk_with limit size (length boot) r;
      texts = rooms ++ roomed 256 boot;
      out = with_request (named (next_units r.next (take r.path rooms)) (take r.path rooms)) out;
    })
    (refused (Err ShortBuffer) walk texts out)
