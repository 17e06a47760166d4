-- Just one outcome is printed of a walk after a call that was taken: the question that waits, or the end.
use Rattle.std.specs.Prelude.{ℕ, ◌≡◌, List, Some}
use Rattle.walk_steps.specs.steps.Steps.{Question, Rest, waits, ended, name_asked, end_number}
use Rattle.walk_steps.specs.steps.Held.{caches_of}
use Rattle.walk_steps.specs.declared.steps.End.{End}
use Rattle.walk_form.specs.held.Walks.{boot_in}
use Rattle.walk_form.specs.declared.held.Walk.{Walk}
use Rattle.walk_form.specs.held.Walks.{core_in}
use Rattle.walk_shown.specs.question.Shown.{question_shown, end_path}
use Rattle.script_output.specs.printed.Printed.{question_lines, end_lines}
use Rattle.script_output.specs.outcome.Telling.{outcome_lines}

-- of a walk that waits: the lines of its question (kind, party as it is shown, name, size)
pub record PrintsQuestion (refs doms : List ℕ) (walk : Walk) (texts : List ℕ) (q : Question) : Type 0 where
  pub party : List ℕ
  pub shown : (question_shown (caches_of refs doms) (core_in walk texts) (boot_in walk texts) q).party ≡ Some party
  pub printed : outcome_lines 0 refs doms walk texts ≡ question_lines q.kind party (name_asked (core_in walk texts) q) q.size

-- of one that has ended: the lines of its end (number, status, path, moves)
unfoldable pub PrintsEnd : List ℕ → List ℕ → Walk → List ℕ → End → ℕ → List ℕ → Type 0
PrintsEnd refs doms walk texts e status tried =
    outcome_lines 0 refs doms walk texts ≡ end_lines (end_number e) status (end_path e (core_in walk texts).path tried) walk.moves

-- by where it rests
unfoldable pub PrintsOne : List ℕ → List ℕ → Walk → List ℕ → Rest → Type 0
PrintsOne refs doms walk texts (waits q) = PrintsQuestion refs doms walk texts q
PrintsOne refs doms walk texts (ended e status tried) = PrintsEnd refs doms walk texts e status tried
