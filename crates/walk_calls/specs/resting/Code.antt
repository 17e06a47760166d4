-- Shapes of the code, proved equal to the rules; nothing here is to be believed.
use Rattle.std.specs.Prelude.{ℕ, List, Option, Some, None}
use Rattle.laws.specs.Choice.{choose}
use Rattle.walk_steps.specs.declared.steps.Asking.{Asking}
use Rattle.walk_steps.specs.declared.steps.End.{End}
use Rattle.walk_steps.specs.declared.steps.Next.{Next}
use Rattle.walk_steps.specs.declared.steps.Next.TheVariants.{Asks, Ends}
use Rattle.walk_form.specs.held.Walks.{in_form}
use Rattle.walk_form.specs.declared.held.Walk.{Walk}

-- the question that a walk waits for, and the end that it has come to
unfoldable pub question_next : Next → Option Asking
question_next (Asks q) = Some q
question_next (Ends e status) = None

unfoldable pub end_next : Next → Option (End × ℕ)
end_next (Asks q) = None
end_next (Ends e status) = Some (e, status)

-- none where the walk is out of form
unfoldable pub walk_question : Walk → List ℕ → Option Asking
walk_question walk texts = choose (in_form walk texts) (question_next walk.next) None

unfoldable pub walk_end : Walk → List ℕ → Option (End × ℕ)
walk_end walk texts = choose (in_form walk texts) (end_next walk.next) None
