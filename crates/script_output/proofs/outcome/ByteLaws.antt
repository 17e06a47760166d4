-- All that is printed after a call is bytes.
use mathlib.Core.Path.{◌≡◌, refl}
use mathlib.Core.Bool.{true, false}
use mathlib.Core.List.{List, ◌++◌}
use mathlib.Core.Logic.{◌⊎◌, inl, inr}
use Prim.Native.Nat.{ℕ}
use lib.Dec.{eqb}
use Rattle.std.specs.Prelude.{Result, Ok, Err}
use Rattle.laws.specs.Choice.{choose}
use Rattle.laws.specs.Lists.{every}
use Rattle.laws.proofs.Choices.{choose_yes, choose_no}
use Rattle.laws.proofs.Orders.{told}
use Rattle.walk_form.specs.declared.held.Walk.{Walk}
use Rattle.walk_shown.specs.declared.question.ShowError.{ShowError}
use Rattle.script_output.specs.printed.Printed.{refused_line, is_byte}
use Rattle.script_output.proofs.printed.ByteLaws.{both_all, question_all, end_all, refused_all}
use Rattle.script_output.specs.outcome.Telling.{if_shown, question_told, end_told, waiting_lines, ended_lines, outcome_lines}

shown_all : (s : Result ℕ ShowError) (lines : ℕ → List ℕ) → ((n : ℕ) → every is_byte (lines n) ≡ true) → every is_byte (if_shown s lines) ≡ true
unfolding if_shown every
shown_all (Ok n) lines h = h n
shown_all (Err e) lines h = refl

waiting_all : (refs doms : List ℕ) (walk : Walk) (texts : List ℕ) → every is_byte (waiting_lines refs doms walk texts) ≡ true
unfolding waiting_lines question_told
waiting_all refs doms walk texts = shown_all _ _ (λ p. shown_all _ _ (λ n. shown_all _ _ (λ k. question_all _ _ _ _)))

ended_all : (walk : Walk) (texts : List ℕ) → every is_byte (ended_lines walk texts) ≡ true
unfolding ended_lines end_told
ended_all walk texts = shown_all _ _ (λ p. shown_all _ _ (λ k. end_all _ _ _ _))

pub outcome_all : (number : ℕ) (refs doms : List ℕ) (walk : Walk) (texts : List ℕ) → every is_byte (outcome_lines number refs doms walk texts) ≡ true
unfolding outcome_lines
outcome_all number refs doms walk texts = go (told (eqb number 0))
  where
    go : (eqb number 0 ≡ true) ⊎ (eqb number 0 ≡ false)
        → every is_byte (choose (eqb number 0) (waiting_lines refs doms walk texts ++ ended_lines walk texts) (refused_line number)) ≡ true
    go (inl h) =
        rw (choose_yes (waiting_lines refs doms walk texts ++ ended_lines walk texts) (refused_line number) h)
        (both_all (waiting_lines refs doms walk texts) (ended_lines walk texts) (waiting_all refs doms walk texts) (ended_all walk texts))
    go (inr h) = rw (choose_no (waiting_lines refs doms walk texts ++ ended_lines walk texts) (refused_line number) h) (refused_all number)
