-- What is printed after a call, from what a host is shown: document 01, "Examples to hold it to".
use Rattle.std.specs.Prelude.{ℕ, List, [], ◌++◌, take, get_or, replicate, eqb, Result, Ok, Err}
use Rattle.laws.specs.Choice.{choose}
use Rattle.walk_form.specs.declared.held.Walk.{Walk}
use Rattle.walk_form.specs.packed.Packing.{kind_at}
use Rattle.walk_shown.specs.question.Shown.{Given, party_call, name_call, path_call, question_call, end_call}
use Rattle.walk_shown.specs.declared.question.ShowError.{ShowError}
use Rattle.script_output.specs.printed.Printed.{question_lines, end_lines, refused_line}

-- lines that need what was asked for: none where it was not shown
unfoldable pub if_shown : Result ℕ ShowError → (ℕ → List ℕ) → List ℕ
if_shown (Ok n) lines = lines n
if_shown (Err e) lines = []

-- a question from its party, name and numbers
unfoldable pub question_told : Given → Given → Given → List ℕ
question_told party name numbers =
    if_shown party.answer (λ p. if_shown name.answer (λ n. if_shown numbers.answer (λ k.
    question_lines (kind_at (get_or numbers.out 0 0)) (take p party.out) (take n name.out) (get_or numbers.out 1 0))))

-- an end from its path and numbers
unfoldable pub end_told : Given → Given → List ℕ
end_told path numbers =
    if_shown path.answer (λ p. if_shown numbers.answer (λ k.
    end_lines (get_or numbers.out 0 0) (get_or numbers.out 1 0) (take p path.out) (get_or numbers.out 2 0)))

-- buffers for a text and for numbers
unfoldable pub room : List ℕ
room = replicate 256 0

unfoldable pub three : List ℕ
three = replicate 3 0

-- the question that waits
unfoldable pub waiting_lines : List ℕ → List ℕ → Walk → List ℕ → List ℕ
waiting_lines refs doms walk texts =
    question_told (party_call refs doms walk texts room) (name_call walk texts room) (question_call walk texts three)

-- the end
unfoldable pub ended_lines : Walk → List ℕ → List ℕ
ended_lines walk texts = end_told (path_call walk texts room) (end_call walk texts three)

-- what is printed after a call: its refusal by number, or where it was taken (0) the question that waits or the end
unfoldable pub outcome_lines : ℕ → List ℕ → List ℕ → Walk → List ℕ → List ℕ
outcome_lines number refs doms walk texts =
    choose (eqb number 0) (waiting_lines refs doms walk texts ++ ended_lines walk texts) (refused_line number)
