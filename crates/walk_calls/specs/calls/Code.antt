-- Shapes of the code, proved equal to the rules; nothing here is to be believed.
use Rattle.std.specs.Prelude.{ℕ, List, Result}
use Rattle.walk_calls.specs.call_end.Code.{left}
use Rattle.walk_form.specs.declared.held.Walk.{Walk}
use Rattle.walk_calls.specs.declared.call_end.Refusal.{Refusal}
use Rattle.walk_calls.specs.calls.Calls.{Answered}

-- what an answer gives back and what it leaves, as one
abbrev pub answered : Result Walk Refusal → Walk → List ℕ → List ℕ → List ℕ → List ℕ → Answered
answered r walk texts out refs doms = record { left = left r walk texts out; refs = refs; doms = doms }
