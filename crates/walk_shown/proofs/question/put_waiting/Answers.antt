use Rattle.walk_shown.proofs.question.ShownLaws.{waiting_gone, waiting_there}
use mathlib.Core.Path.{sym, ◌∙◌}
use Rattle.walk_shown.proofs.question.put_waiting.Goals as goal

pub returns-then-not-in_use : goal.returns-then-not-in_use
returns-then-not-in_use c = waiting_gone _ _ _ _ _ c.in_use.ensures c.if-not-in_use.true

pub put_party-requires : goal.put_party-requires
put_party-requires c = record { good = c.requires.0; within = c.requires.1.0; few = c.requires.1.1; there = sym c.in_use.ensures ∙ c.if-not-in_use.false }

pub returns : goal.returns
returns c = waiting_there _ _ _ _ _ c.in_use.ensures c.if-not-in_use.false c.put_party.ensures
