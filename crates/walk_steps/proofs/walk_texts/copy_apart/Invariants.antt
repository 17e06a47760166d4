use mathlib.Core.Path.{◌≡◌}
use lib.ListN.{take}
use Rattle.laws.specs.Lists.{pasted, part}
use Rattle.walk_steps.proofs.walk_texts.copy_apart.Given as goal

abbrev pub invariant-loop-i : goal.invariant-loop-i
invariant-loop-i l = l.texts ≡ pasted l.initial.texts l.at (take l.i (part l.from l.count l.initial.texts))
