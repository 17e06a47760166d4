-- Looks for the entry's next set boundary. The invariant: the boundaries from place e on decide.
use Rattle.std.proofs.Common.{◌≡◌}
use Rattle.cache_entry.specs.equivalent_targets.Code.{held_targets, boundaries, set_end}
use Rattle.cache_entry.proofs.equivalent_targets.SetLaws.{end_from}
use Rattle.cache_entry.proofs.equivalent_targets.held_end.Given as goal

abbrev pub invariant-loop-e : goal.invariant-loop-e
invariant-loop-e l = set_end l.a (boundaries (held_targets l.i l.cache)) ≡ end_from l.e (boundaries (held_targets l.i l.cache))
