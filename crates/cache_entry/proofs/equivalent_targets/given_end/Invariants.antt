-- Looks for the reply's next set boundary. The invariant: the boundaries from place e on decide.
use Rattle.std.proofs.Common.{◌≡◌}
use Rattle.cache_entry.specs.equivalent_targets.Code.{given_boundaries, set_end}
use Rattle.cache_entry.proofs.equivalent_targets.SetLaws.{end_from}
use Rattle.cache_entry.proofs.equivalent_targets.given_end.Given as goal

abbrev pub invariant-loop-e : goal.invariant-loop-e
invariant-loop-e l = set_end l.b (given_boundaries l.given) ≡ end_from l.e (given_boundaries l.given)
