-- Passes over places, a turn at a time and then one by one. The invariant of both loops: none from `from` up to there matches.
use Rattle.std.proofs.Common.{◌+◌, ◌*◌, ◌≤◌}
use Rattle.cache_lookup.specs.Code.{Passed}
use Rattle.cache_lookup.proofs.next_candidate.Given as goal

abbrev pub invariant-loop-t : goal.invariant-loop-t
invariant-loop-t l = Passed l.cache l.path l.from (l.from + l.t * 4)

abbrev pub invariant-loop-i : goal.invariant-loop-i
invariant-loop-i l = (l.from ≤ l.i) × Passed l.cache l.path l.from l.i
