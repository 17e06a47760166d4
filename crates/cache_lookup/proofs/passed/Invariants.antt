-- Tests place after place. The invariant: none before place i + k matches.
use Rattle.std.proofs.Common.{◌+◌}
use Rattle.cache_lookup.specs.Code.{Passed}
use Rattle.cache_lookup.proofs.passed.Given as goal

abbrev pub invariant-loop-k : goal.invariant-loop-k
invariant-loop-k l = Passed l.cache l.path l.i (l.i + l.k)
