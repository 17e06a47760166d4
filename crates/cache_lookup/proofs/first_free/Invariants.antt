-- Finds the lowest free place. The invariant: the places from i on decide.
use Rattle.std.proofs.Common.{◌≡◌, drop}
use Rattle.cache.specs.order.Memory.{referrals, decode}
use Rattle.cache_lookup.specs.Lookup.{first_free_from}
use Rattle.cache_lookup.proofs.first_free.Given as goal

abbrev pub invariant-loop-i : goal.invariant-loop-i
invariant-loop-i l = first_free_from 0 (decode referrals l.cache) ≡ first_free_from l.i (drop l.i (decode referrals l.cache))
