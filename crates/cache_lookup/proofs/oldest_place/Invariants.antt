-- Finds the lowest place of greatest age. The invariant: the places from i on decide, with the oldest so far.
use Rattle.std.proofs.Common.{◌≡◌, drop}
use Rattle.cache.specs.order.Memory.{referrals, decode}
use Rattle.cache_lookup.specs.Lookup.{oldest, oldest_from}
use Rattle.cache_lookup.proofs.oldest_place.Given as goal

abbrev pub invariant-loop-i : goal.invariant-loop-i
invariant-loop-i l = oldest l.clock (decode referrals l.cache) ≡ oldest_from l.clock l.i l.oldest l.most (drop l.i (decode referrals l.cache))
