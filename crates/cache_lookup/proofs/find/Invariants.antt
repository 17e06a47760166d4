-- Finds the longest match. The invariant: the places from `from` on decide, with the best so far.
use Rattle.std.proofs.Common.{◌≡◌, ◌-◌, ◌≤◌, drop}
use Rattle.cache.specs.order.Memory.{referrals, decode}
use Rattle.cache_lookup.specs.Lookup.{longest_match, longest_from}
use Rattle.cache.specs.places.Layout.{place_count}
use Rattle.cache_lookup.proofs.find.Given as goal

abbrev pub invariant-loop-i : goal.invariant-loop-i
invariant-loop-i l =
    (l.from ≤ place_count l.cache)
    × (longest_match l.path (decode referrals l.cache) ≡ longest_from l.path l.from l.best l.units (drop l.from (decode referrals l.cache)))

abbrev pub decreases-loop-i : goal.decreases-loop-i
decreases-loop-i l = place_count l.cache - l.from
