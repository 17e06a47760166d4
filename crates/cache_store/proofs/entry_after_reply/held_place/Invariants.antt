use Rattle.cache_store.specs.entry_after_reply.Stored.{first_equal, hinted}
use Rattle.cache_lookup.specs.Code.{entry_at}
use Rattle.cache.specs.order.Memory.{referrals}
use lib.ListN.{length, drop}
use Prim.Native.Nat.{◌≤◌}
use mathlib.Core.Path.{◌≡◌}
use Rattle.cache_store.proofs.entry_after_reply.held_place.Given as goal

abbrev pub invariant-loop-j : goal.invariant-loop-j
invariant-loop-j l =
    (l.j ≤ length (entry_at referrals l.i l.cache).targets)
    × (first_equal 0 (hinted (entry_at referrals l.i l.cache)) (entry_at referrals l.i l.cache).targets ≡ first_equal l.j (hinted (entry_at referrals l.i l.cache)) (drop l.j (entry_at referrals l.i l.cache).targets))
