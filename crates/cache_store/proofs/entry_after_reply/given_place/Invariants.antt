use Rattle.reply_read.specs.referral.Code.{target_shown}
use Rattle.cache_store.specs.entry_after_reply.Stored.{first_equal, hinted}
use mathlib.Core.List.{map}
use Rattle.cache_lookup.specs.Code.{entry_at}
use Rattle.cache.specs.order.Memory.{referrals}
use lib.ListN.{drop}
use mathlib.Core.Path.{◌≡◌}
use Rattle.cache_store.proofs.entry_after_reply.given_place.Given as goal

abbrev pub invariant-loop-n : goal.invariant-loop-n
invariant-loop-n l =
    first_equal 0 (hinted (entry_at referrals l.i l.cache)) (map (target_shown l.reply) l.given) ≡ first_equal l.n (hinted (entry_at referrals l.i l.cache)) (drop l.n (map (target_shown l.reply) l.given))
