-- Writes one target after the other. The invariant: those from n on, added to the cache as it is, are all of them added to what it was.
use Rattle.std.proofs.Common.{◌≡◌, map, drop}
use Rattle.reply_read.specs.referral.Code.{target_shown}
use Rattle.cache.specs.places.Code.{changed}
use Rattle.cache_entry.specs.write_entry.Code.{add_all, add_target}
use Rattle.cache_entry.proofs.write_entry.add_targets.Given as goal

abbrev pub invariant-loop-n : goal.invariant-loop-n
invariant-loop-n l =
    changed l.i (add_all add_target 0 (map (target_shown l.reply) l.given)) l.initial.cache
    ≡ changed l.i (add_all add_target l.n (drop l.n (map (target_shown l.reply) l.given))) l.cache
