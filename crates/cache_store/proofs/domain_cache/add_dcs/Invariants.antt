-- The DCs one after another, as texts 1 and on of the place.
use mathlib.Core.List.{map}
use mathlib.Core.Path.{◌≡◌}
use lib.ListN.{length, drop}
use Rattle.reply_bytes.specs.texts.Code.{spanned}
use Rattle.cache.specs.places.Code.{changed}
use Rattle.cache_entry.specs.write_entry.Code.{add_all, add_dc}
use Rattle.cache_store.proofs.domain_cache.add_dcs.Given as goal

abbrev pub invariant-loop-n : goal.invariant-loop-n
invariant-loop-n l =
    (length l.cache ≡ length l.initial.cache)
    × (changed l.i (add_all add_dc 0 (map (spanned l.reply) l.dcs)) l.initial.cache ≡ changed l.i (add_all add_dc l.n (drop l.n (map (spanned l.reply) l.dcs))) l.cache)
