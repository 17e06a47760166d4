-- Every unit becomes zero, then the names go into the first places, one after another.
use mathlib.Core.List.{map}
use mathlib.Core.Path.{◌≡◌}
use Prim.Native.Nat.{◌/◌}
use lib.ListN.{length, take}
use Rattle.reply_bytes.specs.texts.Code.{spanned}
use Rattle.cache.specs.order.Memory.{domains, encode}
use Rattle.cache_store.specs.entry_after_reply.Stored.{domain_places}
use Rattle.cache_store.proofs.domain_cache.put_domains.Given as goal

abbrev pub invariant-loop-i : goal.invariant-loop-i
invariant-loop-i l =
    (length l.cache ≡ l.units) × (l.cache ≡ encode domains (domain_places (l.units / 2336) (take l.i (map (spanned l.reply) l.names))))
