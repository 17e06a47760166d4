-- The names kept, one after another.
use mathlib.Core.List.{map}
use mathlib.Core.Path.{◌≡◌}
use lib.ListN.{drop}
use Rattle.reply_bytes.specs.texts.Code.{spanned}
use Rattle.cache_store.specs.domain_cache.Code.{is_new}
use Rattle.cache_store.proofs.domain_cache.is_new.Given as goal

abbrev pub invariant-loop-n : goal.invariant-loop-n
invariant-loop-n l =
    is_new (map (spanned l.reply) l.names) (spanned l.reply l.s) ≡ is_new (drop l.n-index (map (spanned l.reply) l.names)) (spanned l.reply l.s)
