-- The entries of the reply, one after another.
use Rattle.cache_store.proofs.domain_cache.GatherLaws.{Going}
use Rattle.cache_store.proofs.domain_cache.gather.Given as goal

abbrev pub invariant-loop-i : goal.invariant-loop-i
invariant-loop-i l = Going l.reply l.n l.names l.e l.i
