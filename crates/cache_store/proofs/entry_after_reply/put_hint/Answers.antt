use native.Mathlib.Omega.{arith}
use Rattle.cache_lookup.proofs.EntryLaws.{few_targets}
use Rattle.cache_store.proofs.entry_after_reply.put_hint.Goals as goal

pub overflow_cast-hint : goal.overflow_cast-hint
overflow_cast-hint c = omega (arith, few_targets c.args.cache.now c.args.i c.requires.1)
