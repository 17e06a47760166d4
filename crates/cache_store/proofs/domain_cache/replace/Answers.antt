-- The names are gathered and counted, then written.
use native.Mathlib.Omega.{arith}
use Rattle.cache_store.proofs.domain_cache.ReadLaws.{too_many, all_placed}
use Rattle.cache_store.proofs.domain_cache.replace.Goals as goal

pub returns-then-cache-names : goal.returns-then-cache-names
returns-then-cache-names c = record { answer = (too_many c.args.reply.now c.gather-names.result c.gather-names.ensures c.args.cache.now c.requires.1 (omega arith)).0; cache = (too_many c.args.reply.now c.gather-names.result c.gather-names.ensures c.args.cache.now c.requires.1 (omega arith)).1 }

pub returns : goal.returns
returns c = record { answer = (all_placed c.args.reply.now c.gather-names.result c.gather-names.ensures c.args.cache.now c.requires.1 (omega arith) c.put_domains.ensures).0; cache = (all_placed c.args.reply.now c.gather-names.result c.gather-names.ensures c.args.cache.now c.requires.1 (omega arith) c.put_domains.ensures).1 }
