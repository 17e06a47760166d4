-- The request for the empty name.
use lib.ListN.{length}
use Rattle.cache_store.proofs.domain_cache.RequestLaws.{asked_number_lem}
use Rattle.cache_store.proofs.domain_cache.domain_request.Goals as goal

pub returns : goal.returns
returns c = record { number = asked_number_lem (length c.args.out.now) c.request.ensures.answer; answer = c.request.ensures.answer; buffer = c.request.ensures.buffer }
