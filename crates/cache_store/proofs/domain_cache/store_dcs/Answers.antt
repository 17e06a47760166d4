-- All but the name becomes zero, then the DCs are added.
use Rattle.cache_store.proofs.domain_cache.DcLaws.{dcs_stored_lem}
use Rattle.cache_store.proofs.domain_cache.store_dcs.Goals as goal

pub returns : goal.returns
returns c =
    dcs_stored_lem c.args.cache.now c.args.i c.requires.0 c.args.reply.now c.args.found c.requires.1
    c.keep_key.ensures c.add_dcs.ensures
