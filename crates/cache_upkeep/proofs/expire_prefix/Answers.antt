-- Finds the entry of an equal prefix, and expires it.
use Rattle.cache.specs.order.Memory.{referrals}
use Rattle.cache_upkeep.proofs.CallLaws.{found_fits, prefix_none, prefix_found}
use Rattle.cache_upkeep.proofs.expire_prefix.Goals as goal

pub returns-in_default : goal.returns-in_default
returns-in_default c = prefix_none _ _ c.find_prefix.ensures c.in_default.is

pub expire_at-requires : goal.expire_at-requires
expire_at-requires c =
    (c.requires, found_fits referrals c.args.refs.now c.args.prefix.now _ c.find_prefix.ensures c.in-Some.is)

pub returns : goal.returns
returns c = prefix_found _ _ c.find_prefix.ensures _ c.in-Some.is c.expire_at.ensures
