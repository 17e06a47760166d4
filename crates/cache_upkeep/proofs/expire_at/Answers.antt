-- Writes a TTL of 0 into a place that is used.
use Rattle.cache.specs.order.Memory.{referrals}
use Rattle.cache.specs.places.Code.{put_wide}
use Rattle.cache.proofs.order.KindLaws.{referrals_lawful}
use Rattle.cache_upkeep.specs.Calls.{expire_entry}
use Rattle.cache_upkeep.proofs.EntryLaws.{expire_tends, expire_units, free_stays, used_changed}
use Rattle.cache_upkeep.proofs.expire_at.Goals as goal

pub returns-then-unit-eq0 : goal.returns-then-unit-eq0
returns-then-unit-eq0 c =
    free_stays referrals expire_entry expire_tends referrals_lawful c.args.refs.now c.requires.0 c.args.i c.unit.ensures c.if-unit-eq0.true c.requires.1

pub returns : goal.returns
returns c =
    used_changed referrals expire_entry expire_tends referrals_lawful c.args.refs.now c.requires.0 c.args.i (put_wide 22 0) expire_units
    c.unit.ensures c.if-unit-eq0.false c.requires.1 c.put_wide.ensures
