use Rattle.walk_steps.proofs.rounds.RoundLaws.{dcs_gone, dcs_fit, dcs_held}
use Rattle.walk_steps.proofs.rounds.dcs.Goals as goal

pub returns-in_default : goal.returns-in_default
returns-in_default c = dcs_gone _ _ c.domain_place.ensures c.in_default.is

pub dc_count-requires : goal.dc_count-requires
dc_count-requires c = dcs_fit _ _ c.domain_place.ensures _ c.in-Some.is

pub returns : goal.returns
returns c = dcs_held _ _ c.domain_place.ensures _ c.in-Some.is c.dc_count.ensures
