use Rattle.walk_store.proofs.party_hint.PartyLaws.{dc_none, through_fits, through_below, dc_set}
use Rattle.walk_store.proofs.party_hint.hint_dc.Goals as goal

pub returns-in_default : goal.returns-in_default
returns-in_default c = dc_none c.args.doms.now c.args.path.now c.args.q c.requires.0 c.requires.1.1 c.host.ensures c.find_domain.ensures c.in_default.is

pub dc_hint-old-requires : goal.dc_hint-old-requires
dc_hint-old-requires c = through_fits c.args.doms.now c.args.path.now c.args.q c.requires.0 c.requires.1.1 c.host.ensures c.find_domain.ensures _ c.in-Some.is

pub set_dc_hint-requires : goal.set_dc_hint-requires
set_dc_hint-requires c = (c.requires.0, (through_fits c.args.doms.now c.args.path.now c.args.q c.requires.0 c.requires.1.1 c.host.ensures c.find_domain.ensures _ c.in-Some.is, through_below c.args.doms.now c.args.path.now c.args.q c.requires.0 c.requires.1.1 c.host.ensures c.find_domain.ensures _ c.in-Some.is))

pub returns : goal.returns
returns c = λ refs size hit o. dc_set c.args.doms.now c.args.path.now c.args.q c.requires.0 c.requires.1.1 c.host.ensures c.find_domain.ensures _ c.in-Some.is c.set_dc_hint.ensures c.dc_hint-old.ensures refs size hit o
