use Rattle.walk_store.proofs.party_hint.PartyLaws.{nobody_set, targets_wanted, targets_set, dcs_wanted, dcs_set}
use Rattle.walk_store.proofs.party_hint.set_hint.Goals as goal

pub hint_target-requires : goal.hint_target-requires
hint_target-requires c = targets_wanted c.args.refs.now c.args.doms.now c.args.path.now c.args.q c.requires c.whose.ensures c.in-Targets.is

pub hint_dc-requires : goal.hint_dc-requires
hint_dc-requires c = dcs_wanted c.args.refs.now c.args.doms.now c.args.path.now c.args.q c.requires c.whose.ensures c.in-Dcs.is

pub returns-in-Nobody : goal.returns-in-Nobody
returns-in-Nobody c = nobody_set c.args.refs.now c.args.doms.now c.args.path.now c.args.q c.requires c.whose.ensures c.in-Nobody.is

pub returns-in-Targets : goal.returns-in-Targets
returns-in-Targets c = targets_set c.args.refs.now c.args.doms.now c.args.path.now c.args.q c.requires c.whose.ensures c.in-Targets.is c.hint_target.ensures

pub returns-in-Dcs : goal.returns-in-Dcs
returns-in-Dcs c = dcs_set c.args.refs.now c.args.doms.now c.args.path.now c.args.q c.requires c.whose.ensures c.in-Dcs.is c.hint_dc.ensures
