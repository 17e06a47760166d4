use Rattle.walk_store.proofs.party_hint.PartyLaws.{target_none, link_fits, link_below, target_set}
use native.Mathlib.Omega.{arith}
use mathlib.Core.Path.{sym}
use lib.Seq.{length-take-le}
use Rattle.walk_store.proofs.party_hint.hint_target.Goals as goal

pub slice_bounds-find_prefix-end : goal.slice_bounds-find_prefix-end
slice_bounds-find_prefix-end c = sym (length-take-le _ _ (omega (arith, c.requires.1.0)))

pub returns-in_default : goal.returns-in_default
returns-in_default c = target_none c.args.refs.now c.args.path.now c.args.q c.requires.0 c.requires.1.1 c.find_prefix.ensures c.in_default.is

pub target_hint-old-requires : goal.target_hint-old-requires
target_hint-old-requires c = link_fits c.args.refs.now c.args.path.now c.args.q c.requires.0 c.requires.1.1 c.find_prefix.ensures _ c.in-Some.is

pub set_target_hint-requires : goal.set_target_hint-requires
set_target_hint-requires c = (c.requires.0, (link_fits c.args.refs.now c.args.path.now c.args.q c.requires.0 c.requires.1.1 c.find_prefix.ensures _ c.in-Some.is, link_below c.args.refs.now c.args.path.now c.args.q c.requires.0 c.requires.1.1 c.find_prefix.ensures _ c.in-Some.is))

pub returns : goal.returns
returns c = λ doms size hit o. target_set c.args.refs.now c.args.path.now c.args.q c.requires.0 c.requires.1.1 c.find_prefix.ensures _ c.in-Some.is c.set_target_hint.ensures c.target_hint-old.ensures doms size hit o
