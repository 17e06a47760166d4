use Rattle.walk_steps.proofs.cycle.PointLaws.{after_small, matched_none, matched_there}
use Rattle.walk_steps.proofs.cycle.matched.Goals as goal

pub returns-then-found-eq-NOWHERE : goal.returns-then-found-eq-NOWHERE
returns-then-found-eq-NOWHERE c = matched_none c.args.refs.now c.args.clock c.args.n c.args.found c.if-found-eq-NOWHERE.true c.case_at.ensures

pub after_match-requires : goal.after_match-requires
after_match-requires c = (c.requires.1 c.if-found-eq-NOWHERE.false).0

pub case_hit-requires : goal.case_hit-requires
case_hit-requires c = (after_small _ _ c.after_match.ensures, ((c.requires.1 c.if-found-eq-NOWHERE.false).1, c.requires.0))

pub returns : goal.returns
returns c = matched_there c.args.refs.now c.args.clock c.args.n c.args.found c.if-found-eq-NOWHERE.false c.after_match.ensures c.case_hit.ensures
