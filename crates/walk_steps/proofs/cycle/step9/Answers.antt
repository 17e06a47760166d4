use Rattle.walk_steps.proofs.cycle.PointLaws.{rests_asked, without_point, without_next}
use Rattle.walk_steps.proofs.cycle.step9.Goals as goal

pub returns-then-m-eq-ASK_LINK : goal.returns-then-m-eq-ASK_LINK
returns-then-m-eq-ASK_LINK c = rests_asked c.args.refs.now c.args.doms.now c.args.texts.now c.args.n c.root_asked-m.ensures c.if-m-eq-ASK_LINK.true

pub step5-requires : goal.step5-requires
step5-requires c = without_point c.args.refs.now c.args.doms.now c.args.texts.now c.args.n c.root_asked-m.ensures c.if-m-eq-ASK_LINK.false

pub returns-else-m-eq-ASK_LINK : goal.returns-else-m-eq-ASK_LINK
returns-else-m-eq-ASK_LINK c = without_next c.args.refs.now c.args.doms.now c.args.texts.now c.args.n c.root_asked-m.ensures c.step5.ensures
