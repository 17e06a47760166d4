use Rattle.walk_steps.proofs.cycle.PointLaws.{link_few, root_few, asks_link, without_root}
use native.Mathlib.Omega.{arith}
use Rattle.walk_steps.proofs.cycle.root_asked.Goals as goal

pub returns-in-65536 : goal.returns-in-65536
returns-in-65536 c = without_root c.args.refs.now c.args.doms.now c.args.texts.now c.args.n c.requires.0 c.requires.1 c.sought.ensures c.in-65536.is c.case_at.ensures

pub case_at-requires-in_default : goal.case_at-requires-in_default
case_at-requires-in_default c = (link_few, (root_few c.args.refs.now c.args.doms.now c.args.texts.now c.args.n c.requires.0 c.requires.1 c.sought.ensures (λ z. omega arith), c.requires.0.counted))

pub returns-in_default : goal.returns-in_default
returns-in_default c = asks_link c.args.refs.now c.args.doms.now c.args.texts.now c.args.n c.requires.0 c.requires.1 c.sought.ensures (λ z. omega arith) c.case_at-in_default.ensures
