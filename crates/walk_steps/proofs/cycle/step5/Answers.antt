use Rattle.walk_steps.proofs.cycle.PointLaws.{domain_few, dc_few, asks_host, asks_dcs, asks_domain}
use native.Mathlib.Omega.{arith}
use Rattle.walk_steps.proofs.cycle.step5.Goals as goal

pub returns-in-65536 : goal.returns-in-65536
returns-in-65536 c = asks_host c.args.refs.now c.args.doms.now c.args.texts.now c.args.n c.requires.0 c.requires.1 c.sought.ensures c.in-65536.is c.case_at.ensures

pub returns-in-65537 : goal.returns-in-65537
returns-in-65537 c = asks_dcs c.args.refs.now c.args.doms.now c.args.texts.now c.args.n c.requires.0 c.requires.1 c.sought.ensures c.in-65537.is c.case_at-in-65537.ensures

pub case_at-requires-in_default : goal.case_at-requires-in_default
case_at-requires-in_default c = (domain_few, (dc_few c.args.refs.now c.args.doms.now c.args.texts.now c.args.n c.requires.0 c.requires.1 c.sought.ensures (λ z. omega arith) (λ z. omega arith), c.requires.0.counted))

pub returns-in_default : goal.returns-in_default
returns-in_default c = asks_domain c.args.refs.now c.args.doms.now c.args.texts.now c.args.n c.requires.0 c.requires.1 c.sought.ensures (λ z. omega arith) (λ z. omega arith) c.case_at-in_default.ensures
