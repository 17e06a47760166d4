use Rattle.walk_steps.proofs.cycle.PointLaws.{question_link, question_host, question_domain}
use Rattle.walk_steps.proofs.steps.StepLaws.{prefix_within}
use lib.ListN.{length}
use native.Mathlib.Omega.{arith}
use mathlib.Core.Path.{ap}
use Rattle.walk_steps.proofs.cycle.question.Goals as goal

pub prefix-n-requires : goal.prefix-n-requires
prefix-n-requires c = c.requires.1.1 c.in-6.is

pub target_hint-hint-requires : goal.target_hint-hint-requires
target_hint-hint-requires c = c.requires.1.1 c.in-6.is

pub overflow_cast-result : goal.overflow_cast-result
overflow_cast-result c = omega (arith, prefix_within c.args.i c.args.refs.now, ap length c.prefix-n.ensures)

pub returns-in-6 : goal.returns-in-6
returns-in-6 c = question_link c.args.refs.now c.args.path.now c.args.size c.args.i c.args.what c.in-6.is c.prefix-n.ensures c.target_hint-hint.ensures

pub returns-in-9 : goal.returns-in-9
returns-in-9 c = question_host c.args.refs.now c.args.path.now c.args.size c.args.i c.args.what (λ z. omega arith) c.in-9.is

pub returns-in_default : goal.returns-in_default
returns-in_default c = question_domain c.args.refs.now c.args.path.now c.args.size c.args.i c.args.what (λ z. omega arith) (λ z. omega arith) c.kind.ensures c.domain_asking.ensures
