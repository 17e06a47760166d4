use Rattle.walk_steps.proofs.cycle.PointLaws.{parts_point, gone_lookup}
use borrow.Author.Rules.{rules}
use native.Mathlib.Omega.{arith}
use Rattle.walk_steps.proofs.cycle.from_lookup.Goals as goal

pub point-n-requires : goal.point-n-requires
point-n-requires c = (omega arith, (omega arith, (c.requires.standing.few, search rules)))

pub lookup-r-requires : goal.lookup-r-requires
lookup-r-requires c = (parts_point c.point-n.ensures c.args.refs.now c.args.texts.now (search rules) c.requires (λ a b. absurd (omega arith)) (λ a. absurd (omega arith)), c.point-n.ensures.its_case)

pub rest_at-requires : goal.rest_at-requires
rest_at-requires c = c.lookup-r.ensures.halted

pub returns : goal.returns
returns c = gone_lookup c.args.refs.now c.args.doms.now c.args.texts.now c.args.g.size c.args.g.clock c.args.g.len c.args.g.left c.args.g.hit c.rest_at.ensures c.point-n.ensures c.lookup-r.ensures
