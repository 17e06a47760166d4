use Rattle.walk_steps.proofs.cycle.PointLaws.{place_few, parts_point, gone_stored, gone_sysvol}
use borrow.Author.Rules.{rules}
use native.Mathlib.Omega.{arith}
use Rattle.walk_steps.proofs.cycle.from_stored.Goals as goal

pub step3-requires : goal.step3-requires
step3-requires c = (c.requires.0.standing, c.requires.1.0)

pub returns-then-sysvol : goal.returns-then-sysvol
returns-then-sysvol c = gone_sysvol c.args.refs.now c.args.doms.now _ c.args.g.size c.args.g.clock c.args.g.left c.args.i c.args.g.hit c.args.sysvol c.if-sysvol.true c.step3.ensures

pub point-n-requires : goal.point-n-requires
point-n-requires c = (omega arith, (let z = place_few c.args.refs.now c.args.i c.requires.0.order c.requires.1.0.fits in omega arith, (c.requires.0.standing.few, search rules)))

pub domain-r-requires : goal.domain-r-requires
domain-r-requires c = (parts_point c.point-n.ensures c.args.refs.now c.args.texts.now (search rules) c.requires.0 (λ a b. c.requires.1.0) (λ a. absurd (omega arith)), (omega (arith, c.point-n.ensures.its_case), omega (arith, c.point-n.ensures.its_case)))

pub rest_at-requires : goal.rest_at-requires
rest_at-requires c = c.domain-r.ensures.halted

pub returns : goal.returns
returns c = gone_stored c.args.refs.now c.args.doms.now c.args.texts.now c.args.g.size c.args.g.clock c.args.g.len c.args.g.left c.args.g.hit c.rest_at.ensures c.args.i c.args.sysvol c.if-sysvol.false c.point-n.ensures c.domain-r.ensures
