use Rattle.walk_steps.proofs.steps.StepLaws.{first_within}
use Rattle.walk_steps.proofs.rounds.RoundLaws.{dcs_few}
use Rattle.cache.proofs.order.KindLaws.{prefix_short}
use native.Mathlib.Omega.{arith}
use Rattle.walk_steps.proofs.rounds.failed_dc.Goals as goal

pub next_place-dc-requires : goal.next_place-dc-requires
next_place-dc-requires c = omega (arith, c.dcs.ensures, dcs_few c.args.path.now c.args.doms.now)

pub overflow_cast-entry : goal.overflow_cast-entry
overflow_cast-entry c = omega (arith, first_within 1 _ c.first_end-entry.ensures, prefix_short _ c.requires)
