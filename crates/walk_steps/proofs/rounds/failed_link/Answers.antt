use Rattle.walk_steps.proofs.rounds.RoundLaws.{targets_few}
use lib.ListN.{take}
use native.Mathlib.Omega.{arith}
use Rattle.walk_steps.proofs.rounds.failed_link.Goals as goal

pub next_place-target-requires : goal.next_place-target-requires
next_place-target-requires c = omega (arith, c.targets.ensures, targets_few (take c.args.q.entry c.args.path.now) c.args.refs.now)
