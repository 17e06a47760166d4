-- Moves left fall, and within a move the rank of the step.
use Prim.Native.Nat.{◌+◌, ◌*◌, ◌/◌}
use Rattle.walk_steps.proofs.cycle.+domain_interlink_link_lookup.Given as goal

abbrev pub decreases-domain : goal.decreases-domain
decreases-domain l = 4 * (l.n / 1073741824) + 2

abbrev pub decreases-interlink : goal.decreases-interlink
decreases-interlink l = 4 * (l.n / 1073741824) + 0

abbrev pub decreases-link : goal.decreases-link
decreases-link l = 4 * (l.n / 1073741824) + 1

abbrev pub decreases-lookup : goal.decreases-lookup
decreases-lookup l = 4 * (l.n / 1073741824) + 3
