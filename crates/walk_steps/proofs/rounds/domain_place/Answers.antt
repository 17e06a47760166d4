use Rattle.walk_steps.proofs.rounds.RoundLaws.{place_named}
use Rattle.walk_steps.proofs.rounds.domain_place.Goals as goal

pub returns : goal.returns
returns c = place_named _ _ c.host.ensures c.find_domain.ensures
