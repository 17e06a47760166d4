use Rattle.walk_steps.proofs.rounds.FailLaws.{failed_root_lem, failed_link_lem}
use Rattle.walk_steps.proofs.rounds.failed.Goals as goal

pub returns-in-Root : goal.returns-in-Root
returns-in-Root c = failed_root_lem _ _ _ _ _ c.in-Root.is c.failed_root.ensures

pub returns-in-Link : goal.returns-in-Link
returns-in-Link c = failed_link_lem _ _ _ _ _ c.in-Link.is (c.failed_link.ensures _)
