use Rattle.walk_shown.proofs.question.ShownLaws.{host_short, root_host, root_dc}
use Rattle.walk_shown.proofs.question.put_root.Goals as goal

pub put-requires : goal.put-requires
put-requires c = host_short _ c.requires.0 c.host.ensures

pub returns-then-entry-eq0 : goal.returns-then-entry-eq0
returns-then-entry-eq0 c = root_host _ _ _ _ _ c.if-entry-eq0.true c.host.ensures c.put.ensures

pub put_dc-requires : goal.put_dc-requires
put_dc-requires c = (c.requires.0, c.requires.1 c.if-entry-eq0.false)

pub returns-else-entry-eq0 : goal.returns-else-entry-eq0
returns-else-entry-eq0 c = root_dc _ _ _ _ _ c.if-entry-eq0.false c.put_dc.ensures
