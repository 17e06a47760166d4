use Rattle.walk_steps.proofs.cycle.PointLaws.{kind_dc, kind_sysvol, kind_root}
use Rattle.walk_steps.proofs.cycle.kind.Goals as goal

pub returns-then-what-eq-ASK_DC : goal.returns-then-what-eq-ASK_DC
returns-then-what-eq-ASK_DC c = kind_dc _ _ c.if-what-eq-ASK_DC.true

pub returns-then-is_sysvol : goal.returns-then-is_sysvol
returns-then-is_sysvol c = kind_sysvol _ _ c.if-what-eq-ASK_DC.false c.is_sysvol.ensures c.if-is_sysvol.true

pub returns-else-is_sysvol : goal.returns-else-is_sysvol
returns-else-is_sysvol c = kind_root _ _ c.if-what-eq-ASK_DC.false c.is_sysvol.ensures c.if-is_sysvol.false
