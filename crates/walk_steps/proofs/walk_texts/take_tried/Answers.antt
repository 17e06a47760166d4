use native.Mathlib.Omega.{arith}
use Rattle.walk_steps.proofs.walk_texts.TextLaws.{tried_moved}
use Rattle.walk_steps.proofs.walk_texts.take_tried.Goals as goal

pub returns : goal.returns
returns c = tried_moved 256 c.args.texts.now c.copy_apart.ensures c.clear_units.ensures (omega arith)
