use Rattle.script_lines.specs.line_bytes.Held.{next_rest}
use Rattle.script_lines.proofs.line_bytes.HeldLaws.{rest_of_fold}
use Rattle.std.proofs.Common.{rules, ◌∙◌}
use Rattle.std.proofs.lemmas.Iterator.{YieldsList-from_slice}
use Rattle.std.proofs.lemmas.Iterator.Consumers.{fold_from_yields_List}
use Rattle.script_lines.proofs.line_bytes.rest_with.Goals as goal

pub returns : goal.returns
returns c = fold_from_yields_List _ next_rest _ _ c.fold.ensures.ran (YieldsList-from_slice c.args.s.now cc) (λ a x b q k. search rules) ∙ rest_of_fold c.args.rest c.args.s.now
