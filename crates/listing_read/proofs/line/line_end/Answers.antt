use Rattle.std.proofs.Common.{◌+◌, ℕ, ap, ◌∙◌, arith, drop, length-drop}
use Rattle.listing_read.specs.line.Lines.{line_length}
use Rattle.listing_read.proofs.line.LineLaws.{line_fits}
use Rattle.listing_read.proofs.line.line_end.Goals as goal

pub overflow_add-result : goal.overflow_add-result
overflow_add-result c = let e = c.line_length.ensures ∙ ap line_length c.part_from.ensures in omega (arith, e, line_fits (drop c.args.at c.args.text.now), length-drop c.args.at c.args.text.now)

pub returns : goal.returns
returns c = ap (λ (n : ℕ). c.args.at + n) (c.line_length.ensures ∙ ap line_length c.part_from.ensures)
