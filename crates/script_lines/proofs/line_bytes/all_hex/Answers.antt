use Rattle.script_lines.specs.line_bytes.Hexes.{is_hex}
use Rattle.script_lines.proofs.line_bytes.HexLaws.{every_of_all}
use Rattle.std.proofs.Common.{rules, tests, ◌∙◌}
use Rattle.std.proofs.lemmas.Iterator.{YieldsList-from_slice}
use Rattle.std.proofs.lemmas.Iterator.Search.{all_from_yields_List}
use Rattle.script_lines.proofs.line_bytes.all_hex.Goals as goal

pub returns : goal.returns
returns c = all_from_yields_List is_hex _ _ _ c.all.ensures.ran (YieldsList-from_slice c.args.s.now cc) (λ x b q k. search (rules, tests)) ∙ every_of_all is_hex c.args.s.now
