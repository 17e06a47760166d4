use Rattle.script_lines.proofs.line_bytes.HexLaws.{eight, number_said_lem}
use lib.ListN.{get_or}
use native.Mathlib.Omega.{arith}
use Rattle.script_lines.proofs.line_bytes.number.Goals as goal

pub returns : goal.returns
returns c = number_said_lem c.args.s.now c.requires.1 (omega (arith, eight (λ i. get_or c.args.s.now i 0)))
