use Rattle.std.proofs.lemmas.List.{get_or-take}
use mathlib.Core.Path.{◌∙◌}
use Rattle.script_lines.proofs.line_bytes.HexLaws.{front_more, front_all}
use Rattle.laws.proofs.Pasting.{pasted_nil}
use lib.Seq.{length-take-le}
use mathlib.Core.Path.{sym}
use native.Mathlib.Omega.{arith}
use Rattle.script_lines.proofs.line_bytes.widen.Goals as goal

pub loop-i-init : goal.loop-i-init
loop-i-init c = sym (pasted_nil _ _)

pub loop-i-preserved : goal.loop-i-preserved
loop-i-preserved c = let l = length-take-le c.min-n.result c.args.src.now (omega arith) in front_more c.args.out.now c.args.src.now c.loop-i.i c.loop-i.invariant (omega arith) (omega arith) (c.from.ensures ∙ get_or-take c.min-n.result c.args.src.now c.loop-i.i 0 (omega arith))

pub returns-clause-units : goal.returns-clause-units
returns-clause-units c = let l = length-take-le c.min-n.result c.args.src.now (omega arith) in front_all c.args.out.now c.args.src.now c.loop-i.i c.min-n.result c.loop-i.invariant (omega arith) (omega arith) c.min-n.ensures
