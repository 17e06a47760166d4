use Rattle.script_lines.proofs.line_bytes.HeldLaws.{full_held, full_line, room_held, room_line}
use Rattle.script_lines.specs.line_bytes.Held.{rest_from}
use lib.Seq.{take_all}
use lib.ListN.{length, drop, length-drop}
use Prim.Native.Nat.{◌-◌}
use mathlib.Core.Path.{ap, ◌∙◌}
use native.Mathlib.Omega.{arith}
use Rattle.script_lines.proofs.line_bytes.hold.Goals as goal

pub returns-then-line-held-clause-held : goal.returns-then-line-held-clause-held
returns-then-line-held-clause-held c = full_held c.args.line.now c.args.held c.args.part.now c.if-line-held.true c.rest_with.ensures

pub returns-then-line-held-clause-line : goal.returns-then-line-held-clause-line
returns-then-line-held-clause-line c = full_line c.args.line.now c.args.held c.args.part.now c.if-line-held.true

pub returns-clause-held : goal.returns-clause-held
returns-clause-held c = room_held c.args.line.now c.args.held c.args.part.now c.min-n.result c.min-n.ensures (c.rest_with-2.ensures ∙ ap (rest_from c.args.held.rest) (take_all (length c.args.part.now - c.min-n.result) (drop c.min-n.result c.args.part.now) (omega (arith, length-drop c.min-n.result c.args.part.now))))

pub returns-clause-line : goal.returns-clause-line
returns-clause-line c = room_line c.args.line.now c.args.held c.args.part.now c.min-n.result c.min-n.ensures c.copy_units.ensures
