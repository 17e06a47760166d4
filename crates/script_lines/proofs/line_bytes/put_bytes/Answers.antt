use Rattle.script_lines.proofs.line_bytes.HexLaws.{length_bytes, get_d_bytes, front_more, front_count, front_whole}
use Rattle.script_lines.specs.line_bytes.Hexes.{hex_bytes}
use Rattle.laws.proofs.Pasting.{pasted_nil}
use lib.ListN.{length, take}
use lib.Seq.{length-take-le}
use Prim.Native.Nat.{min}
use mathlib.Core.Path.{sym, ap, ◌∙◌}
use native.Mathlib.Omega.{arith}
use Rattle.script_lines.proofs.line_bytes.put_bytes.Goals as goal

pub loop-i-init : goal.loop-i-init
loop-i-init c = sym (pasted_nil _ _)

pub loop-i-preserved : goal.loop-i-preserved
loop-i-preserved c =
    let l = length-take-le c.min-n.result c.args.out.now (omega arith) in
    front_more (take c.min-n.result c.args.out.now) (hex_bytes c.args.s.now) c.loop-i.i c.loop-i.invariant (omega (arith, length_bytes c.args.s.now)) (omega arith)
    (c.byte_at.ensures.byte ∙ sym (get_d_bytes c.args.s.now c.loop-i.i (omega arith)))

pub returns-clause-count : goal.returns-clause-count
returns-clause-count c = front_count c.args.out.now (hex_bytes c.args.s.now) _ (c.min-n.ensures ∙ ap (min (length c.args.out.now)) (sym (length_bytes c.args.s.now)))

pub returns-clause-bytes : goal.returns-clause-bytes
returns-clause-bytes c =
    let l = length-take-le c.min-n.result c.args.out.now (omega arith) in
    front_whole c.args.out.now (hex_bytes c.args.s.now) c.min-n.result c.loop-i.i (c.min-n.ensures ∙ ap (min (length c.args.out.now)) (sym (length_bytes c.args.s.now))) (omega arith) c.loop-i.invariant
