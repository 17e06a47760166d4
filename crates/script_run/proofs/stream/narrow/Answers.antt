use mathlib.Core.Path.{refl, sym}
use native.Mathlib.Omega.{arith}
use Rattle.laws.proofs.Pasting.{pasted_nil, copied_all}
use Rattle.script_lines.proofs.line_bytes.HexLaws.{front_more}
use Rattle.script_output.proofs.printed.ByteLaws.{byte_at}
use Rattle.script_run.proofs.stream.narrow.Goals as goal

pub loop-i-init : goal.loop-i-init
loop-i-init c = sym (pasted_nil _ _)

pub overflow_cast-bytes : goal.overflow_cast-bytes
overflow_cast-bytes c = omega (arith, byte_at _ c.requires.1 _ c.loop-i-test.true)

pub loop-i-preserved : goal.loop-i-preserved
loop-i-preserved c = front_more _ _ _ c.loop-i.invariant (omega arith) (omega arith) refl

pub returns : goal.returns
returns c = copied_all _ _ _ c.loop-i.i c.loop-i.invariant (omega arith)
