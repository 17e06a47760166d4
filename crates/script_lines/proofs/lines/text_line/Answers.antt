use Rattle.script_lines.proofs.lines.LineLaws.{text_other, text_bad, text_long, text_said_lem}
use Rattle.listing_read.proofs.line.LineLaws.{spelled_good}
use native.Mathlib.Omega.{arith}
use Rattle.script_lines.proofs.lines.text_line.Goals as goal

pub returns-in_err-value : goal.returns-in_err-value
returns-in_err-value c = rw c.from_residual.ensures (text_other c.args.key.now c.args.line.now c.args.out.now c.in_err-value.ensures.cases)

pub returns-in_err-n : goal.returns-in_err-n
returns-in_err-n c =
    rw c.from_residual-in_err-n.ensures
    (text_bad c.args.key.now c.args.line.now c.args.out.now c.in_ok-value.ensures.cases.1 c.spelled_form.ensures c.in_err-n.was)

pub returns-then-out-n : goal.returns-then-out-n
returns-then-out-n c =
    text_long c.args.key.now c.args.line.now c.args.out.now c.in_ok-value.ensures.cases.1 c.spelled_form.ensures c.in_ok-n.was c.if-out-n.true

pub unspell-requires : goal.unspell-requires
unspell-requires c = let w = spelled_good _ c.spelled_form.ensures c.in_ok-n.was in (w.0, omega (arith, w.1, c.if-out-n.false))

pub returns : goal.returns
returns c =
    let h = c.in_ok-value.ensures.cases in
    text_said_lem c.args.key.now c.args.line.now c.args.out.now h.1 h.0 c.spelled_form.ensures c.in_ok-n.was c.if-out-n.false c.unspell.ensures.memory
