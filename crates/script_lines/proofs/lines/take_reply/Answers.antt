use Rattle.script_lines.proofs.lines.LineLaws.{reply_odd, reply_digits, reply_said}
use Rattle.script_lines.specs.lines.Script.{reply_key, after, with_reply}
use Rattle.listing_read.proofs.line.LineLaws.{key_fits, tail_value}
use Rattle.script_lines.specs.line_bytes.Hexes.{is_hex, hex_bytes}
use Rattle.laws.specs.Lists.{every, pasted}
use lib.ListN.{length, take}
use Prim.Native.Nat.{ℕ, ◌-◌}
use mathlib.Core.List.{List}
use mathlib.Core.Path.{refl, sym, ap, ◌∙◌}
use native.Mathlib.Omega.{arith}
use Rattle.script_lines.proofs.lines.take_reply.Goals as goal
use Rattle.script_lines.proofs.lines.take_reply.Goals.{else-whole_bytes-via-then-whole_bytes+else-all_hex, else-whole_bytes-via-else-whole_bytes}

pub slice_bounds-digits-count : goal.slice_bounds-digits-count
slice_bounds-digits-count c = key_fits reply_key c.args.line.now refl c.requires

pub slice_bounds-digits-start : goal.slice_bounds-digits-start
slice_bounds-digits-start c = omega (arith, (key_fits reply_key c.args.line.now refl c.requires))

pub put_bytes-n-requires : goal.put_bytes-n-requires
put_bytes-n-requires c = sym c.all_hex.ensures ∙ c.if-all_hex.true

pub returns-then-all_hex : goal.returns-then-all_hex
unfolding after with_reply
returns-then-all_hex c =
    let t = tail_value reply_key c.args.line.now (length c.args.line.now - 6) (omega arith) in
    reply_said c.args.s c.args.line.now c.args.rest c.args.reply.now (ap length t) c.whole_bytes.ensures c.if-whole_bytes.true (c.all_hex.ensures ∙ ap (every is_hex) t) c.if-all_hex.true
    (c.put_bytes-n.ensures.count ∙ ap (λ (x : List ℕ). length (take (length c.args.reply.now) (hex_bytes x))) t)
    (c.put_bytes-n.ensures.bytes ∙ ap (λ (x : List ℕ). pasted c.args.reply.now 0 (take (length c.args.reply.now) (hex_bytes x))) t)
    refl

pub returns-else-whole_bytes : goal.returns-else-whole_bytes
returns-else-whole_bytes c = elim c.else-whole_bytes.branch [
  | else-whole_bytes-via-then-whole_bytes+else-all_hex w ↦ reply_digits c.args.s c.args.line.now c.args.rest c.args.reply.now (w.all_hex.ensures ∙ ap (every is_hex) (tail_value reply_key c.args.line.now (length c.args.line.now - 6) (omega arith))) w.if-all_hex.false c.with_last.ensures
  | else-whole_bytes-via-else-whole_bytes w ↦ reply_odd c.args.s c.args.line.now c.args.rest c.args.reply.now (ap length (tail_value reply_key c.args.line.now (length c.args.line.now - 6) (omega arith))) c.whole_bytes.ensures w.if-whole_bytes.false c.with_last.ensures
]
