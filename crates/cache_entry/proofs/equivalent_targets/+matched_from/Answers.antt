use Rattle.std.proofs.Common.{◌≤◌, ◌^◌, sym, ◌∙◌, arith}
use Rattle.cache_entry.proofs.equivalent_targets.ComparisonLaws.{none_left, found_bit, one_taken}
use Rattle.cache_entry.proofs.equivalent_targets.+matched_from.Goals as goal

pub returns-then-j-given : goal.returns-then-j-given
returns-then-j-given t c =
    sym (none_left _ _ c.args.t c.args.end c.text-held.ensures c.args.reply.now c.args.given.now c.args.marks c.first_unmarked-j.ensures.first (omega arith) (omega arith) (omega arith))

pub overflow_sub-marks : goal.overflow_sub-marks
overflow_sub-marks t c =
    let b : 2 ^ c.first_unmarked-j.result ≤ c.args.marks =
    found_bit _ _ c.args.t c.args.end c.text-held.ensures c.args.reply.now c.args.given.now c.args.marks c.first_unmarked-j.ensures.first (omega arith) (omega arith) (omega arith) in
    omega arith

pub returns : goal.returns
returns t c =
    let b : 2 ^ c.first_unmarked-j.result ≤ c.args.marks =
    found_bit _ _ c.args.t c.args.end c.text-held.ensures c.args.reply.now c.args.given.now c.args.marks c.first_unmarked-j.ensures.first (omega arith) (omega arith) (omega arith) in
    c.matched_from.ensures
    ∙ sym (one_taken _ _ c.args.t c.args.end c.text-held.ensures c.args.reply.now c.args.given.now c.args.marks c.first_unmarked-j.ensures.first (omega arith) (omega arith) (omega arith) (omega arith))
