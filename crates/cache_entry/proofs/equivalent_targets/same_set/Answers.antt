use Rattle.std.proofs.Common.{sym, ◌∙◌, arith}
use Rattle.cache_entry.proofs.equivalent_targets.ComparisonLaws.{set_unlike, set_matched}
use Rattle.cache_entry.proofs.equivalent_targets.same_set.Goals as goal

pub returns-then-end-start : goal.returns-then-end-start
returns-then-end-start c = set_unlike _ _ _ _ _ c.args.given.now (omega arith) (omega arith) c.if-end-start.true

pub returns : goal.returns
returns c = c.matched_from.ensures ∙ sym (set_matched _ _ _ _ _ c.args.given.now (omega arith) (omega arith) c.if-end-start.false (omega arith))
