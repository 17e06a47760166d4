use Rattle.std.proofs.Common.{sym, ◌∙◌, arith}
use Rattle.cache_entry.proofs.equivalent_targets.ComparisonLaws.{kept_inside_lem, seek_start, seek_hit, seek_marked, seek_unlike, seek_end}
use Rattle.cache_entry.proofs.equivalent_targets.first_unmarked.Goals as goal
use Rattle.cache_entry.proofs.equivalent_targets.first_unmarked.Goals.{else-left-ne0-via-then-left-ne0+else-same_span, else-left-ne0-via-else-left-ne0}

pub same_span-requires : goal.same_span-requires
same_span-requires c = kept_inside_lem c.args.reply.now c.args.given.now c.loop-j.j _ c.requires (omega arith)

pub loop-j-init : goal.loop-j-init
loop-j-init c = seek_start c.args.x.now c.args.marks c.args.reply.now c.args.given.now

pub returns-then-same_span-clause-first : goal.returns-then-same_span-clause-first
returns-then-same_span-clause-first c =
    sym (c.loop-j.invariant
    ∙ seek_hit c.args.x.now c.loop-j.left c.args.reply.now c.args.given.now c.loop-j.j (omega arith) _ c.if-left-ne0.true c.same_span.ensures c.if-same_span.true)

pub loop-j-preserved : goal.loop-j-preserved
loop-j-preserved c =
    c.loop-j.invariant
    ∙ (elim c.else-left-ne0.branch [
      | else-left-ne0-via-then-left-ne0+else-same_span w ↦ seek_unlike c.args.x.now c.loop-j.left c.args.reply.now c.args.given.now c.loop-j.j (omega arith) _ w.same_span.ensures w.if-same_span.false
      | else-left-ne0-via-else-left-ne0 w ↦ seek_marked c.args.x.now c.loop-j.left c.args.reply.now c.args.given.now c.loop-j.j (omega arith) w.if-left-ne0.false
    ])

pub returns-clause-first : goal.returns-clause-first
returns-clause-first c =
    sym (c.loop-j.invariant
    ∙ (seek_end c.args.x.now c.loop-j.left c.args.reply.now c.args.given.now c.loop-j.j (omega arith) ∙ omega arith))
