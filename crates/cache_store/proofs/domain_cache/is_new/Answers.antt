use mathlib.Core.List.{map}
use mathlib.Core.Path.{refl, sym, ◌∙◌}
use native.Mathlib.Omega.{arith}
use lib.ListN.{length-map}
use Rattle.laws.proofs.Every.{every_at}
use Rattle.laws.proofs.Listed.{get_d_map}
use Rattle.reply_bytes.specs.texts.Code.{spanned}
use Rattle.cache_store.specs.domain_cache.Code.{good_name_span}
use Rattle.cache_store.proofs.domain_cache.DcLaws.{fits_inside}
use Rattle.cache_store.proofs.domain_cache.OnceLaws.{new_more, new_broken, new_end}
use Rattle.cache_store.proofs.domain_cache.is_new.Goals as goal

pub loop-n-init : goal.loop-n-init
loop-n-init c = refl

pub same_spans-requires : goal.same_spans-requires
same_spans-requires c =
    (fits_inside c.args.reply.now _ (every_at (good_name_span c.args.reply.now) c.args.names.now c.requires.0 c.loop-n.n-index _ (omega arith)), c.requires.1)

pub returns-then-same_spans : goal.returns-then-same_spans
returns-then-same_spans c =
    sym (c.loop-n.invariant
    ∙ new_broken (map (spanned c.args.reply.now) c.args.names.now) (spanned c.args.reply.now c.args.s) c.loop-n.n-index _ (omega (arith, length-map c.args.names.now (spanned c.args.reply.now)))
    (get_d_map (spanned c.args.reply.now) c.args.names.now c.loop-n.n-index _ _ (omega arith)) c.same_spans.ensures c.if-same_spans.true)

pub loop-n-preserved : goal.loop-n-preserved
loop-n-preserved c =
    c.loop-n.invariant
    ∙ new_more (map (spanned c.args.reply.now) c.args.names.now) (spanned c.args.reply.now c.args.s) c.loop-n.n-index _ (omega (arith, length-map c.args.names.now (spanned c.args.reply.now)))
    (get_d_map (spanned c.args.reply.now) c.args.names.now c.loop-n.n-index _ _ (omega arith)) c.same_spans.ensures c.if-same_spans.false

pub returns : goal.returns
returns c =
    sym (c.loop-n.invariant ∙ new_end (map (spanned c.args.reply.now) c.args.names.now) _ c.loop-n.n-index (omega (arith, length-map c.args.names.now (spanned c.args.reply.now))))
