use mathlib.Core.Path.{refl}
use native.Mathlib.Omega.{arith}
use Rattle.reply_read.specs.referral.Replies.{referral_count}
use Rattle.cache_store.proofs.domain_cache.GatherLaws.{going_start, going_fits, going_none, going_name, going_next, going_full, going_end}
use Rattle.reply_read.proofs.name_lists.SaysLaws.{name_taken}
use Rattle.cache_store.proofs.domain_cache.gather.Goals as goal

pub unit_at-n-requires : goal.unit_at-n-requires
unit_at-n-requires c = omega (arith, c.requires.header)

pub loop-i-init : goal.loop-i-init
unfolding referral_count
loop-i-init c = going_start c.args.reply.now c.unit_at-n.result _ c.requires c.unit_at-n.ensures refl refl

pub returns-then-names-eq-NAMES : goal.returns-then-names-eq-NAMES
returns-then-names-eq-NAMES c =
    going_full c.args.reply.now c.unit_at-n.result c.loop-i.names c.loop-i.e c.loop-i.i c.loop-i.invariant c.if-names-eq-NAMES.true

pub domain_at-requires : goal.domain_at-requires
domain_at-requires c =
    let w = going_fits c.args.reply.now c.unit_at-n.result c.loop-i.names c.loop-i.e c.loop-i.i c.loop-i.invariant (omega arith) in
    (omega (arith, w.0, w.1), c.requires.short)

pub returns-in_default : goal.returns-in_default
returns-in_default c =
    absurd
    (going_none c.args.reply.now c.unit_at-n.result c.loop-i.names c.loop-i.e c.loop-i.i c.loop-i.invariant (omega arith) c.domain_at.ensures.name c.in_default.is)

pub add_once-names-requires : goal.add_once-names-requires
add_once-names-requires c = (
  omega (arith, c.loop-i.invariant.fit.few),
  (
    c.loop-i.invariant.fit,
    going_name c.args.reply.now c.unit_at-n.result c.loop-i.names c.loop-i.e c.loop-i.i c.loop-i.invariant (omega arith) c.domain_at.ensures.name _ c.in-Some.is c.domain_at.ensures.inside,
  ),
)

pub next_entry-e-requires : goal.next_entry-e-requires
next_entry-e-requires c =
    let w = going_fits c.args.reply.now c.unit_at-n.result c.loop-i.names c.loop-i.e c.loop-i.i c.loop-i.invariant (omega arith) in
    (omega (arith, w.0, w.1), c.requires.short)

pub loop-i-preserved : goal.loop-i-preserved
loop-i-preserved c =
    going_next c.args.reply.now c.unit_at-n.result c.loop-i.names c.loop-i.e c.loop-i.i c.loop-i.invariant (omega arith) c.in-Some.s c.add_once-names.result
    c.next_entry-e.result (name_taken c.args.reply.now c.loop-i.e c.in-Some.s c.domain_at.ensures.name c.in-Some.is) c.add_once-names.ensures c.next_entry-e.ensures

pub returns : goal.returns
returns c =
    going_end c.args.reply.now c.unit_at-n.result c.loop-i.names c.loop-i.e c.loop-i.i c.loop-i.invariant (omega arith)
