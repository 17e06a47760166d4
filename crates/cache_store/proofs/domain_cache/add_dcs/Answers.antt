use mathlib.Core.List.{map}
use mathlib.Core.Path.{refl, ◌∙◌}
use native.Mathlib.Omega.{arith}
use lib.ListN.{length-map}
use Rattle.laws.proofs.Every.{every_at}
use Rattle.laws.proofs.Listed.{get_d_map}
use Rattle.reply_bytes.specs.texts.Code.{spanned}
use Rattle.cache_entry.specs.write_entry.Code.{add_dc}
use Rattle.cache_entry.proofs.write_entry.WritingLaws.{short_name, keeps_dc, all_more, all_done}
use Rattle.cache_store.specs.domain_cache.Code.{good_name_span}
use Rattle.cache_store.proofs.domain_cache.DcLaws.{fits_room, all_good, good_short, dc_added}
use Rattle.cache_store.proofs.domain_cache.add_dcs.Goals as goal

pub loop-n-init : goal.loop-n-init
loop-n-init c = (refl, refl)

pub add_text-requires : goal.add_text-requires
add_text-requires c =
    (omega arith, (omega arith, fits_room c.args.reply.now _ (every_at (good_name_span c.args.reply.now) c.args.dcs.now c.requires.1.1 c.loop-n.n _ (omega arith))))

pub loop-n-preserved : goal.loop-n-preserved
loop-n-preserved c = (
  omega arith,
  c.loop-n.invariant.1
      ∙ all_more add_dc short_name keeps_dc c.loop-n.cache c.args.i (omega arith) (map (spanned c.args.reply.now) c.args.dcs.now) c.loop-n.n _
      (omega (arith, length-map c.args.dcs.now (spanned c.args.reply.now)))
      (omega (arith, length-map c.args.dcs.now (spanned c.args.reply.now)))
      (good_short _ (all_good c.args.reply.now c.args.dcs.now c.requires.1.1))
      (get_d_map (spanned c.args.reply.now) c.args.dcs.now c.loop-n.n _ _ (omega arith))
      (dc_added c.args.i c.loop-n.n _ c.loop-n.cache c.add_text.ensures),
)

pub returns : goal.returns
returns c =
    all_done add_dc short_name keeps_dc c.loop-n.cache c.args.i (omega arith) c.loop-n.n (map (spanned c.args.reply.now) c.args.dcs.now)
    c.loop-n.invariant.1 (omega (arith, length-map c.args.dcs.now (spanned c.args.reply.now)))
