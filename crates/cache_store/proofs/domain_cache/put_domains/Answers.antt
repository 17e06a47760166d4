use mathlib.Core.List.{map}
use native.Mathlib.Omega.{arith}
use lib.ListN.{length-map}
use Rattle.laws.proofs.Every.{every_at}
use Rattle.laws.proofs.Listed.{get_d_map}
use Rattle.reply_bytes.specs.texts.Code.{spanned}
use Rattle.cache.proofs.order.MemoryLaws.{size_told}
use Rattle.cache_store.specs.domain_cache.Code.{good_name_span}
use Rattle.cache_store.proofs.domain_cache.DcLaws.{fits_room, all_good}
use Rattle.cache_store.proofs.domain_cache.NamesLaws.{all_free_lem, name_put, names_put}
use borrow.Author.Rules.{rules}
use Rattle.cache.specs.places.Layout.{place_count}
use Rattle.cache_store.proofs.domain_cache.put_domains.Goals as goal

pub loop-i-init : goal.loop-i-init
loop-i-init c = (search rules, all_free_lem c.args.cache.now c.requires.0 c.clear_units.ensures)

pub add_text-requires : goal.add_text-requires
add_text-requires c =
    let m = (size_told c.args.cache.now c.requires.0).most in
    (omega arith, (omega arith, fits_room c.args.reply.now _ (every_at (good_name_span c.args.reply.now) c.args.names.now c.requires.1.1 c.loop-i.i _ (omega arith))))

pub loop-i-preserved : goal.loop-i-preserved
loop-i-preserved c =
    let m = (size_told c.args.cache.now c.requires.0).most in
    let n = length-map c.args.names.now (spanned c.args.reply.now) in (
      omega arith,
      name_put (place_count c.args.cache.now) c.loop-i.i (map (spanned c.args.reply.now) c.args.names.now)
          (all_good c.args.reply.now c.args.names.now c.requires.1.1) (omega arith) (omega arith) _
          (get_d_map (spanned c.args.reply.now) c.args.names.now c.loop-i.i _ _ (omega arith))
          c.loop-i.invariant.1 c.add_text.ensures,
    )

pub returns : goal.returns
returns c =
    let m = (size_told c.args.cache.now c.requires.0).most in
    let n = length-map c.args.names.now (spanned c.args.reply.now) in
    names_put (place_count c.args.cache.now) (map (spanned c.args.reply.now) c.args.names.now) c.loop-i.i
    c.loop-i.invariant.1 (omega arith)
