use mathlib.Core.Path.{refl}
use Prim.Native.Nat.{◌+◌}
use native.Mathlib.Omega.{arith}
use Rattle.cache.specs.places.Layout.{place_at}
use Rattle.cache.specs.order.Memory.{referral_of}
use Rattle.listing_spelling.proofs.spell.PutLaws.{left_start, left_next, left_done}
use Rattle.listing_write.specs.Form.{entry_text}
use Rattle.listing_write.proofs.FormLaws.{left_fits, places_left, places_start, places_free, places_used, places_end}
use Rattle.listing_write.proofs.EntryLaws.{left_same}
use Rattle.listing_write.proofs.UsedLaws.{seen_free, seen_used}
use Rattle.listing_write.proofs.put_listing.Goals as goal
use Rattle.listing_write.proofs.put_listing.Goals.{then-unit-ne0, else-unit-ne0}

pub loop-i-init : goal.loop-i-init
loop-i-init c = (refl, left_same (places_start c.args.cache.now) (left_start _ 0 _ (omega (arith, c.requires))))

pub put_entry-end-requires : goal.put_entry-end-requires
put_entry-end-requires c =
    let raw = c.args.cache.now in
    let l = c.loop-i in
    let u = places_used l.i raw (omega arith) (seen_used c.unit.ensures c.if-unit-ne0.true) in
    (omega arith, left_fits (entry_text (referral_of (place_at l.i raw))) (places_left (l.i + 1) raw) l.invariant.1 u)

pub loop-i-preserved : goal.loop-i-preserved
loop-i-preserved c =
    let raw = c.args.cache.now in
    let l = c.loop-i in
    elim c.if-unit-ne0.branch [
      | then-unit-ne0 w ↦
          rw (w.out-is, w.end-is) (omega arith, left_next _ _ l.invariant.1 (places_used l.i raw (omega arith) (seen_used c.unit.ensures w.if-unit-ne0.true)) w.put_entry-end.ensures)
      | else-unit-ne0 w ↦
          rw (w.out-is, w.end-is) (omega arith, left_same (places_free l.i raw (omega arith) (seen_free c.unit.ensures w.if-unit-ne0.false)) l.invariant.1)
    ]

pub returns : goal.returns
returns c = left_done _ _ _ c.loop-i.invariant.1 refl refl (places_end c.loop-i.i c.args.cache.now (omega arith))
