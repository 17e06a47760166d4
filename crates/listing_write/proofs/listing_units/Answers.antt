use mathlib.Core.Path.{ap}
use native.Mathlib.Omega.{arith}
use lib.ListN.{length}
use Rattle.cache.specs.places.Layout.{place_at}
use Rattle.cache.specs.order.Memory.{referral_of}
use Rattle.listing_write.proofs.FormLaws.{head_bound, length_entry, places_start, places_free, places_units, places_end}
use Rattle.listing_write.proofs.UsedLaws.{seen_free, seen_used}
use Rattle.listing_write.proofs.listing_units.Goals as goal
use Rattle.listing_write.proofs.listing_units.Goals.{then-unit-ne0, else-unit-ne0}

pub loop-i-init : goal.loop-i-init
loop-i-init c = (omega arith, omega (arith, ap length (places_start c.args.cache.now)))

pub overflow_add-n : goal.overflow_add-n
overflow_add-n c = omega (arith, c.targets_units.ensures.few, c.head_units.ensures, head_bound (place_at c.loop-i.i c.args.cache.now))

pub overflow_add-n-then-unit-ne0 : goal.overflow_add-n-then-unit-ne0
overflow_add-n-then-unit-ne0 c = omega (arith, c.targets_units.ensures.few, c.head_units.ensures, head_bound (place_at c.loop-i.i c.args.cache.now), c.loop-i.invariant.0)

pub loop-i-preserved : goal.loop-i-preserved
loop-i-preserved c =
    let raw = c.args.cache.now in
    let i = c.loop-i.i in
    elim c.if-unit-ne0.branch [
      | then-unit-ne0 w ↦
          let h = w.head_units.ensures in
          let t = w.targets_units.ensures in
          let b = head_bound (place_at i raw) in
          let u = places_units i raw (omega arith) (seen_used c.unit.ensures w.if-unit-ne0.true) in
          let e = length_entry (referral_of (place_at i raw)) in
          (omega (arith, t.few, w.n-is), omega (arith, c.loop-i.invariant.1, t.units, w.n-is))
      | else-unit-ne0 w ↦
          let u = ap length (places_free i raw (omega arith) (seen_free c.unit.ensures w.if-unit-ne0.false)) in
          (omega (arith, w.n-is), omega (arith, c.loop-i.invariant.1, w.n-is))
    ]

pub returns : goal.returns
returns c = omega (arith, c.loop-i.invariant.1, ap length (places_end c.loop-i.i c.args.cache.now (omega arith)))
