use mathlib.Core.List.{map}
use mathlib.Core.Path.{◌≡◌}
use Prim.Native.Nat.{◌-◌, ◌*◌, ◌≤◌}
use lib.ListN.{length, drop}
use Rattle.laws.specs.Lists.{pasted}
use Rattle.cache.specs.places.Layout.{place_count}
use Rattle.cache.specs.order.Entries.{used}
use Rattle.cache.specs.order.Memory.{referrals, encode}
use Rattle.listing_write.specs.Form.{listing}
use Rattle.listing_read.specs.listing_rules.Entries.{entries_said}
use Rattle.listing_read.specs.listing_rules.Read.{placed}
use Rattle.listing_read.proofs.fill_cache.fill.Given as goal

abbrev pub invariant-loop-at : goal.invariant-loop-at
invariant-loop-at l =
    (l.i ≤ length (entries_said l.text))
    × ((length l.refs ≡ length l.initial.refs)
    × ((drop l.at l.text ≡ listing (map used (drop l.i (entries_said l.text))))
    × (encode referrals (placed (place_count l.initial.refs) (entries_said l.text)) ≡ pasted l.refs (l.i * 2336) (encode referrals (placed (place_count l.initial.refs - l.i) (drop l.i (entries_said l.text)))))))

abbrev pub decreases-loop-at : goal.decreases-loop-at
decreases-loop-at l = length l.text - l.at
