-- Shapes of the code, proved equal to the rules; nothing here is to be believed.
use Rattle.std.specs.Prelude.{ℕ, List, length, leb}
use Rattle.laws.specs.Choice.{choose}
use Rattle.cache.specs.order.Memory.{referrals, in_order}
use Rattle.listing_write.specs.Listed.{listed_text}

-- the number of a listing: 4 before 10
unfoldable pub list_number : List ℕ → ℕ → ℕ
list_number raw room = choose (in_order referrals raw) (choose (leb (length (listed_text raw)) room) 0 10) 4
