-- Shapes of the code, proved equal to the rules; nothing here is to be believed.
use Rattle.std.specs.Prelude.{ℕ, ◌+◌, ◌-◌, Bool, true, ◌&&◌, ◌||◌, not, List, [], ◌∷◌, leb, eqb, drop}
use Rattle.laws.specs.Choice.{choose}
use Rattle.laws.specs.Lists.{every}
use Rattle.laws.specs.Listed.{listed, same_list}
use Rattle.unc.specs.names.Names.{same_name, good_name}
use Rattle.cache.specs.places.Layout.{place_count, place_at, unit_at, text_at, mark_units, ttl_unit}
use Rattle.cache.specs.places.Code.{place_texts}
use Rattle.cache.specs.order.Order.{good_prefix}
use Rattle.cache.specs.order.Memory.{referrals, domains, in_order, Kind, good_place, place_of, piece_of}

module _ {E : Type 0} (k : Kind E) where
  -- one place is in order: what it holds is good, and its units are exactly what that writes
  unfoldable pub ordered : List ℕ → Bool
  ordered piece = good_place k (place_of k piece) && same_list (piece_of k (place_of k piece)) piece

-- Words of the tests that the order test is made of; they go by the units of one place, or of the whole memory.

-- a text that the domain cache, or else the referral cache, may hold as a key or in a list
unfoldable pub good_text : Bool → List ℕ → Bool
good_text domain t = choose domain (good_name t) (good_prefix t)

-- the key and the list of a place
unfoldable pub good_texts : Bool → List ℕ → Bool
good_texts domain piece = every (good_text domain) (place_texts piece)

-- the set boundaries, root, Interlink and TargetFailback are 0 or 1
unfoldable pub good_flags : List ℕ → Bool
good_flags piece = every (λ u. leb u 1) (listed (ttl_unit - mark_units) (λ j. unit_at (mark_units + j) piece))

-- the order of one place of the domain cache, or else of the referral cache
unfoldable pub ordered_as : Bool → List ℕ → Bool
ordered_as domain piece = choose domain (ordered domains piece) (ordered referrals piece)

-- of every place
unfoldable pub all_ordered : Bool → List ℕ → Bool
all_ordered domain raw = every (ordered_as domain) (listed (place_count raw) (λ i. place_at i raw))

-- of the memory
unfoldable pub in_order_as : Bool → List ℕ → Bool
in_order_as domain raw = choose domain (in_order domains raw) (in_order referrals raw)

-- a place with another key
unfoldable pub other_key : List ℕ → List ℕ → Bool
other_key key piece = not (same_name key (text_at 0 piece))

-- place i is free, or has the key of no later place
unfoldable pub key_apart : List ℕ → ℕ → Bool
key_apart raw i =
    eqb (unit_at 0 (place_at i raw)) 0 || every (other_key (text_at 0 (place_at i raw))) (drop (i + 1) (listed (place_count raw) (λ j. place_at j raw)))

-- the same of each place
unfoldable pub apart : List (List ℕ) → Bool
apart [] = true
apart (p ∷ ps) = (eqb (unit_at 0 p) 0 || every (other_key (text_at 0 p)) ps) && apart ps

-- of the memory's places
unfoldable pub keys_apart : List ℕ → Bool
keys_apart raw = apart (listed (place_count raw) (λ i. place_at i raw))
