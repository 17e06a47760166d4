-- Shapes of the code, proved equal to the rules; nothing here is to be believed.
use Rattle.std.specs.Prelude.{◌≡◌, ℕ, ◌+◌, ◌/◌, ◌%◌, Bool, false, not, ◌&&◌, List, [], ◌∷◌, drop, ◌==◌, slice_index, slice_index_or, Option, Some, None}
use Rattle.laws.specs.Choice.{choose}
use Rattle.laws.specs.Listed.{listed}
use Rattle.unc.specs.names.Names.{same_name}
use Rattle.cache.specs.places.Layout.{place_at, place_count, unit_at, text_at}
use Rattle.cache.specs.order.Entries.{Referral, Place}
use Rattle.cache.specs.order.Memory.{Kind, referrals, decode}
use Rattle.cache_lookup.specs.Lookup.{longest_from, has_key, on_entry}

module _ {E : Type 0} (k : Kind E) where
  -- the entry at place i of the memory
  unfoldable pub entry_at : ℕ → List ℕ → E
  entry_at i raw = k.reads (place_at i raw)

  -- the entry of this prefix (or name) changed by f; all else as it was
  unfoldable pub on_key : List ℕ → (E → E) → List (Place E) → List (Place E)
  on_key name f [] = []
  on_key name f (p ∷ ps) = choose (has_key k name p) (on_entry f p ∷ ps) (p ∷ on_key name f ps)

-- whether a set opens before target number j of an entry
unfoldable pub target_opens : ℕ → Referral → Bool
target_opens j e = (slice_index_or e.targets j (record { path = []; opens = false })).opens

-- Words of the search for an equal key; they go by the units of a place, whatever its cache.

-- the place that is used and has this key
unfoldable pub key_is : List ℕ → List ℕ → Bool
key_is name piece = not (unit_at 0 piece == 0) && same_name (text_at 0 piece) name

unfoldable pub key_place_from : List ℕ → ℕ → List (List ℕ) → Option ℕ
key_place_from name i [] = None
key_place_from name i (p ∷ ps) = choose (key_is name p) (Some i) (key_place_from name (i + 1) ps)

unfoldable pub key_place : List ℕ → List ℕ → Option ℕ
key_place name raw = key_place_from name 0 (listed (place_count raw) (λ i. place_at i raw))

-- Words of the search for the longest match: what the last units of a prefix tell, and which places are passed over by them.

-- a number of four units has the five low bits of the units from k on
pub record LowBits (s : List ℕ) (k four : ℕ) : Type 0 where
  pub first : four % 32 ≡ slice_index s k % 32
  pub second : four / 65536 % 32 ≡ slice_index s (k + 1) % 32
  pub third : four / 4294967296 % 32 ≡ slice_index s (k + 2) % 32
  pub fourth : four / 281474976710656 % 32 ≡ slice_index s (k + 3) % 32

-- whatever was found before, a search from place i on finds what one from place j on does
pub record Passed (raw path : List ℕ) (i j : ℕ) : Type 0 where
  pub same : (best : Option ℕ) (n : ℕ) → longest_from path i best n (drop i (decode referrals raw)) ≡ longest_from path j best n (drop j (decode referrals raw))
