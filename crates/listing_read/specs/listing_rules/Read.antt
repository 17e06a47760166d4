-- When a text is a listing, and the cache that it is read into: document 01, "The listing" and "Numbers given back".
use Rattle.std.specs.Prelude.{ℕ, ◌-◌, Bool, true, false, ◌&&◌, not, List, [], ◌∷◌, ◌++◌, map, length, replicate, leb, ltb, eqb}
use Rattle.laws.specs.Choice.{choose}
use Rattle.laws.specs.Lists.{every}
use Rattle.laws.specs.Listed.{same_list}
use Rattle.cache.specs.places.Layout.{place_count}
use Rattle.cache.specs.order.Entries.{Referral, Place, free, used}
use Rattle.cache.specs.order.Order.{good_referral, distinct}
use Rattle.cache.specs.order.Memory.{referrals, right_size, decode, encode, in_order}
use Rattle.listing_write.specs.Form.{listing}
use Rattle.listing_spelling.specs.unspell.Reading.{unit}
use Rattle.listing_read.specs.listing_rules.Entries.{entries_said}

-- a number of 32 bits
unfoldable pub number : ℕ → Bool
number n = ltb n 4294967296

-- an entry with one set
unfoldable pub one_set : Referral → Bool
one_set e = every (λ t. not t.opens) e.targets

-- an entry that a cache may hold and a listing can say
unfoldable pub listable : Referral → Bool
listable e =
    good_referral e
    && (one_set e && (number e.settings.ttl && (number e.settings.taken && (every unit e.prefix && every (λ t. every unit t.path) e.targets))))

-- entries in order: each listable, and no two prefixes equal
unfoldable pub listables : List Referral → Bool
listables es = every listable es && distinct (map (λ e. e.prefix) es)

-- "listing not of the form below, or its entries not in order" is what this excludes: the text is what its entries list, and they are in order
unfoldable pub is_listing : List ℕ → Bool
is_listing text = same_list (listing (map used (entries_said text))) text && listables (entries_said text)

-- "Reading fills places from 0"
unfoldable pub placed : ℕ → List Referral → List (Place Referral)
placed n es = map used es ++ replicate (n - length es) free

-- "Of a cache that a call only overwrites, only the number of places is tested": 4, then 8, then 9, else 0
unfoldable pub read_number : List ℕ → List ℕ → ℕ
read_number text raw = choose (right_size raw) (choose (is_listing text) (choose (leb (length (entries_said text)) (place_count raw)) 0 9) 8) 4

-- the cache after it; "a refusal changes nothing"
unfoldable pub read_after : List ℕ → List ℕ → List ℕ
read_after text raw = choose (eqb (read_number text raw) 0) (encode referrals (placed (place_count raw) (entries_said text))) raw

-- Words of the theorems: the entries that places hold
unfoldable pub entries_in : List (Place Referral) → List Referral
entries_in [] = []
entries_in (free ∷ ps) = entries_in ps
entries_in (used e ∷ ps) = e ∷ entries_in ps

-- every place is free
unfoldable pub all_free : List (Place Referral) → Bool
all_free [] = true
all_free (free ∷ ps) = all_free ps
all_free (used e ∷ ps) = false

-- "no gap before an entry"
unfoldable pub no_gaps : List (Place Referral) → Bool
no_gaps [] = true
no_gaps (free ∷ ps) = all_free ps
no_gaps (used e ∷ ps) = no_gaps ps

-- memory of 16-bit units that is a referral cache in order, "with one set each and no gap before an entry"
unfoldable pub plain_cache : List ℕ → Bool
plain_cache raw =
    in_order referrals raw && (every unit raw && (no_gaps (decode referrals raw) && every one_set (entries_in (decode referrals raw))))
