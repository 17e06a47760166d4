-- The caches in lent memory (the layout is that of `cache::places`): reading a place as an entry, writing an entry, and order.
use Rattle.std.specs.Prelude.{ℕ, ◌+◌, ◌*◌, Bool, true, ◌&&◌, length, leb, eqb}
use mathlib.Core.List.{List, [], ◌∷◌, ◌++◌, map, flatten}
use Rattle.laws.specs.Choice.{choose}
use Rattle.laws.specs.Lists.{every}
use Rattle.laws.specs.Listed.{listed, same_list}
use Rattle.cache.specs.places.Layout.{place_count, place_at, unit_at, wide_at, wide_units, flag_at, flag_unit, text_at, list_count, blank, written, hint_unit, mark_units, root_unit, interlink_unit, failback_unit, ttl_unit, taken_unit, place_units}
use Rattle.unc.specs.names.Paths.{Target}
use Rattle.cache.specs.order.Entries.{Settings, Referral, Domain, Place, free, used}
use Rattle.cache.specs.order.Order.{good_referral, good_domain, distinct}

-- target j of a place: text 1 + j, and mark j
unfoldable pub target_of : ℕ → List ℕ → Target
target_of j piece = record { path = text_at (1 + j) piece; opens = flag_at (mark_units + j) piece }

-- the settings that a place holds
unfoldable pub settings_at : List ℕ → Settings
settings_at piece = record {
  root = flag_at root_unit piece;
  interlink = flag_at interlink_unit piece;
  failback = flag_at failback_unit piece;
  ttl = wide_at ttl_unit piece;
  taken = wide_at taken_unit piece;
}

-- and the units that write them, from that of root on
unfoldable pub settings_units : Settings → List ℕ
settings_units s = flag_unit s.root ∷ flag_unit s.interlink ∷ flag_unit s.failback ∷ (wide_units s.ttl ++ wide_units s.taken)

-- a place read as a referral entry
unfoldable pub referral_of : List ℕ → Referral
referral_of piece = record {
  prefix = text_at 0 piece;
  settings = settings_at piece;
  targets = listed (list_count piece) (λ j. target_of j piece);
  hint = unit_at hint_unit piece;
}

-- the place that a referral entry writes
unfoldable pub referral_units : Referral → List ℕ
referral_units e =
    written (e.prefix ∷ map (λ t. t.path) e.targets) e.hint (map (λ t. flag_unit t.opens) e.targets) (settings_units e.settings)

-- a place read as a domain entry
unfoldable pub domain_of : List ℕ → Domain
domain_of piece = record { name = text_at 0 piece; dcs = listed (list_count piece) (λ j. text_at (1 + j) piece); hint = unit_at hint_unit piece }

-- the place that a domain entry writes: no marks and no settings
unfoldable pub domain_units : Domain → List ℕ
domain_units d = written (d.name ∷ d.dcs) d.hint [] []

-- the most places of a cache
abbrev pub most_places : ℕ
most_places = 32

-- 1 to 32 places, and no part of one left over. Of a cache that a call only overwrites this alone is tested.
unfoldable pub right_size : List ℕ → Bool
right_size raw = leb 1 (place_count raw) && (leb (place_count raw) most_places && eqb (place_count raw * place_units) (length raw))

-- what differs between the two caches: how a place is read and written, the key, and when an entry is good
pub record Kind (E : Type 0) : Type 0 where
  pub reads : List ℕ → E
  pub writes : E → List ℕ
  pub key : E → List ℕ
  pub good : E → Bool

-- the referral cache
abbrev pub referrals : Kind Referral
referrals = record { reads = referral_of; writes = referral_units; key = λ e. e.prefix; good = good_referral }

-- the domain cache
abbrev pub domains : Kind Domain
domains = record { reads = domain_of; writes = domain_units; key = λ d. d.name; good = good_domain }

module _ {E : Type 0} (k : Kind E) where
  -- a place is free where its key has no unit
  unfoldable pub place_of : List ℕ → Place E
  place_of piece = choose (eqb (unit_at 0 piece) 0) free (used (k.reads piece))

  -- the units of a place
  unfoldable pub piece_of : Place E → List ℕ
  piece_of free = blank
  piece_of (used e) = k.writes e

  -- the places that the memory holds
  unfoldable pub decode : List ℕ → List (Place E)
  decode raw = listed (place_count raw) (λ i. place_of (place_at i raw))

  -- the memory that holds these places
  unfoldable pub encode : List (Place E) → List ℕ
  encode ps = flatten (map piece_of ps)

  -- "every entry meets this"
  unfoldable pub good_place : Place E → Bool
  good_place free = true
  good_place (used e) = k.good e

  -- the prefixes (or names) that are held
  unfoldable pub keys : List (Place E) → List (List ℕ)
  keys [] = []
  keys (free ∷ ps) = keys ps
  keys (used e ∷ ps) = k.key e ∷ keys ps

  -- 1 to 32 places, good entries, no two keys equal
  unfoldable pub good_cache : List (Place E) → Bool
  good_cache ps = leb 1 (length ps) && (leb (length ps) most_places && (every good_place ps && distinct (keys ps)))

  -- in order: what is held is good, and the memory is exactly what that writes: no part of a place is left over, and unused room is zero
  unfoldable pub in_order : List ℕ → Bool
  in_order raw = good_cache (decode raw) && same_list (encode (decode raw)) raw
