-- Finding an entry, its age, the place of a new one, and hints: document 01, "Paths" and "The two caches".
use Rattle.std.specs.Prelude.{ℕ, ◌+◌, ◌-◌, ◌%◌, ◌^◌, Bool, false, ◌&&◌, List, [], ◌∷◌, length, get_or, nat_le, nat_lt, slice_index_or, slice_set, Option, Some, None}
use Rattle.laws.specs.Choice.{choose}
use Rattle.unc.specs.names.Names.{same_name}
use Rattle.unc.specs.names.Paths.{matches}
use Rattle.cache.specs.order.Entries.{Referral, Domain, Place, free, used}
use Rattle.cache.specs.order.Memory.{Kind}

-- a place whose prefix matches the path and has more than n units
unfoldable pub longer_match : List ℕ → ℕ → Place Referral → Bool
longer_match path n free = false
longer_match path n (used e) = nat_lt n (length e.prefix) && matches e.prefix path

-- how long its prefix is
unfoldable pub prefix_units : Place Referral → ℕ
prefix_units free = 0
prefix_units (used e) = length e.prefix

-- of the places from number i on, that of the longest matching prefix, where `best` of n units was found before
unfoldable pub longest_from : List ℕ → ℕ → Option ℕ → ℕ → List (Place Referral) → Option ℕ
longest_from path i best n [] = best
longest_from path i best n (p ∷ ps) =
    longest_from path (i + 1) (choose (longer_match path n p) (Some i) best) (choose (longer_match path n p) (prefix_units p) n) ps

-- "the longest match is used"
unfoldable pub longest_match : List ℕ → List (Place Referral) → Option ℕ
longest_match path ps = longest_from path 0 None 0 ps

-- looking up by an equal prefix (or name), not by the longest match
module _ {E : Type 0} (k : Kind E) where
  -- a place whose entry has it
  unfoldable pub has_key : List ℕ → Place E → Bool
  has_key name free = false
  has_key name (used e) = same_name (k.key e) name

  -- the first such place, counted from number i
  unfoldable pub with_key_from : List ℕ → ℕ → List (Place E) → Option ℕ
  with_key_from name i [] = None
  with_key_from name i (p ∷ ps) = choose (has_key name p) (Some i) (with_key_from name (i + 1) ps)

  -- the first of all
  unfoldable pub with_key : List ℕ → List (Place E) → Option ℕ
  with_key name ps = with_key_from name 0 ps

-- "An entry's age is now minus taken, modulo 2^32; it is expired when its age is TTL or more"
unfoldable pub age : ℕ → ℕ → ℕ
age clock taken = (clock + (2 ^ 32 - taken)) % 2 ^ 32

-- of an entry
unfoldable pub expired : ℕ → Referral → Bool
expired clock e = nat_le e.settings.ttl (age clock e.settings.taken)

-- the lowest free place, counted from number i
unfoldable pub first_free_from : ℕ → List (Place Referral) → Option ℕ
first_free_from i [] = None
first_free_from i (free ∷ ps) = Some i
first_free_from i (used e ∷ ps) = first_free_from (i + 1) ps

-- the age of what a place holds
unfoldable pub place_age : ℕ → Place Referral → ℕ
place_age clock free = 0
place_age clock (used e) = age clock e.settings.taken

-- of the places from number i on, the first of greatest age, where the place `best` of age n was found before
unfoldable pub oldest_from : ℕ → ℕ → ℕ → ℕ → List (Place Referral) → ℕ
oldest_from clock i best n [] = best
oldest_from clock i best n (p ∷ ps) =
    oldest_from clock (i + 1) (choose (nat_lt n (place_age clock p)) i best) (choose (nat_lt n (place_age clock p)) (place_age clock p) n) ps

-- "the entry of greatest age, lowest place among equals"
unfoldable pub oldest : ℕ → List (Place Referral) → ℕ
oldest clock ps = oldest_from clock 0 0 0 ps

-- what was found, or else another place
unfoldable pub found_or : ℕ → Option ℕ → ℕ
found_or other (Some i) = i
found_or other None = other

-- "A new referral entry goes to the lowest free place; if none, to that of the entry of greatest age"
unfoldable pub new_place : ℕ → List (Place Referral) → ℕ
new_place clock ps = found_or (oldest clock ps) (first_free_from 0 ps)

-- target number j of an entry
unfoldable pub target_path : ℕ → Referral → List ℕ
target_path j e = (get_or e.targets j (record { path = []; opens = false })).path

-- DC number j of an entry
unfoldable pub dc_name : ℕ → Domain → List ℕ
dc_name j d = slice_index_or d.dcs j []

-- the entry of a place changed
unfoldable pub on_entry : {E : Type 0} → (E → E) → Place E → Place E
on_entry f free = free
on_entry f (used e) = used (f e)

-- an entry with TargetHint h
unfoldable pub target_hint_to : ℕ → Referral → Referral
target_hint_to h e = record { prefix = e.prefix; settings = e.settings; targets = e.targets; hint = h }

-- an entry with DCHint h
unfoldable pub dc_hint_to : ℕ → Domain → Domain
dc_hint_to h d = record { name = d.name; dcs = d.dcs; hint = h }

-- the cache with TargetHint h at place i
unfoldable pub target_hinted : ℕ → ℕ → List (Place Referral) → List (Place Referral)
target_hinted i h ps = slice_set ps i (on_entry (target_hint_to h) (slice_index_or ps i free))

-- the cache with DCHint h at place i
unfoldable pub dc_hinted : ℕ → ℕ → List (Place Domain) → List (Place Domain)
dc_hinted i h ps = slice_set ps i (on_entry (dc_hint_to h) (slice_index_or ps i free))
