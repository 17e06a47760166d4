-- Expiring referral entries, and moving a domain's DCHint: what each call answers and leaves of the cache.
use Rattle.std.specs.Prelude.{ℕ, ◌+◌, Bool, false, List, map, length, get_or, set, leb, ltb, Result, Ok, Err, ⊤, Option, Some, None}
use Rattle.laws.specs.Choice.{choose}
use Rattle.unc.specs.names.Paths.{good_path, normalised, path_units}
use Rattle.cache.specs.order.Entries.{Referral, Domain, Place, free, used}
use Rattle.cache.specs.order.Memory.{referrals, domains, decode, encode, in_order}
use Rattle.cache_lookup.specs.Lookup.{with_key, on_entry, dc_hint_to}
use Rattle.cache_upkeep.specs.declared.UpkeepError.{UpkeepError}
use Rattle.cache_upkeep.specs.declared.UpkeepError.TheVariants.{BadPath, LongPath, NotInOrder, NoEntry}

-- the numbers of refusals, as document 01 has them for a start and for an entry in use that is gone
unfoldable pub error_number : UpkeepError → ℕ
error_number BadPath = 1
error_number LongPath = 2
error_number NotInOrder = 4
error_number NoEntry = 27

-- the number of a call's answer: 0 where the call is done
unfoldable pub upkeep_number : Result ⊤ UpkeepError → ℕ
upkeep_number (Ok u) = 0
upkeep_number (Err e) = error_number e

-- an entry expired: "TTL 0: expired". All else of it stays, the time taken too
unfoldable pub expire_entry : Referral → Referral
expire_entry e = record {
  prefix = e.prefix;
  settings = record {
    root = e.settings.root;
    interlink = e.settings.interlink;
    failback = e.settings.failback;
    ttl = 0;
    taken = e.settings.taken;
  };
  targets = e.targets;
  hint = e.hint;
}

-- the number after j of n numbers from 0, round past the last
unfoldable pub dc_after : ℕ → ℕ → ℕ
dc_after j n = choose (leb n (j + 1)) 0 (j + 1)

-- a domain with DCHint at its next DC
unfoldable pub next_dc : Domain → Domain
next_dc d = dc_hint_to (dc_after d.hint (length d.dcs)) d

-- whether a place holds a domain that has a DC
unfoldable pub has_dc : Place Domain → Bool
has_dc free = false
has_dc (used d) = ltb 0 (length d.dcs)

-- the cache with the entry of place i changed, and no other
unfoldable pub entry_changed : {E : Type 0} → (E → E) → ℕ → List (Place E) → List (Place E)
entry_changed f i ps = set ps i (on_entry f (get_or ps i free))

-- what a call answers, and the cache as it leaves it
pub record Upkept : Type 0 where
  pub answer : Result ⊤ UpkeepError
  pub cache : List ℕ

abbrev pub upkept : Result ⊤ UpkeepError → List ℕ → Upkept
upkept answer cache = record { answer = answer; cache = cache }

-- `expire_all`: refusal 4
unfoldable pub expire_all_call : List ℕ → Upkept
expire_all_call raw =
    choose (in_order referrals raw)
    (upkept (Ok tt) (encode referrals (map (on_entry expire_entry) (decode referrals raw))))
    (upkept (Err NotInOrder) raw)

-- the entry that was found, expired; 27 where there is none
unfoldable pub found_expired : Option ℕ → List ℕ → Upkept
found_expired None raw = upkept (Err NoEntry) raw
found_expired (Some i) raw = upkept (Ok tt) (encode referrals (entry_changed expire_entry i (decode referrals raw)))

-- `expire`: refusals 4, then 1 and 2 as a start has them, then 27
unfoldable pub expire_call : List ℕ → List ℕ → Upkept
expire_call raw path =
    choose (in_order referrals raw)
    (choose (good_path path)
    (choose (leb (length (normalised path)) path_units)
    (found_expired (with_key referrals (normalised path) (decode referrals raw)) raw)
    (upkept (Err LongPath) raw))
    (upkept (Err BadPath) raw))
    (upkept (Err NotInOrder) raw)

-- the domain that was found, with DCHint at its next DC; 27 where there is none, or it has no DC
unfoldable pub found_moved : Option ℕ → List ℕ → Upkept
found_moved None raw = upkept (Err NoEntry) raw
found_moved (Some i) raw =
    choose (has_dc (get_or (decode domains raw) i free))
    (upkept (Ok tt) (encode domains (entry_changed next_dc i (decode domains raw))))
    (upkept (Err NoEntry) raw)

-- `next_dc`: refusals 4, then 27
unfoldable pub next_dc_call : List ℕ → List ℕ → Upkept
next_dc_call raw name =
    choose (in_order domains raw)
    (found_moved (with_key domains name (decode domains raw)) raw)
    (upkept (Err NotInOrder) raw)
