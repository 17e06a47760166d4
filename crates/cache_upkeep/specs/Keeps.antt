-- What the calls that tend a cache keep: a refused call is the identity, the cache stays in order, every entry that is not meant stays as it was.
use Rattle.std.specs.Prelude.{ℕ, ◌≡◌, true, List, get_or, Ok, Some}
use Rattle.unc.specs.names.Paths.{normalised}
use Rattle.cache.specs.order.Entries.{Referral, free, used}
use Rattle.cache.specs.order.Memory.{Kind, referrals, domains, decode, in_order}
use Rattle.cache_lookup.specs.Lookup.{with_key, expired}
use Rattle.cache_upkeep.specs.Calls.{Upkept, expire_all_call, expire_call, next_dc_call}

-- of every call, over a cache of either kind
pub record Keeps {E : Type 0} (k : Kind E) (raw : List ℕ) (u : Upkept) : Type 0 where
  pub refused : (u.answer ≡ Ok tt → ⊥) → u.cache ≡ raw
  pub order : in_order k raw ≡ true → in_order k u.cache ≡ true

-- of a call that means the entry of an equal key: every other entry stays
pub record KeepsOthers {E : Type 0} (k : Kind E) (key raw : List ℕ) (u : Upkept) : Type 0 where
  pub keeps : Keeps k raw u
  pub others : (j : ℕ) → (with_key k key (decode k raw) ≡ Some j → ⊥) → get_or (decode k u.cache) j free ≡ get_or (decode k raw) j free

-- the three calls: what is expired is so at every clock
pub record UpkeepKeeps : Type 0 where
  pub all : (raw : List ℕ) → Keeps referrals raw (expire_all_call raw)
  pub all_expired : (raw : List ℕ) → (expire_all_call raw).answer ≡ Ok tt → (j clock : ℕ) (e : Referral)
      → get_or (decode referrals (expire_all_call raw).cache) j free ≡ used e → expired clock e ≡ true
  pub one : (raw path : List ℕ) → KeepsOthers referrals (normalised path) raw (expire_call raw path)
  pub one_expired : (raw path : List ℕ) → (expire_call raw path).answer ≡ Ok tt → (j clock : ℕ) (e : Referral)
      → with_key referrals (normalised path) (decode referrals raw) ≡ Some j → get_or (decode referrals (expire_call raw path).cache) j free ≡ used e
      → expired clock e ≡ true
  pub moved : (raw name : List ℕ) → KeepsOthers domains name raw (next_dc_call raw name)
