-- What the two caches hold: document 01, "The two caches".
use Rattle.std.specs.Prelude.{ℕ, Bool, List}
use Rattle.unc.specs.names.Paths.{Target}

-- the settings of a referral entry: root (else link), Interlink, TargetFailback, TTL and the time taken in seconds
pub record Settings : Type 0 where
  pub root : Bool
  pub interlink : Bool
  pub failback : Bool
  pub ttl : ℕ
  pub taken : ℕ

-- a referral entry, TargetHint as a place in the list
pub record Referral : Type 0 where
  pub prefix : List ℕ
  pub settings : Settings
  pub targets : List Target
  pub hint : ℕ

-- a domain entry: its DCs, and DCHint as a place in the list
pub record Domain : Type 0 where
  pub name : List ℕ
  pub dcs : List (List ℕ)
  pub hint : ℕ

-- a place of a cache
pub data Place (E : Type 0) : Type 0 where
  free : Place E
  used : E → Place E
