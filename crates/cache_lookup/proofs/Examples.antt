-- Document 01's examples of the clock, marked P.
use Rattle.std.proofs.Common.{◌≡◌, ℕ, true, false, [], refl}
use Rattle.cache.specs.order.Entries.{Referral}
use Rattle.cache_lookup.specs.Lookup.{age, expired}

-- an entry with this TTL, taken at this time
abbrev pub dated : ℕ → ℕ → Referral
dated ttl taken = record {
  prefix = [];
  settings = record {
    root = true;
    interlink = false;
    failback = false;
    ttl = ttl;
    taken = taken;
  };
  targets = [];
  hint = 0;
}

-- taken 4294967290, now 4: TTL 10 is expired, TTL 11 is not
pub rolled_over : age 4 4294967290 ≡ 10
unfolding age
rolled_over = refl

pub ten_expired : expired 4 (dated 10 4294967290) ≡ true
unfolding expired age
ten_expired = refl

pub eleven_not : expired 4 (dated 11 4294967290) ≡ false
unfolding expired age
eleven_not = refl

-- taken 100, now 99
pub nearly_round : age 99 100 ≡ 4294967295
unfolding age
nearly_round = refl

-- TTL 0
pub zero_expired : expired 100 (dated 0 100) ≡ true
unfolding expired age
zero_expired = refl
