-- Shapes of the code, proved equal to the rules; nothing here is to be believed.
-- What is known of a reply and of a place where an entry is written.
use Rattle.std.specs.Prelude.{ℕ, ◌≤◌, ◌<◌, ◌≡◌, Bool, true, false, List, take}
use Rattle.laws.specs.Lists.{every}
use Rattle.cache.specs.places.Layout.{place_count, place_at}
use Rattle.cache.specs.places.Code.{changed}
use Rattle.cache.specs.order.Entries.{Domain}
use Rattle.cache.specs.order.Order.{good_referral}
use Rattle.cache.specs.order.Memory.{referrals, referral_units}
use Rattle.cache_lookup.specs.Code.{entry_at}
use Rattle.reply_bytes.specs.texts.Code.{Inside}
use Rattle.reply_read.specs.referral.Code.{referral_shown}
use Rattle.reply_read.specs.declared.referral.ReferralFound.{ReferralFound}
use Rattle.cache_entry.specs.equivalent_targets.Equivalence.{equivalent}
use Rattle.cache_entry.specs.write_entry.Code.{kept_fits}
use Rattle.cache_store.specs.entry_after_reply.Stored.{refreshed, fresh}

-- what a reply must be to be stored: its spans lie inside it, and the entry that it makes is good
pub record Storable (r : List ℕ) (f : ReferralFound) : Type 0 where
  pub inside : Inside r f.prefix
  pub few : f.targets ≤ 8
  pub kept : every (kept_fits r) (take f.targets f.kept) ≡ true
  pub good : good_referral (fresh (referral_shown r f) false 0) ≡ true

-- place i holds a good referral entry, and exactly it
pub record HeldEntry (i : ℕ) (raw : List ℕ) : Type 0 where
  pub fits : i < place_count raw
  pub good : good_referral (entry_at referrals i raw) ≡ true
  pub units : place_at i raw ≡ referral_units (entry_at referrals i raw)

-- whether the targets of the entry at place i are equivalent to those of the reply
abbrev pub equivalent_at : ℕ → List ℕ → List ℕ → ReferralFound → Bool
equivalent_at i raw r f = equivalent f.version (entry_at referrals i raw).targets (referral_shown r f).targets

-- the memory with the entry at place i refreshed, and with a new entry there
abbrev pub refreshed_at : ℕ → List ℕ → ReferralFound → Bool → ℕ → List ℕ → List ℕ
refreshed_at i r f interlink clock raw =
    changed i (λ q. referral_units (refreshed (entry_at referrals i raw) (referral_shown r f) interlink clock)) raw

abbrev pub inserted_at : ℕ → List ℕ → ReferralFound → Bool → ℕ → List ℕ → List ℕ
inserted_at i r f interlink clock raw = changed i (λ q. referral_units (fresh (referral_shown r f) interlink clock)) raw

-- a domain entry with the DCs of a reply, DCHint the first
unfoldable pub dcs_to : List (List ℕ) → Domain → Domain
dcs_to names d = record { name = d.name; dcs = names; hint = 0 }
