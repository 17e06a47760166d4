-- Laws of ages and of the place that a new entry takes.
use Rattle.std.specs.Prelude.{Some, None}
use Rattle.std.proofs.Common.{◌≡◌, ℕ, suc, ◌+◌, ◌%◌, ◌^◌, ◌<◌, ◌≤◌, ltb, leb, List, ◌∷◌, drop, sym, refl, ap, ◌∙◌, add-one, arith, le-ltb, lt-ltb, ne_eqb}
use Rattle.laws.specs.Choice.{choose}
use Rattle.laws.proofs.Choices.{choose_yes, choose_no}
use Rattle.cache.specs.places.Layout.{place_count, place_at, unit_at, wide_at, ttl_unit, taken_unit}
use Rattle.cache.specs.order.Entries.{Referral, Place}
use Rattle.cache.specs.order.Memory.{referrals, referral_of, place_of, decode, settings_at}
use Rattle.cache_lookup.specs.Code.{entry_at}
use Rattle.cache_lookup.specs.Lookup.{age, expired, first_free_from, place_age, oldest_from, oldest}
use Rattle.cache.proofs.order.MemoryLaws.{place_free, place_used, drop_decode, drop_decode_end}

-- a difference that wraps is an age
pub age_wraps : (r clock taken : ℕ) → (r + taken) % 2 ^ 32 ≡ clock → r < 2 ^ 32 → taken < 2 ^ 32 → r ≡ age clock taken
unfolding age
age_wraps r clock taken e h u = omega arith

pub entry_ttl : (raw : List ℕ) (i : ℕ) {r : ℕ} → r ≡ wide_at ttl_unit (place_at i raw) → r ≡ (entry_at referrals i raw).settings.ttl
unfolding entry_at referral_of settings_at
entry_ttl raw i e = e

pub entry_taken : (raw : List ℕ) (i : ℕ) {r : ℕ} → r ≡ wide_at taken_unit (place_at i raw) → r ≡ (entry_at referrals i raw).settings.taken
unfolding entry_at referral_of settings_at
entry_taken raw i e = e

module _ (clock : ℕ) (raw : List ℕ) (i : ℕ) where
  pub entry_expired : {t l a : ℕ} → l ≡ (entry_at referrals i raw).settings.ttl → t ≡ (entry_at referrals i raw).settings.taken → a ≡ age clock t
      → leb l a ≡ expired clock (entry_at referrals i raw)
  unfolding expired
  entry_expired el et ea = λ j. leb (el j) ((ea ∙ ap (age clock) et) j)

  pub age_free : {u : ℕ} → u ≡ unit_at 0 (place_at i raw) → u ≡ 0 → 0 ≡ place_age clock (place_of referrals (place_at i raw))
  unfolding place_age
  age_free e h = rw (place_free referrals (place_at i raw) (sym e ∙ h))

  pub age_used : {u t a : ℕ} → u ≡ unit_at 0 (place_at i raw) → (u ≡ 0 → ⊥) → t ≡ (entry_at referrals i raw).settings.taken → a ≡ age clock t
      → a ≡ place_age clock (place_of referrals (place_at i raw))
  unfolding place_age entry_at
  age_used e n et ea = ea ∙ (ap (age clock) et ∙ ap (place_age clock) (sym (place_used referrals (place_at i raw) (ne_eqb (unit_at 0 (place_at i raw)) 0 (λ z. n (e ∙ z))))))

-- the loop that finds a free place
module _ (raw : List ℕ) (i : ℕ) where
  pub free_hit : {u : ℕ} → u ≡ unit_at 0 (place_at i raw) → u ≡ 0 → i < place_count raw → first_free_from i (drop i (decode referrals raw)) ≡ Some i
  unfolding first_free_from
  free_hit e h v = rw (drop_decode referrals raw i v, place_free referrals (place_at i raw) (sym e ∙ h))

  pub free_miss : {u : ℕ} → u ≡ unit_at 0 (place_at i raw) → (u ≡ 0 → ⊥) → i < place_count raw
      → first_free_from i (drop i (decode referrals raw)) ≡ first_free_from (i + 1) (drop (i + 1) (decode referrals raw))
  unfolding first_free_from
  free_miss e n v =
      ap (first_free_from i) (drop_decode referrals raw i v)
      ∙ (ap (λ (p : Place Referral). first_free_from i (p ∷ drop (suc i) (decode referrals raw)))
      (place_used referrals (place_at i raw) (ne_eqb (unit_at 0 (place_at i raw)) 0 (λ z. n (e ∙ z))))
      ∙ ap (λ (k : ℕ). first_free_from (i + 1) (drop k (decode referrals raw))) (sym (add-one i)))

  pub free_end : place_count raw ≤ i → first_free_from i (drop i (decode referrals raw)) ≡ None
  unfolding first_free_from
  free_end h = rw (drop_decode_end referrals raw i h)

-- the loop that finds the oldest entry
pub oldest_start : (clock : ℕ) (raw : List ℕ) → oldest clock (decode referrals raw) ≡ oldest_from clock 0 0 0 (drop 0 (decode referrals raw))
unfolding oldest
oldest_start clock raw = refl

module _ (clock : ℕ) (raw : List ℕ) (i best n : ℕ) where
  oldest_step : i < place_count raw → {a : ℕ} → a ≡ place_age clock (place_of referrals (place_at i raw))
      → oldest_from clock i best n (drop i (decode referrals raw))
      ≡ oldest_from clock (i + 1) (choose (ltb n a) i best) (choose (ltb n a) a n) (drop (i + 1) (decode referrals raw))
  unfolding oldest_from
  oldest_step u e =
      ap (oldest_from clock i best n) (drop_decode referrals raw i u)
      ∙ (λ j. oldest_from clock (i + 1) (choose (ltb n (sym e j)) i best) (choose (ltb n (sym e j)) (sym e j) n) (drop (sym (add-one i) j) (decode referrals raw)))

  module _ {a best' n' : ℕ} (e : a ≡ place_age clock (place_of referrals (place_at i raw))) where
    pub oldest_hit : n < a → best' ≡ i → n' ≡ a → i < place_count raw
        → oldest_from clock i best n (drop i (decode referrals raw)) ≡ oldest_from clock (i + 1) best' n' (drop (i + 1) (decode referrals raw))
    oldest_hit h p q u =
        oldest_step u e
        ∙ (λ j. oldest_from clock (i + 1) ((choose_yes i best (lt-ltb n a h) ∙ sym p) j) ((choose_yes a n (lt-ltb n a h) ∙ sym q) j) (drop (i + 1) (decode referrals raw)))

    pub oldest_miss : a ≤ n → best' ≡ best → n' ≡ n → i < place_count raw
        → oldest_from clock i best n (drop i (decode referrals raw)) ≡ oldest_from clock (i + 1) best' n' (drop (i + 1) (decode referrals raw))
    oldest_miss h p q u =
        oldest_step u e
        ∙ (λ j. oldest_from clock (i + 1) ((choose_no i best (le-ltb n a h) ∙ sym p) j) ((choose_no a n (le-ltb n a h) ∙ sym q) j) (drop (i + 1) (decode referrals raw)))

  pub oldest_end : place_count raw ≤ i → oldest_from clock i best n (drop i (decode referrals raw)) ≡ best
  unfolding oldest_from
  oldest_end h = rw (drop_decode_end referrals raw i h)
