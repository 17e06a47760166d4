-- Laws of reading the fields of an entry in its place, and of setting its hint.
use Rattle.std.proofs.Common.{◌≡◌, ℕ, ◌+◌, ◌<◌, true, eqb, List, [], length, get_or, set, sym, refl, ap, ◌∙◌, inr, arith}
use Rattle.laws.proofs.Listed.{length_listed, get_d_listed}
use Rattle.cache.specs.places.Layout.{place_count, place_at, unit_at, flag_at, text_at, list_count, hint_unit, mark_units, root_unit, interlink_unit}
use Rattle.cache.specs.places.Code.{changed, put_unit}
use Rattle.cache.proofs.places.PutLaws.{put_hint}
use Rattle.unc.specs.names.Paths.{Target}
use Rattle.cache.specs.order.Entries.{Referral, Domain, Place, free, used}
use Rattle.cache.specs.order.Order.{good_referral, good_domain}
use Rattle.cache.specs.order.Memory.{Kind, referrals, domains, target_of, referral_of, settings_units, referral_units, domain_of, domain_units, decode, encode, in_order, settings_at}
use Rattle.cache_lookup.specs.Code.{entry_at, target_opens}
use Rattle.cache_lookup.specs.Lookup.{target_path, dc_name, on_entry, target_hint_to, dc_hint_to, target_hinted, dc_hinted}
use Rattle.cache.proofs.order.KindLaws.{referrals_lawful, domains_lawful, GoodReferral, referral_told, good_referral_lem, referral_shape, GoodDomain, domain_told, good_domain_lem, domain_shape}
use Rattle.cache.proofs.order.PlaceLaws.{hint_good}
use Rattle.cache.proofs.order.MemoryLaws.{Lawful}
use Rattle.cache_lookup.proofs.StoreLaws.{entry_good, entry_changed_lem, kept_in_order, listed_used}

module _ (raw : List ℕ) (i : ℕ) where
  pub read_prefix : {t : List ℕ} → t ≡ text_at 0 (place_at i raw) → t ≡ (entry_at referrals i raw).prefix
  unfolding entry_at referral_of settings_at
  read_prefix e = e

  pub read_root : {u : ℕ} → u ≡ unit_at root_unit (place_at i raw) → eqb u 1 ≡ (entry_at referrals i raw).settings.root
  unfolding entry_at referral_of flag_at settings_at
  read_root e = ap (λ (x : ℕ). eqb x 1) e

  pub read_interlink : {u : ℕ} → u ≡ unit_at interlink_unit (place_at i raw) → eqb u 1 ≡ (entry_at referrals i raw).settings.interlink
  unfolding entry_at referral_of flag_at settings_at
  read_interlink e = ap (λ (x : ℕ). eqb x 1) e

  pub count_targets : length (entry_at referrals i raw).targets ≡ list_count (place_at i raw)
  unfolding entry_at referral_of settings_at
  count_targets = length_listed (list_count (place_at i raw)) (λ j. target_of j (place_at i raw))

  pub count_dcs : length (entry_at domains i raw).dcs ≡ list_count (place_at i raw)
  unfolding entry_at domain_of
  count_dcs = length_listed (list_count (place_at i raw)) (λ j. text_at (1 + j) (place_at i raw))

  pub read_count : {n : ℕ} → n ≡ list_count (place_at i raw) → n ≡ length (entry_at referrals i raw).targets
  read_count e = e ∙ sym count_targets

  pub read_dcs_lem : {n : ℕ} → n ≡ list_count (place_at i raw) → n ≡ length (entry_at domains i raw).dcs
  read_dcs_lem e = e ∙ sym count_dcs

  pub few_targets : {j : ℕ} → j < length (entry_at referrals i raw).targets → j < 8
  few_targets h = let n : length (entry_at referrals i raw).targets ≡ list_count (place_at i raw) = count_targets in omega arith

  pub few_dcs : {j : ℕ} → j < length (entry_at domains i raw).dcs → j < 8
  few_dcs h = let n : length (entry_at domains i raw).dcs ≡ list_count (place_at i raw) = count_dcs in omega arith

  pub read_hint : {u : ℕ} → u ≡ unit_at hint_unit (place_at i raw) → u ≡ (entry_at referrals i raw).hint
  unfolding entry_at referral_of settings_at
  read_hint e = e

  pub read_dc_hint : {u : ℕ} → u ≡ unit_at hint_unit (place_at i raw) → u ≡ (entry_at domains i raw).hint
  unfolding entry_at domain_of
  read_dc_hint e = e

  module _ (j : ℕ) where
    target_of_lem : j < length (entry_at referrals i raw).targets → (z : Target) → get_or (entry_at referrals i raw).targets j z ≡ target_of j (place_at i raw)
    unfolding entry_at referral_of settings_at
    target_of_lem h z = get_d_listed (list_count (place_at i raw)) (λ k. target_of k (place_at i raw)) j z (rw length_listed at h)

    pub read_target : {t : List ℕ} → t ≡ text_at (1 + j) (place_at i raw) → j < length (entry_at referrals i raw).targets → t ≡ target_path j (entry_at referrals i raw)
    unfolding target_path target_of
    read_target e h = e ∙ ap (λ (t : Target). t.path) (sym (target_of_lem h _))

    pub read_opens : {u : ℕ} → u ≡ unit_at (mark_units + j) (place_at i raw) → j < length (entry_at referrals i raw).targets → eqb u 1 ≡ target_opens j (entry_at referrals i raw)
    unfolding target_opens target_of flag_at
    read_opens e h = ap (λ (x : ℕ). eqb x 1) e ∙ ap (λ (t : Target). t.opens) (sym (target_of_lem h _))

    pub read_dc : {t : List ℕ} → t ≡ text_at (1 + j) (place_at i raw) → j < length (entry_at domains i raw).dcs → t ≡ dc_name j (entry_at domains i raw)
    unfolding dc_name entry_at domain_of
    read_dc e h = e ∙ sym (get_d_listed (list_count (place_at i raw)) (λ k. text_at (1 + k) (place_at i raw)) j [] (rw length_listed at h))

-- an entry of memory in order, with a list, changed in its place
module _ {E : Type 0} (k : Kind E) (law : Lawful k) (raw : List ℕ) (i : ℕ) (order : in_order k raw ≡ true) (fits : i < place_count raw)
    (some : 0 < list_count (place_at i raw)) where
  pub entry_here : get_or (decode k raw) i free ≡ used (entry_at k i raw)
  entry_here = listed_used k law raw i order fits some

  pub entry_well : k.good (entry_at k i raw) ≡ true
  entry_well = entry_good k law raw i order fits (entry_at k i raw) entry_here

  on_entry_lem : (to : E → E) (f : List ℕ → List ℕ) → f (k.writes (entry_at k i raw)) ≡ k.writes (to (entry_at k i raw)) → k.good (to (entry_at k i raw)) ≡ true
      → {m : List ℕ} → m ≡ changed i f raw → m ≡ encode k (set (decode k raw) i (on_entry to (get_or (decode k raw) i free)))
  unfolding on_entry
  on_entry_lem to f h g e =
      e ∙ (entry_changed_lem k law raw i order fits (entry_at k i raw) entry_here (to (entry_at k i raw)) f h g
      ∙ ap (λ (q : Place E). encode k (set (decode k raw) i (on_entry to q))) (sym entry_here))

  on_entry_order : (to : E → E) → k.good (to (entry_at k i raw)) ≡ true → k.key (to (entry_at k i raw)) ≡ k.key (entry_at k i raw)
      → in_order k (encode k (set (decode k raw) i (on_entry to (get_or (decode k raw) i free)))) ≡ true
  unfolding on_entry
  on_entry_order to g q =
      ap (λ (p : Place E). in_order k (encode k (set (decode k raw) i (on_entry to p)))) entry_here
      ∙ kept_in_order k law raw i order fits (entry_at k i raw) entry_here (to (entry_at k i raw)) g q

-- a hint below the number of targets (or DCs)
pub target_hint_good : (h : ℕ) (e : Referral) → good_referral e ≡ true → h < length e.targets → good_referral (target_hint_to h e) ≡ true
unfolding target_hint_to
target_hint_good h e g u =
    let t : GoodReferral e = referral_told e g in
    good_referral_lem _ (record { prefixed = t.prefixed; some = t.some; few = t.few; each = t.each; first = t.first; hinted = u })

dc_hint_good : (h : ℕ) (d : Domain) → good_domain d ≡ true → h < length d.dcs → good_domain (dc_hint_to h d) ≡ true
unfolding dc_hint_to
dc_hint_good h d g u =
    let t : GoodDomain d = domain_told d g in
    good_domain_lem _ (record { named = t.named; few = t.few; each = t.each; hinted = hint_good d.dcs h (inr u) })

pub target_hint_units : (h : ℕ) (e : Referral) → good_referral e ≡ true → put_unit hint_unit h (referral_units e) ≡ referral_units (target_hint_to h e)
unfolding referral_units settings_units target_hint_to
target_hint_units h e g = put_hint _ e.hint _ _ (referral_shape e g) h

dc_hint_units : (h : ℕ) (d : Domain) → good_domain d ≡ true → put_unit hint_unit h (domain_units d) ≡ domain_units (dc_hint_to h d)
unfolding domain_units dc_hint_to
dc_hint_units h d g = put_hint _ d.hint _ _ (domain_shape d g) h

-- what the laws ask of a hint: how long its list is, and that setting it leaves the entry good and its key
record Hint {E : Type 0} (k : Kind E) : Type 0 where
  count : E → ℕ
  counts : (raw : List ℕ) (i : ℕ) → count (entry_at k i raw) ≡ list_count (place_at i raw)
  to : ℕ → E → E
  good : (h : ℕ) (e : E) → k.good e ≡ true → h < count e → k.good (to h e) ≡ true
  units : (h : ℕ) (e : E) → k.good e ≡ true → put_unit hint_unit h (k.writes e) ≡ k.writes (to h e)
  key : (h : ℕ) (e : E) → k.key (to h e) ≡ k.key e

target_hint : Hint referrals
unfolding target_hint_to
target_hint = record {
  count = λ e. length e.targets;
  counts = count_targets;
  to = target_hint_to;
  good = target_hint_good;
  units = target_hint_units;
  key = λ h e. refl;
}

dc_hint : Hint domains
unfolding dc_hint_to
dc_hint = record { count = λ d. length d.dcs; counts = count_dcs; to = dc_hint_to; good = dc_hint_good; units = dc_hint_units; key = λ h d. refl }

-- the hint of an entry of memory in order set, and the memory still in order
module _ {E : Type 0} (k : Kind E) (law : Lawful k) (hint : Hint k) (raw : List ℕ) (i h : ℕ) (order : in_order k raw ≡ true) (fits : i < place_count raw)
    (below : h < hint.count (entry_at k i raw)) where
  some : 0 < list_count (place_at i raw)
  some = let n : hint.count (entry_at k i raw) ≡ list_count (place_at i raw) = hint.counts raw i in omega arith

  well : k.good (hint.to h (entry_at k i raw)) ≡ true
  well = hint.good h (entry_at k i raw) (entry_well k law raw i order fits some) below

  hint_set_lem : {m : List ℕ} → m ≡ changed i (put_unit hint_unit h) raw → m ≡ encode k (set (decode k raw) i (on_entry (hint.to h) (get_or (decode k raw) i free)))
  hint_set_lem =
      on_entry_lem k law raw i order fits some (hint.to h) (put_unit hint_unit h) (hint.units h (entry_at k i raw) (entry_well k law raw i order fits some)) well

  hint_order : in_order k (encode k (set (decode k raw) i (on_entry (hint.to h) (get_or (decode k raw) i free)))) ≡ true
  hint_order = on_entry_order k law raw i order fits some (hint.to h) well (hint.key h (entry_at k i raw))

module _ (raw : List ℕ) (i h : ℕ) (order : in_order referrals raw ≡ true) (fits : i < place_count raw) (below : h < length (entry_at referrals i raw).targets) where
  pub target_hint_set_lem : {m : List ℕ} → m ≡ changed i (put_unit hint_unit h) raw → m ≡ encode referrals (target_hinted i h (decode referrals raw))
  unfolding target_hinted target_hint
  target_hint_set_lem = hint_set_lem referrals referrals_lawful target_hint raw i h order fits below

  pub target_hint_order : in_order referrals (encode referrals (target_hinted i h (decode referrals raw))) ≡ true
  unfolding target_hinted target_hint
  target_hint_order = hint_order referrals referrals_lawful target_hint raw i h order fits below

module _ (raw : List ℕ) (i h : ℕ) (order : in_order domains raw ≡ true) (fits : i < place_count raw) (below : h < length (entry_at domains i raw).dcs) where
  pub dc_hint_set_lem : {m : List ℕ} → m ≡ changed i (put_unit hint_unit h) raw → m ≡ encode domains (dc_hinted i h (decode domains raw))
  unfolding dc_hinted dc_hint
  dc_hint_set_lem = hint_set_lem domains domains_lawful dc_hint raw i h order fits below

  pub dc_hint_order : in_order domains (encode domains (dc_hinted i h (decode domains raw))) ≡ true
  unfolding dc_hinted dc_hint
  dc_hint_order = hint_order domains domains_lawful dc_hint raw i h order fits below
