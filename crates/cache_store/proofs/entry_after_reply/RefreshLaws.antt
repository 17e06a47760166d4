-- Laws of an entry refreshed in its place.
use mathlib.Core.Path.{◌≡◌, refl, sym, ap, ◌∙◌}
use mathlib.Core.Bool.{Bool, true, false}
use mathlib.Core.List.{List, [], ◌∷◌, map}
use mathlib.Core.Logic.{◌⊎◌, inl, inr}
use Prim.Native.Nat.{ℕ, suc, ◌+◌, ◌≤◌, ◌<◌}
use native.Mathlib.Omega.{arith}
use lib.ListN.{length, take, replicate, length-replicate}
use Rattle.laws.specs.Choice.{choose}
use Rattle.laws.specs.Lists.{pasted}
use Rattle.laws.proofs.Choices.{choose_yes, choose_no}
use Rattle.laws.proofs.Orders.{told}
use Rattle.unc.specs.names.Names.{same_name}
use Rattle.cache.specs.places.Layout.{place_count, place_at, hint_unit}
use Rattle.cache.specs.places.Code.{changed, put_unit, put_settings, key_only}
use Rattle.cache.proofs.places.LayoutLaws.{place_changed, length_changed}
use Rattle.unc.specs.names.Paths.{Target}
use Rattle.cache.specs.order.Entries.{Referral}
use Rattle.cache.specs.order.Order.{good_referral}
use Rattle.cache.specs.order.Memory.{referrals, referral_units, referral_of}
use Rattle.cache.proofs.order.KindLaws.{referral_told, good_referral_lem, referrals_lawful}
use Rattle.cache_lookup.specs.Code.{entry_at}
use Rattle.cache_lookup.specs.Lookup.{target_hint_to}
use Rattle.cache_lookup.proofs.EntryLaws.{target_hint_units}
use Rattle.reply_read.specs.referral.Replies as replies
use Rattle.cache_entry.specs.equivalent_targets.Equivalence.{equivalent}
use Rattle.cache_store.specs.entry_after_reply.Stored.{targets_after, first_equal, hinted, failed_back, refreshed, fresh, settings_said}
use Rattle.reply_read.specs.referral.Code.{referral_shown, target_shown}
use Rattle.reply_read.specs.declared.referral.ReferralFound.{ReferralFound}
use Rattle.cache_entry.specs.write_entry.Code.{add_all, add_target, settings}
use Rattle.cache_store.specs.entry_after_reply.Code.{Storable, HeldEntry}
use Rattle.cache_entry.proofs.write_entry.WritingLaws.{Keeps, keeps_unit, keeps_pasted, keeps_both, then_changed, changed_same}
use Rattle.cache_store.proofs.entry_after_reply.EntryLaws.{entry_settled, entry_replaced}
use Rattle.cache_store.proofs.entry_after_reply.StoreLaws.{targets_in, keeps_settled, keeps_kept}

-- the first equal target is one of the list
first_below : (n : ℕ) (p : List ℕ) (ts : List Target) (m : ℕ) → n + length ts ≤ m → 0 < m → first_equal n p ts < m
unfolding first_equal
first_below n p [] m h k = k
first_below n p (t ∷ ts) m h k = go (told (same_name t.path p)) (first_below (suc n) p ts m (omega arith) k)
  where
    go : (same_name t.path p ≡ true) ⊎ (same_name t.path p ≡ false) → first_equal (suc n) p ts < m → choose (same_name t.path p) n (first_equal (suc n) p ts) < m
    go (inl e) r = rw (choose_yes n (first_equal (suc n) p ts) e) (omega arith)
    go (inr e) r = rw (choose_no n (first_equal (suc n) p ts) e) r

pub first_within : (p : List ℕ) (ts : List Target) → 0 < length ts → first_equal 0 p ts < length ts
first_within p ts h = first_below 0 p ts (length ts) (omega arith) h

pub back_within : (failback : Bool) (ts : List Target) (h : ℕ) → h < length ts → failed_back failback ts h < length ts
unfolding failed_back
back_within failback ts h k = go _
  where
    go : (b : Bool) → choose b 0 h < length ts
    go b = either (told b)
      where
        either : (b ≡ true) ⊎ (b ≡ false) → choose b 0 h < length ts
        either (inl e) = rw (choose_yes 0 h e) (omega arith)
        either (inr e) = rw (choose_no 0 h e) k

-- a place that holds an entry, and then its hint
module _ (raw : List ℕ) (i : ℕ) (fits : i < place_count raw) (e : Referral) (good : good_referral e ≡ true) (m : List ℕ) (h : m ≡ changed i (λ q. referral_units e) raw) where
  long : length (referral_units e) ≡ 2336
  long = referrals_lawful.long e good

  pub held_fits : i < place_count m
  held_fits = let l : length (changed i (λ q. referral_units e) raw) ≡ length raw = length_changed raw i fits (λ q. referral_units e) long in rw (h, l) fits

  pub held_entry : entry_at referrals i m ≡ e
  unfolding entry_at
  held_entry = ap (λ (x : List ℕ). referral_of (place_at i x)) h ∙ (ap referral_of (place_changed raw i fits (λ q. referral_units e) long) ∙ referrals_lawful.back e good)

  pub held_hinted : (failback : Bool) (hint : ℕ) {o : List ℕ} → o ≡ changed i (put_unit hint_unit (failed_back failback (entry_at referrals i m).targets hint)) m
      → o ≡ changed i (λ q. referral_units (target_hint_to (failed_back failback e.targets hint) e)) raw
  held_hinted failback hint {o} c =
      then_changed raw i fits (λ q. referral_units e) (put_unit hint_unit (failed_back failback e.targets hint)) (λ q l. long) (keeps_unit hint_unit _ (omega arith)) h
      (c ∙ ap (λ (x : Referral). changed i (put_unit hint_unit (failed_back failback x.targets hint)) m) held_entry)
      ∙ changed_same raw i fits (λ q. put_unit hint_unit (failed_back failback e.targets hint) (referral_units e)) (λ q. referral_units (target_hint_to (failed_back failback e.targets hint) e))
      (target_hint_units (failed_back failback e.targets hint) e good)

-- the entry as a refresh leaves it before its hint is set
abbrev pub based : Referral → replies.ReferralReply → Bool → ℕ → List Target → ℕ → Referral
based e q interlink clock ts hint = record {
  prefix = e.prefix;
  settings = settings_said q interlink clock;
  targets = ts;
  hint = hint;
}

module _ (e : Referral) (q : replies.ReferralReply) (interlink : Bool) (clock : ℕ) where
  pub refreshed_held : {r : Bool} → r ≡ equivalent q.version e.targets q.targets → r ≡ true → (h : ℕ)
      → target_hint_to (failed_back q.failback e.targets (first_equal 0 (hinted e) e.targets)) (based e q interlink clock e.targets h) ≡ refreshed e q interlink clock
  unfolding refreshed targets_after target_hint_to settings_said
  refreshed_held f g h = rw (choose_yes e.targets q.targets (sym f ∙ g))

  pub refreshed_given : {r : Bool} → r ≡ equivalent q.version e.targets q.targets → r ≡ false → (h : ℕ)
      → target_hint_to (failed_back q.failback q.targets (first_equal 0 (hinted e) q.targets)) (based e q interlink clock q.targets h) ≡ refreshed e q interlink clock
  unfolding refreshed targets_after target_hint_to settings_said
  refreshed_given f g h = rw (choose_no e.targets q.targets (sym f ∙ g))

  pub held_good : good_referral e ≡ true → good_referral (based e q interlink clock e.targets e.hint) ≡ true
  held_good good =
      let g = referral_told e good in
      good_referral_lem (based e q interlink clock e.targets e.hint) (record { prefixed = g.prefixed; some = g.some; few = g.few; each = g.each; first = g.first; hinted = g.hinted })

  pub given_good : good_referral e ≡ true → good_referral (fresh q false 0) ≡ true → good_referral (based e q interlink clock q.targets 0) ≡ true
  unfolding fresh settings_said
  given_good good fine =
      let g = referral_told e good in
      let f = referral_told (fresh q false 0) fine in
      good_referral_lem (based e q interlink clock q.targets 0) (record { prefixed = g.prefixed; some = f.some; few = f.few; each = f.each; first = f.first; hinted = f.some })

zeroed_keeps : (m n : ℕ) → m ≤ 31 → n ≤ 2048 → Keeps (λ p. pasted (pasted p 1 (replicate m 0)) 288 (replicate n 0))
zeroed_keeps m n u v =
    let x = length-replicate {A = ℕ} m 0 in
    let y = length-replicate {A = ℕ} n 0 in
    keeps_both (λ p. pasted p 1 (replicate m 0)) (λ p. pasted p 288 (replicate n 0)) (keeps_pasted 1 (replicate m 0) (omega arith)) (keeps_pasted 288 (replicate n 0) (omega arith))

-- what a refresh with another list leaves in the place, up to the hint
given_entry : (raw : List ℕ) (i : ℕ) → HeldEntry i raw → (r : List ℕ) (f : ReferralFound) (interlink : Bool) (clock : ℕ) → good_referral (based (entry_at referrals i raw) (referral_shown r f) interlink clock (referral_shown r f).targets 0) ≡ true
    → put_settings (settings f.root interlink f.failback f.ttl clock) (add_all add_target 0 (map (target_shown r) (take f.targets f.kept)) (key_only (referral_units (entry_at referrals i raw)))) ≡ referral_units (based (entry_at referrals i raw) (referral_shown r f) interlink clock (referral_shown r f).targets 0)
unfolding referral_shown settings_said
given_entry raw i place r f interlink clock g =
    entry_replaced (based (entry_at referrals i raw) (referral_shown r f) interlink clock (referral_shown r f).targets 0) g refl (entry_at referrals i raw) place.good refl (map (target_shown r) (take f.targets f.kept)) (sym (targets_in r f))

-- A refresh, in its two ways, up to the hint and then whole.
module _ (raw : List ℕ) (i : ℕ) (place : HeldEntry i raw) (r : List ℕ) (f : ReferralFound) (interlink : Bool) (clock : ℕ) where
  held_settled : {m : List ℕ} → m ≡ changed i (put_settings (settings f.root interlink f.failback f.ttl clock)) raw
      → m ≡ changed i (λ p. referral_units (based (entry_at referrals i raw) (referral_shown r f) interlink clock (entry_at referrals i raw).targets (entry_at referrals i raw).hint)) raw
  unfolding referral_shown settings_said
  held_settled a =
      a ∙ changed_same raw i place.fits (put_settings (settings f.root interlink f.failback f.ttl clock)) (λ p. referral_units _)
      (ap (put_settings (settings f.root interlink f.failback f.ttl clock)) place.units
      ∙ entry_settled (entry_at referrals i raw) (based (entry_at referrals i raw) (referral_shown r f) interlink clock (entry_at referrals i raw).targets (entry_at referrals i raw).hint)
      place.good (held_good (entry_at referrals i raw) (referral_shown r f) interlink clock place.good) refl refl refl)

  module _ (m : List ℕ) (a : m ≡ changed i (put_settings (settings f.root interlink f.failback f.ttl clock)) raw) (hint : ℕ)
      (h : hint ≡ first_equal 0 (hinted (entry_at referrals i raw)) (entry_at referrals i raw).targets) where
    good_held : good_referral (based (entry_at referrals i raw) (referral_shown r f) interlink clock (entry_at referrals i raw).targets (entry_at referrals i raw).hint) ≡ true
    good_held = held_good (entry_at referrals i raw) (referral_shown r f) interlink clock place.good

    pub held_ready : (i < place_count m) × (hint < length (entry_at referrals i m).targets)
    held_ready =
        let g = referral_told (entry_at referrals i raw) place.good in
        let k : hint < length (entry_at referrals i raw).targets = rw h (first_within (hinted (entry_at referrals i raw)) (entry_at referrals i raw).targets g.some) in (
          held_fits raw i place.fits _ good_held m (held_settled a),
          rw (held_entry raw i place.fits _ good_held m (held_settled a)) k,
        )

    pub held_done : {o : List ℕ} → equivalent f.version (entry_at referrals i raw).targets (referral_shown r f).targets ≡ true
        → o ≡ changed i (put_unit hint_unit (failed_back f.failback (entry_at referrals i m).targets hint)) m
        → o ≡ changed i (λ p. referral_units (refreshed (entry_at referrals i raw) (referral_shown r f) interlink clock)) raw
    unfolding referral_shown settings_said
    held_done v c =
        held_hinted raw i place.fits _ good_held m (held_settled a) f.failback hint c
        ∙ (ap (λ (x : ℕ). changed i (λ p. referral_units (target_hint_to (failed_back f.failback (entry_at referrals i raw).targets x)
        (based (entry_at referrals i raw) (referral_shown r f) interlink clock (entry_at referrals i raw).targets (entry_at referrals i raw).hint))) raw) h
        ∙ ap (λ (x : Referral). changed i (λ p. referral_units x) raw) (refreshed_held (entry_at referrals i raw) (referral_shown r f) interlink clock refl v (entry_at referrals i raw).hint))

  module _ (s : Storable r f) where
    good_given : good_referral (based (entry_at referrals i raw) (referral_shown r f) interlink clock (referral_shown r f).targets 0) ≡ true
    good_given = given_good (entry_at referrals i raw) (referral_shown r f) interlink clock place.good s.good

    keeps_key_only : Keeps key_only
    unfolding key_only
    keeps_key_only p l = zeroed_keeps 31 2048 (omega arith) (omega arith) p l

    given_settled : {k l m : List ℕ} → k ≡ changed i key_only raw → l ≡ changed i (add_all add_target 0 (map (target_shown r) (take f.targets f.kept))) k → m ≡ changed i (put_settings (settings f.root interlink f.failback f.ttl clock)) l
        → m ≡ changed i (λ p. referral_units (based (entry_at referrals i raw) (referral_shown r f) interlink clock (referral_shown r f).targets 0)) raw
    given_settled a b c =
        then_changed raw i place.fits (λ p. add_all add_target 0 (map (target_shown r) (take f.targets f.kept)) (key_only p)) (put_settings (settings f.root interlink f.failback f.ttl clock))
        (keeps_both key_only (add_all add_target 0 (map (target_shown r) (take f.targets f.kept))) keeps_key_only (keeps_kept raw i place.fits r f s interlink clock)) (keeps_settled f.root interlink f.failback f.ttl clock)
        (then_changed raw i place.fits key_only (add_all add_target 0 (map (target_shown r) (take f.targets f.kept))) keeps_key_only (keeps_kept raw i place.fits r f s interlink clock) a b) c
        ∙ changed_same raw i place.fits (λ p. put_settings (settings f.root interlink f.failback f.ttl clock) (add_all add_target 0 (map (target_shown r) (take f.targets f.kept)) (key_only p))) (λ p. referral_units (based (entry_at referrals i raw) (referral_shown r f) interlink clock (referral_shown r f).targets 0))
        (ap (λ (x : List ℕ). put_settings (settings f.root interlink f.failback f.ttl clock) (add_all add_target 0 (map (target_shown r) (take f.targets f.kept)) (key_only x))) place.units ∙ given_entry raw i place r f interlink clock good_given)

    module _ (k l m : List ℕ) (a : k ≡ changed i key_only raw) (b : l ≡ changed i (add_all add_target 0 (map (target_shown r) (take f.targets f.kept))) k) (c : m ≡ changed i (put_settings (settings f.root interlink f.failback f.ttl clock)) l) (hint : ℕ)
        (h : hint ≡ first_equal 0 (hinted (entry_at referrals i raw)) (map (target_shown r) (take f.targets f.kept))) where
      pub given_ready : (i < place_count m) × (hint < length (entry_at referrals i m).targets)
      unfolding fresh settings_said
      given_ready =
          let g = referral_told (fresh (referral_shown r f) false 0) s.good in
          let t : hint < length (referral_shown r f).targets = rw (h, ← targets_in r f) (first_within (hinted (entry_at referrals i raw)) (referral_shown r f).targets g.some) in (
            held_fits raw i place.fits _ good_given m (given_settled a b c),
            rw (held_entry raw i place.fits _ good_given m (given_settled a b c)) t,
          )

      pub given_done : {o : List ℕ} → equivalent f.version (entry_at referrals i raw).targets (referral_shown r f).targets ≡ false
          → o ≡ changed i (put_unit hint_unit (failed_back f.failback (entry_at referrals i m).targets hint)) m
          → o ≡ changed i (λ p. referral_units (refreshed (entry_at referrals i raw) (referral_shown r f) interlink clock)) raw
      unfolding referral_shown settings_said
      given_done v d =
          held_hinted raw i place.fits _ good_given m (given_settled a b c) f.failback hint d
          ∙ (ap (λ (x : ℕ). changed i (λ p. referral_units (target_hint_to (failed_back f.failback (referral_shown r f).targets x) (based (entry_at referrals i raw) (referral_shown r f) interlink clock (referral_shown r f).targets 0))) raw)
          (h ∙ ap (first_equal 0 (hinted (entry_at referrals i raw))) (sym (targets_in r f)))
          ∙ ap (λ (x : Referral). changed i (λ p. referral_units x) raw) (refreshed_given (entry_at referrals i raw) (referral_shown r f) interlink clock refl v 0))
