-- Laws of the cache after a store: the place, the entry, and that the cache stays in order.
use Rattle.std.specs.Prelude.{Some, Option, None}
use mathlib.Core.Path.{◌≡◌, refl, sym, ap, ◌∙◌}
use mathlib.Core.Bool.{Bool, true, false}
use mathlib.Core.List.{List, [], ◌∷◌, map}
use mathlib.Core.Logic.{◌⊎◌, inl, inr}
use Prim.Native.Nat.{ℕ, ◌+◌, ◌*◌, ◌≤◌, ◌<◌}
use lib.ListN.{length, get_or, take, set, length-take}
use native.Mathlib.Omega.{arith}
use lib.Dec.{leb}
use Rattle.laws.specs.Lists.{every}
use Rattle.laws.proofs.Choices.{and_left, and_right, and_both}
use Rattle.laws.proofs.Orders.{told}
use Rattle.cache.specs.places.Layout.{place_count}
use Rattle.cache.specs.places.Code.{changed}
use Rattle.reply_bytes.specs.texts.Code.{spanned}
use Rattle.cache.specs.order.Entries.{Referral, Place, free, used}
use Rattle.cache.specs.order.Order.{good_referral}
use Rattle.cache.specs.order.Memory.{referrals, referral_units, decode, encode, in_order, piece_of, good_place}
use Rattle.cache.proofs.order.MemoryLaws.{cache_told, order_good, length_decode, changed_encode}
use Rattle.cache.proofs.order.KindLaws.{referral_told, referrals_lawful}
use Rattle.cache_lookup.specs.Code.{entry_at}
use Rattle.cache_lookup.specs.Lookup.{with_key, new_place, found_or}
use Rattle.cache_lookup.proofs.LookupLaws.{KeyAt, key_found, used_inside, new_inside}
use Rattle.cache_lookup.proofs.EntryLaws.{target_hint_good}
use Rattle.cache_lookup.proofs.StoreLaws.{entry_good, entry_units, entry_is, kept_in_order, new_in_order}
use Rattle.cache_entry.specs.equivalent_targets.Equivalence.{equivalent}
use Rattle.cache_entry.specs.equivalent_targets.Code.{held_targets}
use Rattle.reply_read.specs.referral.Replies as replies
use Rattle.reply_read.specs.referral.Code.{referral_shown, kept_inside, is_inside, target_shown}
use Rattle.reply_read.specs.declared.referral.Kept.{Kept}
use Rattle.reply_read.specs.declared.referral.ReferralFound.{ReferralFound}
use Rattle.cache_store.specs.entry_after_reply.Stored.{hinted, refreshed, fresh, stored, stored_entry, store_place, prefixed, held, held_at, settings_said}
use Rattle.cache_entry.specs.write_entry.Code.{kept_fits}
use Rattle.cache_store.specs.entry_after_reply.Code.{Storable, HeldEntry}
use Rattle.cache_store.proofs.entry_after_reply.StoreLaws.{fresh_good}
use Rattle.cache_store.proofs.entry_after_reply.RefreshLaws.{based, back_within, first_within, held_good, given_good, refreshed_held, refreshed_given}

-- kept targets that fit lie inside the reply
kept_in : (r : List ℕ) (k : Kept) → kept_fits r k ≡ true → kept_inside r k ≡ true
unfolding kept_fits kept_inside is_inside
kept_in r k h = and_left (leb (k.path.from + 2 * k.path.units) (length r)) _ h

pub all_inside : (r : List ℕ) (ks : List Kept) → every (kept_fits r) ks ≡ true → every (kept_inside r) ks ≡ true
unfolding every
all_inside r [] h = refl
all_inside r (k ∷ ks) h = and_both (kept_in r k (and_left (kept_fits r k) _ h)) (all_inside r ks (and_right (kept_fits r k) _ h))

-- as many targets are given as a place has room for
pub few_given : (r : List ℕ) (f : ReferralFound) → Storable r f → length (take f.targets f.kept) ≤ 8
few_given r f s = let few : f.targets ≤ 8 = s.few in omega (arith, length-take f.targets f.kept)

-- the check that the code made is that of the definition
pub equivalent_told : (raw : List ℕ) (i : ℕ) (r : List ℕ) (f : ReferralFound) {t b : Bool}
    → t ≡ equivalent f.version (held_targets i raw) (map (target_shown r) (take f.targets f.kept)) → t ≡ b
    → equivalent f.version (entry_at referrals i raw).targets (referral_shown r f).targets ≡ b
unfolding held_targets referral_shown
equivalent_told raw i r f e h = sym e ∙ h

-- a refreshed entry is good
pub refreshed_good : (e : Referral) (q : replies.ReferralReply) (interlink : Bool) (clock : ℕ) → good_referral e ≡ true → good_referral (fresh q false 0) ≡ true
    → good_referral (refreshed e q interlink clock) ≡ true
unfolding fresh settings_said
refreshed_good e q interlink clock h k = go (told (equivalent q.version e.targets q.targets))
  where
    go : (equivalent q.version e.targets q.targets ≡ true) ⊎ (equivalent q.version e.targets q.targets ≡ false)
        → good_referral (refreshed e q interlink clock) ≡ true
    go (inl t) =
        ap good_referral (sym (refreshed_held e q interlink clock refl t e.hint))
        ∙ target_hint_good _ (based e q interlink clock e.targets e.hint) (held_good e q interlink clock h)
        (back_within q.failback e.targets _ (first_within (hinted e) e.targets (referral_told e h).some))
    go (inr t) =
        ap good_referral (sym (refreshed_given e q interlink clock refl t 0))
        ∙ target_hint_good _ (based e q interlink clock q.targets 0) (given_good e q interlink clock h k)
        (back_within q.failback q.targets _ (first_within (hinted e) q.targets (referral_told (fresh q false 0) k).some))

-- the place of a store
module _ (clock : ℕ) (prefix : List ℕ) (ps : List (Place Referral)) where
  pub place_found : {f : Option ℕ} {i : ℕ} → f ≡ with_key referrals prefix ps → f ≡ Some i → i ≡ store_place clock prefix ps
  unfolding store_place found_or
  place_found e h = sym (ap (found_or (new_place clock ps)) (sym e ∙ h))

  pub place_new : {f : Option ℕ} {n : ℕ} → f ≡ with_key referrals prefix ps → f ≡ None → n ≡ new_place clock ps → n ≡ store_place clock prefix ps
  unfolding store_place found_or
  place_new e h k = k ∙ sym (ap (found_or (new_place clock ps)) (sym e ∙ h))

-- an entry that was found stands in its place
module _ (raw : List ℕ) (order : in_order referrals raw ≡ true) where
  pub places_some : 0 < length (decode referrals raw)
  places_some = (cache_told referrals (decode referrals raw) (order_good referrals raw order)).least

  pub new_fits : {n : ℕ} (clock : ℕ) → n ≡ new_place clock (decode referrals raw) → n < place_count raw
  new_fits clock e = rw (e, ← length_decode referrals raw) (new_inside clock (decode referrals raw) places_some)

  module _ (prefix : List ℕ) (i : ℕ) (h : with_key referrals prefix (decode referrals raw) ≡ Some i) where
    at : KeyAt referrals prefix (decode referrals raw) i
    at = key_found referrals prefix (decode referrals raw) i h

    fits : i < place_count raw
    fits = rw (← length_decode referrals raw) (used_inside (decode referrals raw) i at.entry at.here)

    entry_here : entry_at referrals i raw ≡ at.entry
    entry_here = entry_is referrals referrals_lawful raw i order fits at.entry at.here

    pub held_there : HeldEntry i raw
    held_there = record {
      fits = fits;
      good = ap good_referral entry_here ∙ entry_good referrals referrals_lawful raw i order fits at.entry at.here;
      units = entry_units referrals referrals_lawful raw i order fits at.entry at.here ∙ ap referral_units (sym entry_here);
    }

    prefixed_there : prefixed prefix (decode referrals raw) ≡ Some (entry_at referrals i raw)
    unfolding prefixed held held_at
    prefixed_there = rw (h, at.here, entry_here)

    -- the entry refreshed is what the store leaves
    pub stored_refreshed : (r : List ℕ) (f : ReferralFound) (interlink : Bool) (clock : ℕ) {o : List ℕ} → Storable r f → prefix ≡ spanned r f.prefix
        → o ≡ changed i (λ q. referral_units (refreshed (entry_at referrals i raw) (referral_shown r f) interlink clock)) raw
        → o ≡ encode referrals (stored (referral_shown r f) interlink clock (decode referrals raw))
    unfolding stored referral_shown stored_entry piece_of good_place
    stored_refreshed r f interlink clock s p e =
        let w : with_key referrals (spanned r f.prefix) (decode referrals raw) ≡ Some i = ap (λ (x : List ℕ). with_key referrals x (decode referrals raw)) (sym p) ∙ h in
        e
        ∙ (changed_encode referrals referrals_lawful raw i (used (refreshed (entry_at referrals i raw) (referral_shown r f) interlink clock)) order
        (refreshed_good (entry_at referrals i raw) (referral_shown r f) interlink clock held_there.good s.good) fits
        ∙ (λ j. encode referrals (set (decode referrals raw) (place_found clock (spanned r f.prefix) (decode referrals raw) refl w j)
        (used (stored_entry (sym (ap (λ (x : List ℕ). prefixed x (decode referrals raw)) (sym p) ∙ prefixed_there) j) (referral_shown r f) interlink clock)))))

  -- a new entry is what the store leaves where none was found
  pub stored_inserted : (r : List ℕ) (f : ReferralFound) (interlink : Bool) (clock n : ℕ) {g : Option ℕ} {o : List ℕ} → Storable r f
      → g ≡ with_key referrals (spanned r f.prefix) (decode referrals raw) → g ≡ None → n ≡ new_place clock (decode referrals raw)
      → o ≡ changed n (λ q. referral_units (fresh (referral_shown r f) interlink clock)) raw
      → o ≡ encode referrals (stored (referral_shown r f) interlink clock (decode referrals raw))
  unfolding stored referral_shown stored_entry piece_of good_place prefixed held
  stored_inserted r f interlink clock n s a b k e =
      e
      ∙ (changed_encode referrals referrals_lawful raw n (used (fresh (referral_shown r f) interlink clock)) order
      (fresh_good (referral_shown r f) false interlink 0 clock s.good) (new_fits clock k)
      ∙ (λ j. encode referrals (set (decode referrals raw) (place_new clock (spanned r f.prefix) (decode referrals raw) a b k j)
      (used (stored_entry (held (sym (sym a ∙ b) j) (decode referrals raw)) (referral_shown r f) interlink clock)))))

-- an entry written into a place of a cache in order
place_holds : (raw : List ℕ) → in_order referrals raw ≡ true → (i : ℕ) → i < place_count raw → (e : Referral) → good_referral e ≡ true
    → changed i (λ q. referral_units e) raw ≡ encode referrals (set (decode referrals raw) i (used e))
unfolding piece_of good_place
place_holds raw order i u e g = changed_encode referrals referrals_lawful raw i (used e) order g u

fresh_prefix : (r : List ℕ) (f : ReferralFound) (interlink : Bool) (clock : ℕ) (raw : List ℕ) → with_key referrals (spanned r f.prefix) (decode referrals raw) ≡ None
    → with_key referrals (fresh (referral_shown r f) interlink clock).prefix (decode referrals raw) ≡ None
unfolding fresh referral_shown settings_said
fresh_prefix r f interlink clock raw h = h

-- a store keeps a cache in order
module _ (raw : List ℕ) (order : in_order referrals raw ≡ true) (r : List ℕ) (f : ReferralFound) (s : Storable r f) (interlink : Bool) (clock : ℕ) where
  order_refreshed : (i : ℕ) → with_key referrals (spanned r f.prefix) (decode referrals raw) ≡ Some i
      → in_order referrals (encode referrals (stored (referral_shown r f) interlink clock (decode referrals raw))) ≡ true
  unfolding refreshed settings_said
  order_refreshed i h =
      let k = key_found referrals (spanned r f.prefix) (decode referrals raw) i h in
      let p = held_there raw order (spanned r f.prefix) i h in
      let u : get_or (decode referrals raw) i free ≡ used (entry_at referrals i raw) =
      k.here ∙ ap used (sym (entry_is referrals referrals_lawful raw i order p.fits k.entry k.here)) in
      let e = refreshed (entry_at referrals i raw) (referral_shown r f) interlink clock in
      let g = refreshed_good (entry_at referrals i raw) (referral_shown r f) interlink clock p.good s.good in
      ap (in_order referrals) (sym (stored_refreshed raw order (spanned r f.prefix) i h r f interlink clock s refl refl))
      ∙ (ap (in_order referrals) (place_holds raw order i p.fits e g)
      ∙ kept_in_order referrals referrals_lawful raw i order p.fits (entry_at referrals i raw) u e g refl)

  order_inserted : with_key referrals (spanned r f.prefix) (decode referrals raw) ≡ None
      → in_order referrals (encode referrals (stored (referral_shown r f) interlink clock (decode referrals raw))) ≡ true
  order_inserted h =
      let n = new_place clock (decode referrals raw) in
      let e = fresh (referral_shown r f) interlink clock in
      let g = fresh_good (referral_shown r f) false interlink 0 clock s.good in
      ap (in_order referrals) (sym (stored_inserted raw order r f interlink clock n s refl h refl refl))
      ∙ (ap (in_order referrals) (place_holds raw order n (new_fits raw order clock refl) e g)
      ∙ new_in_order referrals referrals_lawful raw n order (new_fits raw order clock refl) e g (fresh_prefix r f interlink clock raw h))

  pub store_in_order : in_order referrals (encode referrals (stored (referral_shown r f) interlink clock (decode referrals raw))) ≡ true
  store_in_order = go (with_key referrals (spanned r f.prefix) (decode referrals raw)) refl
    where
      go : (g : Option ℕ) → with_key referrals (spanned r f.prefix) (decode referrals raw) ≡ g
          → in_order referrals (encode referrals (stored (referral_shown r f) interlink clock (decode referrals raw))) ≡ true
      go (Some i) e = order_refreshed i e
      go None e = order_inserted e
