-- Laws of a place that is written, saved before and put back: of an entry, and of DCs.
use Rattle.std.specs.Prelude.{Option, None, Some}
use mathlib.Core.Path.{◌≡◌, refl, sym, ap, ◌∙◌, subst}
use mathlib.Core.Bool.{Bool, true, false}
use mathlib.Core.List.{List, [], ◌∷◌, map}
use Prim.Native.Nat.{ℕ, zero, suc, ◌<◌}
use native.Mathlib.Omega.{arith}
use lib.ListN.{length, get_or, take, set, length-set}
use lib.Seq.{get_or-set_same}
use Rattle.laws.specs.Lists.{every}
use Rattle.laws.proofs.Listed.{every_set}
use Rattle.laws.proofs.Every.{every_at}
use Rattle.unc.specs.names.Names.{same_name}
use Rattle.unc.specs.names.Paths.{matches}
use Rattle.reply_bytes.specs.texts.Code.{spanned}
use Rattle.cache.specs.places.Layout.{place_count, place_at}
use Rattle.cache.specs.places.Code.{changed}
use Rattle.cache.specs.order.Entries.{Referral, Place, free, used}
use Rattle.cache.specs.order.Order.{good_referral}
use Rattle.cache.specs.order.Memory.{Kind, referrals, domains, decode, encode, in_order, piece_of, good_place}
use Rattle.cache.proofs.order.KindLaws.{referrals_lawful, domains_lawful}
use Rattle.cache.proofs.order.MemoryLaws.{Lawful, cache_told, order_good, length_decode, encode_decode, decode_encode, place_encode, changed_encode}
use Rattle.cache_lookup.specs.Lookup.{with_key}
use Rattle.cache_lookup.specs.Code.{entry_at}
use Rattle.cache_lookup.proofs.LookupLaws.{key_found}
use Rattle.reply_read.specs.referral.Code.{referral_shown}
use Rattle.reply_read.specs.declared.referral.ReferralFound.{ReferralFound}
use Rattle.reply_read.specs.declared.name_lists.DcsFound.{DcsFound}
use Rattle.cache_store.specs.entry_after_reply.Stored.{fresh, refreshed, held, prefixed, store_place, stored, stored_entry, with_dcs, dcs_stored}
use Rattle.cache_store.specs.entry_after_reply.Code.{Storable}
use Rattle.cache_store.specs.domain_cache.Code.{DomainAt, StorableDcs}
use Rattle.cache_store.proofs.entry_after_reply.StoreLaws.{fresh_good}
use Rattle.cache_store.proofs.entry_after_reply.StoredLaws.{refreshed_good, place_found, place_new, new_fits, held_there, store_in_order}
use Rattle.cache_store.proofs.domain_cache.DcLaws.{dcs_held, dcs_in_order}
use Rattle.walk_steps.proofs.steps.HeldLaws.{none_held, key_held, key_fits, used_fits, used_is}
use Rattle.walk_steps.specs.cycle.Code.{Usable}
use Rattle.walk_steps.proofs.cycle.MoveLaws.{matches_same}

set_back : {E : Type 0} (ps : List (Place E)) (i : ℕ) (p : Place E) → i < length ps → set (set ps i p) i (get_or ps i free) ≡ ps
set_back [] i p h = absurd (omega arith)
set_back (q ∷ ps) zero p h = refl
set_back (q ∷ ps) (suc i) p h = ap (λ (l : List (Place _)). q ∷ l) (set_back ps i p (omega arith))

-- a place that was written, put back
module _ {E : Type 0} (k : Kind E) (law : Lawful k) (raw more : List ℕ) (i : ℕ) (p : Place E) (order : in_order k raw ≡ true) (fits : i < place_count raw)
    (then : in_order k more ≡ true) (held : decode k more ≡ set (decode k raw) i p) where
  inside : i < length (decode k raw)
  inside = rw (length_decode k raw) fits

  old_good : good_place k (get_or (decode k raw) i free) ≡ true
  old_good = every_at (good_place k) (decode k raw) (cache_told k (decode k raw) (order_good k raw order)).places i free inside

  same_count : place_count more ≡ place_count raw
  same_count = sym (length_decode k more) ∙ (ap length held ∙ (length-set (decode k raw) i p ∙ length_decode k raw))

  put_again : {s : List ℕ} → s ≡ place_at i raw → changed i (λ q. s) more ≡ raw
  put_again {s} e =
      let a : s ≡ piece_of k (get_or (decode k raw) i free) =
      e
      ∙ (ap (place_at i) (sym (encode_decode k raw order))
      ∙ place_encode k law (decode k raw) (cache_told k (decode k raw) (order_good k raw order)).places i inside) in
      ap (λ (x : List ℕ). changed i (λ q. x) more) a
      ∙ (changed_encode k law more i (get_or (decode k raw) i free) then old_good (omega (arith, same_count))
      ∙ (ap (λ (ps : List (Place E)). encode k (set ps i (get_or (decode k raw) i free))) held ∙ (ap (encode k) (set_back (decode k raw) i p inside) ∙ encode_decode k raw order)))

-- the entry that a store leaves
record Good (e : Referral) (path : List ℕ) : Type 0 where
  well : good_referral e ≡ true
  matching : matches e.prefix path ≡ true

fresh_stored : (reply : List ℕ) (f : ReferralFound) → Storable reply f → (interlink : Bool) (clock : ℕ) (path : List ℕ) → matches (spanned reply f.prefix) path ≡ true
    → Good (stored_entry None (referral_shown reply f) interlink clock) path
unfolding stored_entry fresh referral_shown
fresh_stored reply f s interlink clock path m = record { well = fresh_good (referral_shown reply f) false interlink 0 clock s.good; matching = m }

refreshed_stored : (e : Referral) (reply : List ℕ) (f : ReferralFound) → Storable reply f → (interlink : Bool) (clock : ℕ) (path : List ℕ) → good_referral e ≡ true → matches e.prefix path ≡ true
    → Good (stored_entry (Some e) (referral_shown reply f) interlink clock) path
unfolding stored_entry refreshed
refreshed_stored e reply f s interlink clock path g m = record { well = refreshed_good e (referral_shown reply f) interlink clock g s.good; matching = m }

module _ (refs : List ℕ) (order : in_order referrals refs ≡ true) (reply : List ℕ) (f : ReferralFound) (s : Storable reply f) (interlink : Bool) (clock : ℕ) (path : List ℕ)
    (m : matches (spanned reply f.prefix) path ≡ true) where
  stored_good : Good (stored_entry (prefixed (spanned reply f.prefix) (decode referrals refs)) (referral_shown reply f) interlink clock) path
  unfolding prefixed
  stored_good = go (with_key referrals (spanned reply f.prefix) (decode referrals refs)) refl
    where
      go : (g : Option ℕ) → with_key referrals (spanned reply f.prefix) (decode referrals refs) ≡ g
          → Good (stored_entry (held (with_key referrals (spanned reply f.prefix) (decode referrals refs)) (decode referrals refs)) (referral_shown reply f) interlink clock) path
      go None h = subst (λ (o : Option Referral). Good (stored_entry o (referral_shown reply f) interlink clock) path) (sym (none_held (decode referrals refs) h)) (fresh_stored reply f s interlink clock path m)
      go (Some i) h =
          let k = key_found referrals (spanned reply f.prefix) (decode referrals refs) i h in
          let e : entry_at referrals i refs ≡ k.entry = used_is referrals refs i k.entry k.here in
          subst (λ (o : Option Referral). Good (stored_entry o (referral_shown reply f) interlink clock) path) (sym (key_held referrals (spanned reply f.prefix) refs i h))
          (refreshed_stored (entry_at referrals i refs) reply f s interlink clock path (held_there refs order (spanned reply f.prefix) i h).good
          (matches_same (entry_at referrals i refs).prefix (spanned reply f.prefix) path (ap (λ (x : Referral). same_name x.prefix (spanned reply f.prefix)) e ∙ k.same) m))

  place_fits : store_place clock (spanned reply f.prefix) (decode referrals refs) < place_count refs
  place_fits = go (with_key referrals (spanned reply f.prefix) (decode referrals refs)) refl
    where
      go : (g : Option ℕ) → with_key referrals (spanned reply f.prefix) (decode referrals refs) ≡ g → store_place clock (spanned reply f.prefix) (decode referrals refs) < place_count refs
      go None h = subst (λ (n : ℕ). n < place_count refs) (place_new clock (spanned reply f.prefix) (decode referrals refs) refl h refl) (new_fits refs order clock refl)
      go (Some i) h = subst (λ (n : ℕ). n < place_count refs) (place_found clock (spanned reply f.prefix) (decode referrals refs) refl h) (key_fits referrals (spanned reply f.prefix) refs i h)

  module _ {place : ℕ} (p : place ≡ store_place clock (spanned reply f.prefix) (decode referrals refs)) where
    pub place_inside : place < place_count refs
    place_inside = subst (λ (n : ℕ). n < place_count refs) (sym p) place_fits

    -- the cache that the store leaves
    module _ {more : List ℕ} (e : more ≡ encode referrals (stored (referral_shown reply f) interlink clock (decode referrals refs))) where
      is_set : stored (referral_shown reply f) interlink clock (decode referrals refs)
          ≡ set (decode referrals refs) place (used (stored_entry (prefixed (spanned reply f.prefix) (decode referrals refs)) (referral_shown reply f) interlink clock))
      unfolding stored referral_shown
      is_set =
          ap (λ (n : ℕ). set (decode referrals refs) n (used (stored_entry (prefixed (spanned reply f.prefix) (decode referrals refs)) (referral_shown reply f) interlink clock))) (sym p)

      all_good : every (good_place referrals) (set (decode referrals refs) place (used (stored_entry (prefixed (spanned reply f.prefix) (decode referrals refs)) (referral_shown reply f) interlink clock))) ≡ true
      unfolding good_place
      all_good = every_set (good_place referrals) (decode referrals refs) place _ (cache_told referrals (decode referrals refs) (order_good referrals refs order)).places stored_good.well

      more_held : decode referrals more
          ≡ set (decode referrals refs) place (used (stored_entry (prefixed (spanned reply f.prefix) (decode referrals refs)) (referral_shown reply f) interlink clock))
      more_held = ap (decode referrals) (e ∙ ap (encode referrals) is_set) ∙ decode_encode referrals referrals_lawful _ all_good

      pub more_stored : decode referrals more ≡ stored (referral_shown reply f) interlink clock (decode referrals refs)
      more_stored = more_held ∙ sym is_set

      pub more_order : in_order referrals more ≡ true
      more_order = ap (in_order referrals) e ∙ store_in_order refs order reply f s interlink clock

      here : get_or (decode referrals more) place free ≡ used (stored_entry (prefixed (spanned reply f.prefix) (decode referrals refs)) (referral_shown reply f) interlink clock)
      here =
          ap (λ (ps : List (Place Referral)). get_or ps place free) more_held
          ∙ get_or-set_same (decode referrals refs) place _ free (rw (length_decode referrals refs) place_inside)

      pub entry_there : entry_at referrals place more ≡ stored_entry (prefixed (spanned reply f.prefix) (decode referrals refs)) (referral_shown reply f) interlink clock
      entry_there = used_is referrals more place _ here

      pub more_fits : place < place_count more
      more_fits = used_fits referrals more place _ here

      pub more_usable : Usable more path place
      more_usable = record {
        fits = more_fits;
        good = ap good_referral entry_there ∙ stored_good.well;
        matched = ap (λ (x : Referral). matches x.prefix path) entry_there ∙ stored_good.matching;
      }

      pub more_back : {v : List ℕ} → v ≡ place_at place refs → changed place (λ q. v) more ≡ refs
      more_back a = put_again referrals referrals_lawful refs more place _ order place_inside more_order more_held a

-- DCs of a reply, stored into the entry at place i
module _ (doms : List ℕ) (i : ℕ) (at : DomainAt i doms) (reply : List ℕ) (f : DcsFound) (s : StorableDcs reply f) {m : List ℕ}
    (e : m ≡ encode domains (dcs_stored i (map (spanned reply) (take f.count f.kept)) (decode domains doms))) where
  pub dcs_decoded : decode domains m ≡ dcs_stored i (map (spanned reply) (take f.count f.kept)) (decode domains doms)
  dcs_decoded = ap (decode domains) e ∙ dcs_held doms i at reply f s

  pub dcs_order : in_order domains m ≡ true
  dcs_order = ap (in_order domains) e ∙ dcs_in_order doms i at reply f s

  pub dcs_inside : i < place_count m
  unfolding dcs_stored
  dcs_inside =
      omega (
        arith,
        at.fits,
        same_count domains domains_lawful doms m i (with_dcs (map (spanned reply) (take f.count f.kept)) (get_or (decode domains doms) i free)) at.order at.fits dcs_order dcs_decoded,
      )

  pub dcs_back : {v : List ℕ} → v ≡ place_at i doms → changed i (λ q. v) m ≡ doms
  unfolding dcs_stored
  dcs_back a =
      put_again domains domains_lawful doms m i (with_dcs (map (spanned reply) (take f.count f.kept)) (get_or (decode domains doms) i free)) at.order at.fits dcs_order dcs_decoded a
