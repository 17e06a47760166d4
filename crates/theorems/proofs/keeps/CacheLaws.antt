-- Caches in order: what is found in them, and that what an event writes keeps them so.
use Rattle.std.specs.Prelude.{Option, None, Some}
use mathlib.Core.Path.{◌≡◌, refl, sym, ap, ◌∙◌, subst}
use mathlib.Core.Bool.{Bool, true, false, not}
use mathlib.Core.List.{List, [], ◌∷◌}
use mathlib.Core.Logic.{◌⊎◌, inl, inr}
use Prim.Native.Nat.{ℕ, ◌/◌, ◌<◌}
use native.Mathlib.Omega.{arith}
use lib.ListN.{length, get_or, set}
use borrow.Author.Tests.{le-leb}
use Rattle.laws.specs.Lists.{every}
use Rattle.laws.proofs.Choices.{and_left, and_right, and_both}
use Rattle.laws.proofs.Every.{every_at}
use Rattle.laws.proofs.Listed.{every_set}
use Rattle.unc.specs.names.Names.{same_name}
use Rattle.unc.specs.names.Paths.{matches, Target}
use Rattle.cache.specs.order.Entries.{Referral, Domain, Place, free, used}
use Rattle.cache.specs.order.Order.{good_prefix, good_target, first_opens_none, good_referral}
use Rattle.cache.specs.order.Memory.{Kind, referrals, domains, decode, encode, in_order, good_place, good_cache}
use Rattle.cache.proofs.order.MemoryLaws.{Lawful, cache_told, order_good, decode_encode, encoded_in_order, count_encode}
use Rattle.cache.proofs.order.KindLaws.{referrals_lawful, domains_lawful, good_referral_lem, domain_told, good_domain_lem}
use Rattle.cache.proofs.order.PlaceLaws.{hint_good}
use Rattle.cache_lookup.specs.Lookup.{with_key, longest_match, new_place, on_entry, target_hint_to, dc_hint_to, target_hinted, dc_hinted}
use Rattle.cache_lookup.proofs.LookupLaws.{KeyAt, key_found, LongestAt, longest_found, used_inside, new_inside}
use Rattle.cache_lookup.proofs.StoreLaws.{kept_in_order, new_in_order}
use Rattle.cache_lookup.proofs.EntryLaws.{target_hint_good}
use Rattle.reply_read.specs.referral.Replies as replies
use Rattle.reply_read.proofs.referral.SaysLaws as said
use Rattle.reply_read.proofs.name_lists.SaysLaws.{SoundDcs}
use Rattle.cache_store.specs.entry_after_reply.Stored.{fresh, refreshed, held, held_at, prefixed, store_place, stored, stored_entry, with_dcs, dcs_stored}
use Rattle.cache_store.proofs.entry_after_reply.StoreLaws.{fresh_good}
use Rattle.cache_store.proofs.entry_after_reply.StoredLaws.{refreshed_good, place_found, place_new}
use Rattle.walk_steps.specs.steps.Steps.{longest}
use Rattle.walk_steps.proofs.steps.HeldLaws.{none_held}
use Rattle.walk_steps.proofs.cycle.MoveLaws.{matches_same}

-- an entry that is held stands in its place
pub held_is : {E : Type 0} (ps : List (Place E)) (i : ℕ) (e : E) → get_or ps i free ≡ used e → {f : Option ℕ} → f ≡ Some i → held f ps ≡ Some e
unfolding held held_at
held_is ps i e h g = rw (g, h)

-- one place of a good cache written: the key stays, or it is new
module _ {E : Type 0} (k : Kind E) (law : Lawful k) (ps : List (Place E)) (good : good_cache k ps ≡ true) where
  pub all_good : every (good_place k) ps ≡ true
  all_good = (cache_told k ps good).places

  pub place_good : (i : ℕ) (e : E) → get_or ps i free ≡ used e → k.good e ≡ true
  unfolding good_place
  place_good i e h = ap (good_place k) (sym h) ∙ every_at (good_place k) ps all_good i free (used_inside ps i e h)

  back : decode k (encode k ps) ≡ ps
  back = decode_encode k law ps all_good

  fits : (i : ℕ) → i < length ps → i < length (encode k ps) / 2336
  fits i h = subst (λ (n : ℕ). i < n) (sym (count_encode k law ps all_good)) h

  -- what is written, read back
  read_back : (qs : List (Place E)) → every (good_place k) qs ≡ true → in_order k (encode k qs) ≡ true → good_cache k qs ≡ true
  read_back qs g h = ap (good_cache k) (sym (decode_encode k law qs g)) ∙ order_good k (encode k qs) h

  set_good : (i : ℕ) (e : E) → k.good e ≡ true → every (good_place k) (set ps i (used e)) ≡ true
  unfolding good_place
  set_good i e g = every_set (good_place k) ps i (used e) all_good g

  pub kept_good : (i : ℕ) (e e' : E) → get_or ps i free ≡ used e → k.good e' ≡ true → k.key e' ≡ k.key e → good_cache k (set ps i (used e')) ≡ true
  kept_good i e e' h g q =
      read_back (set ps i (used e')) (set_good i e' g)
      (ap (λ (l : List (Place E)). in_order k (encode k (set l i (used e')))) (sym back)
      ∙ kept_in_order k law (encode k ps) i (encoded_in_order k law ps good) (fits i (used_inside ps i e h)) e (ap (λ (l : List (Place E)). get_or l i free) back ∙ h) e' g q)

  pub new_good : (i : ℕ) → i < length ps → (e : E) → k.good e ≡ true → with_key k (k.key e) ps ≡ None → good_cache k (set ps i (used e)) ≡ true
  new_good i u e g h =
      read_back (set ps i (used e)) (set_good i e g)
      (ap (λ (l : List (Place E)). in_order k (encode k (set l i (used e)))) (sym back)
      ∙ new_in_order k law (encode k ps) i (encoded_in_order k law ps good) (fits i u) e g (ap (with_key k (k.key e)) back ∙ h))

-- the referral cache
module _ (ps : List (Place Referral)) (good : good_cache referrals ps ≡ true) where
  -- the entry of the longest match
  pub record Longest (path : List ℕ) (e : Referral) : Type 0 where
    pub well : good_referral e ≡ true
    pub matching : matches e.prefix path ≡ true

  -- a look-up finds none, or a good entry
  pub longest_or : (path : List ℕ) → (longest path ps ≡ None) ⊎ ((e : Referral) × ((longest path ps ≡ Some e) × Longest path e))
  unfolding longest
  longest_or path = go (longest_match path ps) refl
    where
      go : (f : Option ℕ) → longest_match path ps ≡ f → (held (longest_match path ps) ps ≡ None) ⊎ ((e : Referral) × ((held (longest_match path ps) ps ≡ Some e) × Longest path e))
      go None h = inl (none_held ps h)
      go (Some i) h =
          let b : LongestAt path ps i = longest_found path ps i h in
          inr (b.entry, (held_is ps i b.entry b.found.here h, record { well = place_good referrals referrals_lawful ps good i b.entry b.found.here; matching = b.found.matched }))

  -- the entry of an equal prefix
  pub record Equal (name : List ℕ) (e : Referral) : Type 0 where
    pub place : ℕ
    pub found : with_key referrals name ps ≡ Some place
    pub here : get_or ps place free ≡ used e
    pub well : good_referral e ≡ true
    pub same : same_name e.prefix name ≡ true

  pub equal_at : (name : List ℕ) (i : ℕ) → with_key referrals name ps ≡ Some i → (e : Referral) × ((prefixed name ps ≡ Some e) × Equal name e)
  unfolding prefixed
  equal_at name i h =
      let b : KeyAt referrals name ps i = key_found referrals name ps i h in (
        b.entry,
        (
          held_is ps i b.entry b.here h,
          record { place = i; found = h; here = b.here; well = place_good referrals referrals_lawful ps good i b.entry b.here; same = b.same },
        ),
      )

  pub prefixed_or : (name : List ℕ) → ((with_key referrals name ps ≡ None) × (prefixed name ps ≡ None)) ⊎ ((e : Referral) × ((prefixed name ps ≡ Some e) × Equal name e))
  unfolding prefixed
  prefixed_or name = go (with_key referrals name ps) refl
    where
      go : (f : Option ℕ) → with_key referrals name ps ≡ f → ((with_key referrals name ps ≡ None) × (held (with_key referrals name ps) ps ≡ None)) ⊎ ((e : Referral) × ((held (with_key referrals name ps) ps ≡ Some e) × Equal name e))
      go None h = inl (h, none_held ps h)
      go (Some i) h = inr (equal_at name i h)

  -- the hint of an entry set
  pub hint_kept : (i h : ℕ) (e : Referral) → get_or ps i free ≡ used e → h < length e.targets → good_cache referrals (target_hinted i h ps) ≡ true
  unfolding target_hinted on_entry target_hint_to
  hint_kept i h e here u =
      ap (λ (p : Place Referral). good_cache referrals (set ps i (on_entry (target_hint_to h) p))) here
      ∙ kept_good referrals referrals_lawful ps good i e (target_hint_to h e) here (target_hint_good h e (place_good referrals referrals_lawful ps good i e here) u) refl

-- what a reply says makes a good entry
all_targets : (ts : List Target) → every said.good_target ts ≡ true → every good_target ts ≡ true
unfolding every said.good_target good_target good_prefix
all_targets [] h = refl
all_targets (t ∷ ts) h = and_both (and_left (said.good_target t) _ h) (all_targets ts (and_right (said.good_target t) _ h))

first_shuts : (ts : List Target) → ((t : Target) (us : List Target) → ts ≡ t ∷ us → t.opens ≡ false) → first_opens_none ts ≡ true
unfolding first_opens_none
first_shuts [] h = refl
first_shuts (t ∷ ts) h = ap not (h t ts refl)

pub reply_good : (asked : List ℕ) (r : replies.ReferralReply) → said.Sound asked r → (interlink : Bool) (clock : ℕ) → good_referral (fresh r interlink clock) ≡ true
unfolding fresh good_prefix
reply_good asked r s interlink clock =
    good_referral_lem (fresh r interlink clock) (record {
      prefixed = le-leb 2 _ s.prefix_normal;
      some = omega (arith, s.some);
      few = omega (arith, s.most);
      each = all_targets r.targets s.targets_normal;
      first = first_shuts r.targets s.first_shut;
      hinted = omega (arith, s.some);
    })

-- the entry that a store leaves, and the cache
module _ (ps : List (Place Referral)) (good : good_cache referrals ps ≡ true) (r : replies.ReferralReply) (interlink : Bool) (clock : ℕ) (fine : good_referral (fresh r interlink clock) ≡ true) where
  fine_plain : good_referral (fresh r false 0) ≡ true
  fine_plain = fresh_good r interlink false clock 0 fine

  pub stored_well : (path : List ℕ) → matches r.prefix path ≡ true → Longest ps good path (stored_entry (prefixed r.prefix ps) r interlink clock)
  unfolding stored_entry fresh refreshed
  stored_well path m = go (prefixed_or ps good r.prefix)
    where
      Fit : Option Referral → Type 0
      Fit o = Longest ps good path (stored_entry o r interlink clock)

      go : ((with_key referrals r.prefix ps ≡ None) × (prefixed r.prefix ps ≡ None)) ⊎ ((e : Referral) × ((prefixed r.prefix ps ≡ Some e) × Equal ps good r.prefix e))
          → Longest ps good path (stored_entry (prefixed r.prefix ps) r interlink clock)
      go (inl h) = subst Fit (sym h.1) (record { well = fine; matching = m })
      go (inr h) =
          subst Fit (sym h.1.0) (record {
            well = refreshed_good h.0 r interlink clock h.1.1.well fine_plain;
            matching = matches_same h.0.prefix r.prefix path h.1.1.same m;
          })

  pub stored_kept : good_cache referrals (stored r interlink clock ps) ≡ true
  unfolding stored stored_entry refreshed fresh
  stored_kept = go (prefixed_or ps good r.prefix)
    where
      go : ((with_key referrals r.prefix ps ≡ None) × (prefixed r.prefix ps ≡ None)) ⊎ ((e : Referral) × ((prefixed r.prefix ps ≡ Some e) × Equal ps good r.prefix e))
          → good_cache referrals (set ps (store_place clock r.prefix ps) (used (stored_entry (prefixed r.prefix ps) r interlink clock))) ≡ true
      go (inl h) =
          (λ j. good_cache referrals (set ps (sym (place_new clock r.prefix ps refl h.0 refl) j) (used (stored_entry (h.1 j) r interlink clock))))
          ∙ new_good referrals referrals_lawful ps good (new_place clock ps) (new_inside clock ps (cache_told referrals ps good).least) (fresh r interlink clock) fine h.0
      go (inr h) =
          (λ j. good_cache referrals (set ps (sym (place_found clock r.prefix ps refl h.1.1.found) j) (used (stored_entry (h.1.0 j) r interlink clock))))
          ∙ kept_good referrals referrals_lawful ps good h.1.1.place h.0 (refreshed h.0 r interlink clock) h.1.1.here (refreshed_good h.0 r interlink clock h.1.1.well fine_plain) refl

-- the domain cache: a hint, and the DCs of a reply
module _ (ps : List (Place Domain)) (good : good_cache domains ps ≡ true) where
  pub dc_hint_kept : (i h : ℕ) (d : Domain) → get_or ps i free ≡ used d → h < length d.dcs → good_cache domains (dc_hinted i h ps) ≡ true
  unfolding dc_hinted on_entry dc_hint_to
  dc_hint_kept i h d here u =
      let t = domain_told d (place_good domains domains_lawful ps good i d here) in
      ap (λ (p : Place Domain). good_cache domains (set ps i (on_entry (dc_hint_to h) p))) here
      ∙ kept_good domains domains_lawful ps good i d (dc_hint_to h d) here
      (good_domain_lem (dc_hint_to h d) (record { named = t.named; few = t.few; each = t.each; hinted = hint_good d.dcs h (inr u) })) refl

  pub dcs_kept : (i : ℕ) (d : Domain) → get_or ps i free ≡ used d → (names : List (List ℕ)) → SoundDcs names → good_cache domains (dcs_stored i names ps) ≡ true
  unfolding dcs_stored with_dcs
  dcs_kept i d here names s =
      let t = domain_told d (place_good domains domains_lawful ps good i d here) in
      ap (λ (p : Place Domain). good_cache domains (set ps i (with_dcs names p))) here
      ∙ kept_good domains domains_lawful ps good i d (record { name = d.name; dcs = names; hint = 0 }) here
      (good_domain_lem _ (record { named = t.named; few = s.most; each = s.good; hinted = hint_good names 0 (inl refl) })) refl
