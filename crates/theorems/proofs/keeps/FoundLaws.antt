-- An entry of a cache in order is found by every name that equals its key, and so by the units of a path that its prefix matches.
use Rattle.std.specs.Prelude.{None, Some}
use mathlib.Core.Path.{◌≡◌, refl, sym, ap, ◌∙◌}
use mathlib.Core.Bool.{Bool, true, false, not}
use mathlib.Core.List.{List, [], ◌∷◌}
use mathlib.Core.Logic.{◌⊎◌, inl, inr}
use Prim.Native.Nat.{ℕ, zero, suc, ◌+◌, ◌<◌}
use native.Mathlib.Omega.{arith}
use lib.ListN.{length, get_or, take}
use lib.Seq.{get_or-set_same}
use borrow.Author.Tests.{not-true}
use Rattle.laws.specs.Lists.{every}
use Rattle.laws.proofs.Choices.{choose_yes, choose_no, and_left, and_right}
use Rattle.laws.proofs.Tests.{refuted, not_both}
use Rattle.unc.specs.names.Names.{same_name}
use Rattle.unc.specs.names.Paths.{matches}
use Rattle.unc.proofs.names.NameLaws.{same_name_sym, same_name_trans}
use Rattle.unc.proofs.names.MatchLaws as found
use Rattle.cache.specs.order.Entries.{Referral, Place, free, used}
use Rattle.cache.specs.order.Order.{good_referral, distinct}
use Rattle.cache.specs.order.Memory.{Kind, referrals, keys, good_cache}
use Rattle.cache.proofs.order.MemoryLaws.{cache_told}
use Rattle.cache_lookup.specs.Lookup.{has_key, with_key_from, with_key}
use Rattle.cache_lookup.proofs.LookupLaws.{used_inside, new_inside}
use Rattle.reply_read.specs.referral.Replies as replies
use Rattle.cache_store.specs.entry_after_reply.Stored.{prefixed, fresh, store_place, stored, stored_entry}
use Rattle.cache_store.proofs.entry_after_reply.StoredLaws.{place_found, place_new}
use Rattle.theorems.proofs.keeps.CacheLaws.{held_is, Equal, prefixed_or, Longest, stored_well, stored_kept}

module _ {E : Type 0} (k : Kind E) where
  -- the key of an entry is among the keys
  key_passes : (f : List ℕ → Bool) (ps : List (Place E)) (i : ℕ) (e : E) → every f (keys k ps) ≡ true → get_or ps i free ≡ used e → f (k.key e) ≡ true
  unfolding keys every
  key_passes f [] i e h g = absurd (let z : ◌≡◌ {A = ℕ} 0 1 = cc in omega arith)
  key_passes f (free ∷ ps) zero e h g = absurd (let z : ◌≡◌ {A = ℕ} 0 1 = cc in omega arith)
  key_passes f (used a ∷ ps) zero e h g = let z : a ≡ e = cc in ap (λ (x : E). f (k.key x)) (sym z) ∙ and_left (f (k.key a)) _ h
  key_passes f (free ∷ ps) (suc i) e h g = key_passes f ps i e h g
  key_passes f (used a ∷ ps) (suc i) e h g = key_passes f ps i e (and_right (f (k.key a)) _ h) g

  -- no two keys are equal, so that the first place with such a key is that of the entry
  key_found_from : (name : List ℕ) (ps : List (Place E)) (i n : ℕ) (e : E) → distinct (keys k ps) ≡ true → get_or ps i free ≡ used e → same_name (k.key e) name ≡ true
      → with_key_from k name n ps ≡ Some (n + i)
  unfolding keys distinct with_key_from has_key
  key_found_from name [] i n e d g s = absurd (let z : ◌≡◌ {A = ℕ} 0 1 = cc in omega arith)
  key_found_from name (free ∷ ps) zero n e d g s = absurd (let z : ◌≡◌ {A = ℕ} 0 1 = cc in omega arith)
  key_found_from name (used a ∷ ps) zero n e d g s =
      let z : a ≡ e = cc in
      let m : n ≡ n + 0 = omega arith in
      choose_yes _ _ (ap (λ (x : E). same_name (k.key x) name) z ∙ s) ∙ ap Some m
  key_found_from name (free ∷ ps) (suc i) n e d g s =
      let m : n + 1 + i ≡ n + suc i = omega arith in
      choose_no _ _ refl ∙ (key_found_from name ps i (n + 1) e d g s ∙ ap Some m)
  key_found_from name (used a ∷ ps) (suc i) n e d g s =
      let m : n + 1 + i ≡ n + suc i = omega arith in
      let o : same_name (k.key a) (k.key e) ≡ false =
      not-true _ (key_passes (λ x. not (same_name (k.key a) x)) ps i e (and_left (every (λ x. not (same_name (k.key a) x)) (keys k ps)) _ d) g) in
      let u : same_name (k.key a) name ≡ false =
      refuted _ (λ t. not_both (same_name_trans (k.key a) name (k.key e) t (same_name_sym (k.key e) name s)) o) in
      choose_no _ _ u
      ∙ (key_found_from name ps i (n + 1) e (and_right (every (λ x. not (same_name (k.key a) x)) (keys k ps)) _ d) g s ∙ ap Some m)

  pub key_at : (ps : List (Place E)) → good_cache k ps ≡ true → (i : ℕ) (e : E) → get_or ps i free ≡ used e → (name : List ℕ) → same_name (k.key e) name ≡ true
      → with_key k name ps ≡ Some i
  unfolding with_key
  key_at ps good i e g name s = let z : 0 + i ≡ i = omega arith in key_found_from name ps i 0 e (cache_told k ps good).apart g s ∙ ap Some z

-- an entry whose prefix matches the path, held under as many of the path's units
pub record Under (ps : List (Place Referral)) (path : List ℕ) (e : Referral) : Type 0 where
  pub well : good_referral e ≡ true
  pub here : prefixed (take (length e.prefix) path) ps ≡ Some e

module _ (ps : List (Place Referral)) (good : good_cache referrals ps ≡ true) (path : List ℕ) where
  pub under_path : (i : ℕ) (e : Referral) → get_or ps i free ≡ used e → matches e.prefix path ≡ true
      → prefixed (take (length e.prefix) path) ps ≡ Some e
  unfolding prefixed
  under_path i e g m = held_is ps i e g (key_at referrals ps good i e g _ (found.matches_same e.prefix path m))

-- the place that a store writes lies in the cache
module _ (ps : List (Place Referral)) (good : good_cache referrals ps ≡ true) (r : replies.ReferralReply) (interlink : Bool) (clock : ℕ)
    (fine : good_referral (fresh r interlink clock) ≡ true) where
  store_inside : store_place clock r.prefix ps < length ps
  store_inside = go (prefixed_or ps good r.prefix)
    where
      go : ((with_key referrals r.prefix ps ≡ None) × (prefixed r.prefix ps ≡ None)) ⊎ ((e : Referral) × ((prefixed r.prefix ps ≡ Some e) × Equal ps good r.prefix e))
          → store_place clock r.prefix ps < length ps
      go (inl h) = rw (← place_new clock r.prefix ps refl h.0 refl) (new_inside clock ps (cache_told referrals ps good).least)
      go (inr h) = rw (← place_found clock r.prefix ps refl h.1.1.found) (used_inside ps h.1.1.place h.0 h.1.1.here)

  -- and the entry that is stored is held there
  pub stored_under : (path : List ℕ) → matches r.prefix path ≡ true
      → Under (stored r interlink clock ps) path (stored_entry (prefixed r.prefix ps) r interlink clock)
  unfolding stored
  stored_under path m =
      let l : Longest ps good path (stored_entry (prefixed r.prefix ps) r interlink clock) = stored_well ps good r interlink clock fine path m in
      record {
        well = l.well;
        here =
            under_path (stored r interlink clock ps) (stored_kept ps good r interlink clock fine) path (store_place clock r.prefix ps) _
            (get_or-set_same ps (store_place clock r.prefix ps) _ free store_inside) l.matching;
      }
