-- Laws of entries that were found, in either cache.
use Rattle.std.specs.Prelude.{None, Some, Option}
use mathlib.Core.Path.{◌≡◌, sym, ap, ◌∙◌}
use mathlib.Core.Bool.{true, false}
use mathlib.Core.List.{List}
use mathlib.Core.Logic.{◌⊎◌, inl, inr}
use Prim.Native.Nat.{ℕ, ◌<◌}
use native.Mathlib.Omega.{arith}
use lib.ListN.{get_or}
use lib.Dec.{eqb}
use borrow.Author.Tests.{eqb-true}
use Rattle.laws.proofs.Orders.{told}
use Rattle.unc.specs.names.Paths.{matches}
use Rattle.cache.specs.places.Layout.{place_count, place_at, unit_at}
use Rattle.cache.specs.order.Entries.{Referral, Place, free, used}
use Rattle.cache.specs.order.Order.{good_referral}
use Rattle.cache.specs.order.Memory.{Kind, referrals, decode, in_order, place_of}
use Rattle.cache.proofs.order.MemoryLaws.{length_decode, decode_at, place_free, place_used}
use Rattle.cache.proofs.order.KindLaws.{referrals_lawful}
use Rattle.cache_lookup.specs.Lookup.{longest_match, with_key}
use Rattle.cache_lookup.specs.Code.{entry_at}
use Rattle.cache_lookup.proofs.LookupLaws.{used_inside, longest_found, LongestAt, KeyAt, key_found}
use Rattle.cache_lookup.proofs.StoreLaws.{entry_good}
use Rattle.cache_store.specs.entry_after_reply.Stored.{held, held_at}
use Rattle.walk_steps.specs.steps.Steps.{longest}

-- a used place lies inside the memory and holds what is read there
module _ {E : Type 0} (k : Kind E) (raw : List ℕ) (i : ℕ) (e : E) (here : get_or (decode k raw) i free ≡ used e) where
  pub used_fits : i < place_count raw
  used_fits = rw (← length_decode k raw) (used_inside (decode k raw) i e here)

  pub used_is : entry_at k i raw ≡ e
  unfolding entry_at
  used_is = go (told (eqb (unit_at 0 (place_at i raw)) 0))
    where
      there : place_of k (place_at i raw) ≡ used e
      there = sym (decode_at k raw i free used_fits) ∙ here

      go : (eqb (unit_at 0 (place_at i raw)) 0 ≡ true) ⊎ (eqb (unit_at 0 (place_at i raw)) 0 ≡ false) → k.reads (place_at i raw) ≡ e
      go (inl t) =
          absurd (let z : ◌≡◌ {A = ℕ} 0 1 = cc (place_free k (place_at i raw) (eqb-true (unit_at 0 (place_at i raw)) 0 t), there) in omega arith)
      go (inr t) = cc (place_used k (place_at i raw) t, there)

  pub used_held : {f : Option ℕ} → f ≡ Some i → held f (decode k raw) ≡ Some (entry_at k i raw)
  unfolding held held_at
  used_held h = rw (h, here, used_is)

pub none_held : {E : Type 0} {f : Option ℕ} (ps : List (Place E)) → f ≡ None → held f ps ≡ None
unfolding held
none_held ps h = rw h

-- the entry of an equal key
module _ {E : Type 0} (k : Kind E) (name raw : List ℕ) (i : ℕ) (h : with_key k name (decode k raw) ≡ Some i) where
  there : KeyAt k name (decode k raw) i
  there = key_found k name (decode k raw) i h

  pub key_fits : i < place_count raw
  key_fits = used_fits k raw i there.entry there.here

  pub key_held : held (with_key k name (decode k raw)) (decode k raw) ≡ Some (entry_at k i raw)
  key_held = used_held k raw i there.entry there.here h

-- the entry of the longest match
module _ (path raw : List ℕ) (i : ℕ) (h : longest_match path (decode referrals raw) ≡ Some i) where
  best : LongestAt path (decode referrals raw) i
  best = longest_found path (decode referrals raw) i h

  pub longest_fits : i < place_count raw
  longest_fits = used_fits referrals raw i best.entry best.found.here

  pub longest_held : longest path (decode referrals raw) ≡ Some (entry_at referrals i raw)
  unfolding longest
  longest_held = used_held referrals raw i best.entry best.found.here h

  pub longest_matches : matches (entry_at referrals i raw).prefix path ≡ true
  longest_matches =
      ap (λ (e : Referral). matches e.prefix path) (used_is referrals raw i best.entry best.found.here) ∙ best.found.matched

  pub longest_good : in_order referrals raw ≡ true → good_referral (entry_at referrals i raw) ≡ true
  longest_good order =
      ap good_referral (used_is referrals raw i best.entry best.found.here)
      ∙ entry_good referrals referrals_lawful raw i order longest_fits best.entry best.found.here
