-- Laws for what writes an entry: the place changes alone, and order stays where the key stays or is new.
use Rattle.std.specs.Prelude.{Some, None}
use Rattle.std.proofs.Common.{◌≡◌, ℕ, zero, suc, ◌+◌, ◌*◌, ◌<◌, Bool, true, false, not, ◌&&◌, eqb, ◌⊎◌, List, [], ◌∷◌, length, get_or, set, sym, refl, ap, ◌∙◌, inl, inr, arith, eqb-true}
use borrow.Author.Tests.{not-true}
use Rattle.laws.specs.Lists.{every, pasted}
use Rattle.laws.proofs.Choices.{and_left, and_right, and_both, choose_yes, choose_no}
use Rattle.laws.proofs.Orders.{told}
use Rattle.laws.proofs.Tests.{refuted, not_both}
use Rattle.laws.proofs.Every.{every_at}
use Rattle.unc.specs.names.Names.{same_name}
use Rattle.unc.proofs.names.NameLaws.{same_name_sym}
use Rattle.cache.specs.places.Layout.{place_count, place_at, unit_at, blank, list_count}
use Rattle.cache.specs.places.Code.{changed}
use Rattle.cache.proofs.places.LayoutLaws.{changed_start}
use Rattle.cache.specs.order.Entries.{Place, free, used}
use Rattle.cache.specs.order.Order.{distinct}
use Rattle.cache.specs.order.Memory.{Kind, place_of, piece_of, decode, encode, good_place, keys, in_order}
use Rattle.cache_lookup.specs.Lookup.{has_key, with_key_from, with_key}
use Rattle.cache_lookup.specs.Code.{entry_at}
use Rattle.cache.proofs.order.MemoryLaws.{Lawful, GoodCache, cache_told, order_good, place_free, place_used, decode_at, length_decode, encode_decode, place_encode, changed_encode, changed_in_order}

module _ {E : Type 0} (k : Kind E) where
  -- the key stays
  pub keys_kept : (ps : List (Place E)) (i : ℕ) (e e' : E) → get_or ps i free ≡ used e → k.key e' ≡ k.key e → keys k (set ps i (used e')) ≡ keys k ps
  unfolding keys
  keys_kept [] i e e' h q = refl
  keys_kept (p ∷ ps) zero e e' h q = rw h (λ j. q j ∷ keys k ps)
  keys_kept (free ∷ ps) (suc i) e e' h q = keys_kept ps i e e' h q
  keys_kept (used a ∷ ps) (suc i) e e' h q = λ j. k.key a ∷ keys_kept ps i e e' h q j

  -- the key is new
  module _ (f : List ℕ → Bool) (e : E) (fresh : f (k.key e) ≡ true) where
    every_keys : (ps : List (Place E)) (i : ℕ) → every f (keys k ps) ≡ true → every f (keys k (set ps i (used e))) ≡ true
    unfolding keys every
    every_keys [] i h = h
    every_keys (free ∷ ps) zero h = and_both fresh h
    every_keys (used a ∷ ps) zero h = and_both fresh (and_right (f (k.key a)) _ h)
    every_keys (free ∷ ps) (suc i) h = every_keys ps i h
    every_keys (used a ∷ ps) (suc i) h = and_both (and_left (f (k.key a)) _ h) (every_keys ps i (and_right (f (k.key a)) _ h))

  -- no place has the key
  none_has : (name : List ℕ) (i : ℕ) (ps : List (Place E)) → with_key_from k name i ps ≡ None → every (λ m. not (same_name m name)) (keys k ps) ≡ true
  unfolding with_key_from keys every has_key
  none_has name i [] h = refl
  none_has name i (free ∷ ps) h = none_has name (i + 1) ps (sym (choose_no (Some i) (with_key_from k name (i + 1) ps) refl) ∙ h)
  none_has name i (used a ∷ ps) h = go (told (same_name (k.key a) name)) (none_has name (i + 1) ps)
    where
      go : (same_name (k.key a) name ≡ true) ⊎ (same_name (k.key a) name ≡ false)
          → (with_key_from k name (i + 1) ps ≡ None → every (λ m. not (same_name m name)) (keys k ps) ≡ true)
          → (not (same_name (k.key a) name) && every (λ m. not (same_name m name)) (keys k ps)) ≡ true
      go (inl t) r = absurd (let z : ◌≡◌ {A = ℕ} 0 1 = cc (choose_yes (Some i) (with_key_from k name (i + 1) ps) t) in omega arith)
      go (inr t) r = and_both (ap not t) (r (sym (choose_no (Some i) (with_key_from k name (i + 1) ps) t) ∙ h))

  -- the keys stay distinct
  unlike : (name : List ℕ) (m : List ℕ) → not (same_name m name) ≡ true → not (same_name name m) ≡ true
  unlike name m h = ap not (refuted (same_name name m) (λ t. not_both (same_name_sym name m t) (not-true _ h)))

  unlike_all : (name : List ℕ) (ms : List (List ℕ)) → every (λ m. not (same_name m name)) ms ≡ true → every (λ m. not (same_name name m)) ms ≡ true
  unfolding every
  unlike_all name [] h = refl
  unlike_all name (m ∷ ms) h = and_both (unlike name m (and_left (not (same_name m name)) _ h)) (unlike_all name ms (and_right (not (same_name m name)) _ h))

  pub keys_distinct : (ps : List (Place E)) (i : ℕ) (e : E) → distinct (keys k ps) ≡ true → every (λ m. not (same_name m (k.key e))) (keys k ps) ≡ true
      → distinct (keys k (set ps i (used e))) ≡ true
  unfolding keys distinct every
  keys_distinct [] i e d h = refl
  keys_distinct (free ∷ ps) zero e d h = and_both (unlike_all (k.key e) (keys k ps) h) d
  keys_distinct (used a ∷ ps) zero e d h =
      and_both (unlike_all (k.key e) (keys k ps) (and_right (not (same_name (k.key a) (k.key e))) _ h))
      (and_right (every (λ m. not (same_name (k.key a) m)) (keys k ps)) _ d)
  keys_distinct (free ∷ ps) (suc i) e d h = keys_distinct ps i e d h
  keys_distinct (used a ∷ ps) (suc i) e d h =
      and_both
      (every_keys (λ m. not (same_name (k.key a) m)) e (and_left (not (same_name (k.key a) (k.key e))) _ h) ps i
      (and_left (every (λ m. not (same_name (k.key a) m)) (keys k ps)) _ d))
      (keys_distinct ps i e (and_right (every (λ m. not (same_name (k.key a) m)) (keys k ps)) _ d) (and_right (not (same_name (k.key a) (k.key e))) _ h))

-- an entry of memory in order: its place is what it writes
module _ {E : Type 0} (k : Kind E) (law : Lawful k) (raw : List ℕ) (i : ℕ) (order : in_order k raw ≡ true) (fits : i < place_count raw) where
  held : GoodCache k (decode k raw)
  held = cache_told k (decode k raw) (order_good k raw order)

  inside : i < length (decode k raw)
  inside = rw (length_decode k raw) fits

  -- an entry written into the place
  pub place_written : (e : E) (f : List ℕ → List ℕ) → f (place_at i raw) ≡ k.writes e → k.good e ≡ true
      → changed i f raw ≡ encode k (set (decode k raw) i (used e))
  unfolding changed piece_of good_place
  place_written e f h g = ap (λ (p : List ℕ). pasted raw (i * 2336) p) h ∙ changed_encode k law raw i (used e) order g fits

  -- the entry is good, and is what stands at the place
  module _ (e : E) (here : get_or (decode k raw) i free ≡ used e) where
    pub entry_good : k.good e ≡ true
    unfolding good_place
    entry_good = ap (good_place k) (sym here) ∙ every_at (good_place k) (decode k raw) held.places i free inside

    pub entry_units : place_at i raw ≡ k.writes e
    unfolding piece_of
    entry_units =
        ap (place_at i) (sym (encode_decode k raw order))
        ∙ (place_encode k law (decode k raw) held.places i inside ∙ ap (piece_of k) here)

    pub entry_is : entry_at k i raw ≡ e
    unfolding entry_at
    entry_is = ap k.reads entry_units ∙ law.back e entry_good

    -- the memory as it stands holds what the entry writes
    pub entry_start : raw ≡ changed i (λ q. k.writes e) raw
    entry_start = changed_start raw i fits (k.writes e) entry_units

    -- the place written anew by a change of what it writes
    pub entry_changed_lem : (e' : E) (f : List ℕ → List ℕ) → f (k.writes e) ≡ k.writes e' → k.good e' ≡ true
        → changed i f raw ≡ encode k (set (decode k raw) i (used e'))
    entry_changed_lem e' f h g = place_written e' f (ap f entry_units ∙ h) g

    -- it stays in order where its key stays
    pub kept_in_order : (e' : E) → k.good e' ≡ true → k.key e' ≡ k.key e → in_order k (encode k (set (decode k raw) i (used e'))) ≡ true
    unfolding good_place
    kept_in_order e' g q =
        ap (in_order k) (sym (changed_encode k law raw i (used e') order g fits))
        ∙ changed_in_order k law raw i (used e') order g fits
        (ap distinct (keys_kept k (decode k raw) i e e' here q) ∙ held.apart)

  -- a new entry, whose key no place has
  pub new_in_order : (e : E) → k.good e ≡ true → with_key k (k.key e) (decode k raw) ≡ None → in_order k (encode k (set (decode k raw) i (used e))) ≡ true
  unfolding good_place with_key
  new_in_order e g h =
      ap (in_order k) (sym (changed_encode k law raw i (used e) order g fits))
      ∙ changed_in_order k law raw i (used e) order g fits
      (keys_distinct k (decode k raw) i e held.apart (none_has k (k.key e) 0 (decode k raw) h))

  -- a free place is blank, so that a place with a list is used
  pub free_blank : get_or (decode k raw) i free ≡ free → place_at i raw ≡ blank
  unfolding piece_of
  free_blank here =
      ap (place_at i) (sym (encode_decode k raw order))
      ∙ (place_encode k law (decode k raw) held.places i inside ∙ ap (piece_of k) here)

  free_bare : get_or (decode k raw) i free ≡ free → list_count (place_at i raw) ≡ 0
  unfolding blank
  free_bare here = ap list_count (free_blank here)

  pub listed_used : 0 < list_count (place_at i raw) → get_or (decode k raw) i free ≡ used (entry_at k i raw)
  unfolding entry_at
  listed_used h = decode_at k raw i free fits ∙ go (told (eqb (unit_at 0 (place_at i raw)) 0))
    where
      go : (eqb (unit_at 0 (place_at i raw)) 0 ≡ true) ⊎ (eqb (unit_at 0 (place_at i raw)) 0 ≡ false) → place_of k (place_at i raw) ≡ used (k.reads (place_at i raw))
      go (inl t) =
          absurd (let z : list_count (place_at i raw) ≡ 0 = free_bare (decode_at k raw i free fits ∙ place_free k (place_at i raw) (eqb-true (unit_at 0 (place_at i raw)) 0 t)) in omega arith)
      go (inr t) = place_used k (place_at i raw) t
