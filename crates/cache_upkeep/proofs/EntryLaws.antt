-- Laws of one entry changed in its place: it stays good, its key stays, the cache stays in order, and its units are those that are written.
use mathlib.Core.Path.{◌≡◌, refl, sym, ap, ◌∙◌}
use mathlib.Core.Bool.{true, false}
use mathlib.Core.List.{List, [], ◌∷◌, map}
use mathlib.Core.Logic.{◌⊎◌, inl, inr, ◌≢◌}
use Prim.Native.Nat.{ℕ, zero, suc, ◌+◌, ◌%◌, ◌/◌, ◌≤◌, ◌<◌}
use native.Mathlib.Omega.{arith}
use lib.ListN.{length, get_or, set, length-set, length-map}
use lib.Seq.{get_or-set_other, set-get_or}
use lib.Dec.{leb}
use borrow.Author.Tests.{ne_eqb, leb-false}
use Rattle.laws.specs.Lists.{every}
use Rattle.laws.proofs.Choices.{choose_yes, choose_no, and_left, and_right, and_both}
use Rattle.laws.proofs.Orders.{told}
use Rattle.laws.proofs.Listed.{every_set}
use Rattle.laws.proofs.Pasting.{pasted_join}
use Rattle.cache.specs.places.Layout.{place_count, place_at, unit_at, flag_unit, written}
use Rattle.cache.specs.places.Code.{changed, put_unit, put_wide}
use Rattle.cache.specs.order.Entries.{Referral, Place, free, used}
use Rattle.cache.specs.order.Order.{distinct, good_referral}
use Rattle.cache.specs.order.Memory.{Kind, referrals, domains, decode, encode, good_place, keys, in_order, referral_units, settings_units}
use Rattle.cache.proofs.places.WrittenLaws.{Shaped, length_written, written_setting}
use Rattle.cache.proofs.places.PutLaws.{put_written}
use Rattle.cache.proofs.order.MemoryLaws.{Lawful, GoodCache, cache_told, good_cache_lem, order_good, place_free, place_used, decode_at, encode_decode, decode_encode, encoded_in_order}
use Rattle.cache.proofs.order.KindLaws.{GoodReferral, referral_told, good_referral_lem, referral_shape, GoodDomain, domain_told, good_domain_lem}
use Rattle.cache.proofs.order.PlaceLaws.{hint_good}
use Rattle.cache_lookup.specs.Lookup.{on_entry, dc_hint_to}
use Rattle.cache_lookup.specs.Code.{entry_at}
use Rattle.cache_lookup.proofs.StoreLaws.{entry_good, entry_changed_lem}
use Rattle.cache_upkeep.specs.Calls.{expire_entry, dc_after, next_dc, entry_changed}
use Rattle.cache_upkeep.specs.Code.{expired_to}

-- a change that leaves an entry good and its key
pub record Tends {E : Type 0} (k : Kind E) (f : E → E) : Type 0 where
  pub good : (e : E) → k.good e ≡ true → k.good (f e) ≡ true
  pub key : (e : E) → k.key (f e) ≡ k.key e

module _ {E : Type 0} (k : Kind E) (f : E → E) (t : Tends k f) where
  place_good : (p : Place E) → good_place k p ≡ true → good_place k (on_entry f p) ≡ true
  unfolding good_place on_entry
  place_good free h = refl
  place_good (used e) h = t.good e h

  keys_same : (ps : List (Place E)) (i : ℕ) → keys k (entry_changed f i ps) ≡ keys k ps
  unfolding keys on_entry entry_changed
  keys_same [] i = refl
  keys_same (free ∷ ps) zero = refl
  keys_same (used e ∷ ps) zero = λ j. t.key e j ∷ keys k ps
  keys_same (free ∷ ps) (suc i) = keys_same ps i
  keys_same (used e ∷ ps) (suc i) = λ j. k.key e ∷ keys_same ps i j

  keys_all : (ps : List (Place E)) → keys k (map (on_entry f) ps) ≡ keys k ps
  unfolding keys on_entry
  keys_all [] = refl
  keys_all (free ∷ ps) = keys_all ps
  keys_all (used e ∷ ps) = λ j. t.key e j ∷ keys_all ps j

  every_all : (ps : List (Place E)) → every (good_place k) ps ≡ true → every (good_place k) (map (on_entry f) ps) ≡ true
  unfolding every
  every_all [] h = refl
  every_all (p ∷ ps) h = and_both (place_good p (and_left (good_place k p) _ h)) (every_all ps (and_right (good_place k p) _ h))

  good_at : (ps : List (Place E)) (i : ℕ) → every (good_place k) ps ≡ true → good_place k (get_or ps i free) ≡ true
  unfolding every good_place
  good_at [] i h = refl
  good_at (p ∷ ps) zero h = and_left (good_place k p) _ h
  good_at (p ∷ ps) (suc i) h = good_at ps i (and_right (good_place k p) _ h)

  module _ (law : Lawful k) (raw : List ℕ) (order : in_order k raw ≡ true) where
    held : GoodCache k (decode k raw)
    held = cache_told k (decode k raw) (order_good k raw order)

    -- one entry changed
    module _ (i : ℕ) where
      changed_good : GoodCache k (entry_changed f i (decode k raw))
      unfolding entry_changed
      changed_good =
          let l : length (entry_changed f i (decode k raw)) ≡ length (decode k raw) = length-set (decode k raw) i (on_entry f (get_or (decode k raw) i free)) in
          let least : 1 ≤ length (decode k raw) = held.least in
          let most : length (decode k raw) ≤ 32 = held.most in
          record {
            least = omega arith;
            most = omega arith;
            places = every_set (good_place k) (decode k raw) i (on_entry f (get_or (decode k raw) i free)) held.places
                (place_good (get_or (decode k raw) i free) (good_at (decode k raw) i held.places));
            apart = ap distinct (keys_same (decode k raw) i) ∙ held.apart;
          }

      pub changed_order : in_order k (encode k (entry_changed f i (decode k raw))) ≡ true
      changed_order = encoded_in_order k law (entry_changed f i (decode k raw)) (good_cache_lem k (entry_changed f i (decode k raw)) changed_good)

      pub changed_back : decode k (encode k (entry_changed f i (decode k raw))) ≡ entry_changed f i (decode k raw)
      changed_back = decode_encode k law (entry_changed f i (decode k raw)) changed_good.places

      -- every other stays
      pub changed_other : (j : ℕ) → j ≢ i → get_or (decode k (encode k (entry_changed f i (decode k raw)))) j free ≡ get_or (decode k raw) j free
      unfolding entry_changed
      changed_other j n =
          ap (λ (ps : List (Place E)). get_or ps j free) changed_back
          ∙ get_or-set_other (decode k raw) i j (on_entry f (get_or (decode k raw) i free)) free n

      -- a free place stays
      pub free_stays : {u : ℕ} → u ≡ unit_at 0 (place_at i raw) → u ≡ 0 → i < place_count raw → raw ≡ encode k (entry_changed f i (decode k raw))
      unfolding entry_changed on_entry
      free_stays e h u =
          let here : get_or (decode k raw) i free ≡ free = decode_at k raw i free u ∙ place_free k (place_at i raw) (sym e ∙ h) in
          sym (encode_decode k raw order)
          ∙ (ap (encode k) (sym (set-get_or (decode k raw) i free))
          ∙ (λ j. encode k (set (decode k raw) i ((here ∙ ap (on_entry f) (sym here)) j))))

      -- a used place, written anew
      pub used_changed : (g : List ℕ → List ℕ) → ((e : E) → k.good e ≡ true → g (k.writes e) ≡ k.writes (f e)) → {u : ℕ} → u ≡ unit_at 0 (place_at i raw)
          → (u ≡ 0 → ⊥) → i < place_count raw → {m : List ℕ} → m ≡ changed i g raw → m ≡ encode k (entry_changed f i (decode k raw))
      unfolding entry_changed on_entry entry_at
      used_changed g w e n u d =
          let here : get_or (decode k raw) i free ≡ used (entry_at k i raw) =
          decode_at k raw i free u ∙ place_used k (place_at i raw) (ne_eqb (unit_at 0 (place_at i raw)) 0 (λ z. n (e ∙ z))) in
          let well : k.good (entry_at k i raw) ≡ true = entry_good k law raw i order u (entry_at k i raw) here in
          d ∙ (entry_changed_lem k law raw i order u (entry_at k i raw) here (f (entry_at k i raw)) g (w (entry_at k i raw) well) (t.good (entry_at k i raw) well)
          ∙ ap (λ (p : Place E). encode k (set (decode k raw) i (on_entry f p))) (sym here))

    -- every entry changed
    all_good : GoodCache k (map (on_entry f) (decode k raw))
    all_good =
        let l : length (map (on_entry f) (decode k raw)) ≡ length (decode k raw) = length-map (decode k raw) (on_entry f) in
        let least : 1 ≤ length (decode k raw) = held.least in
        let most : length (decode k raw) ≤ 32 = held.most in
        record {
          least = omega arith;
          most = omega arith;
          places = every_all (decode k raw) held.places;
          apart = ap distinct (keys_all (decode k raw)) ∙ held.apart;
        }

    pub all_order : in_order k (encode k (map (on_entry f) (decode k raw))) ≡ true
    all_order = encoded_in_order k law (map (on_entry f) (decode k raw)) (good_cache_lem k (map (on_entry f) (decode k raw)) all_good)

    pub all_back : decode k (encode k (map (on_entry f) (decode k raw))) ≡ map (on_entry f) (decode k raw)
    all_back = decode_encode k law (map (on_entry f) (decode k raw)) all_good.places

-- an expired entry
pub expire_tends : Tends referrals expire_entry
unfolding expire_entry
expire_tends = record {
  good = λ e h.
      let t : GoodReferral e = referral_told e h in
      good_referral_lem (expire_entry e) (record { prefixed = t.prefixed; some = t.some; few = t.few; each = t.each; first = t.first; hinted = t.hinted });
  key = λ e. refl;
}

-- its TTL is written over by two units
module _ (ts : List (List ℕ)) (hint : ℕ) (marks : List ℕ) (r n f a b c d : ℕ) (s : Shaped ts marks (r ∷ n ∷ f ∷ a ∷ b ∷ c ∷ d ∷ [])) where
  shaped : (x y : ℕ) → Shaped ts marks (r ∷ n ∷ f ∷ x ∷ y ∷ c ∷ d ∷ [])
  shaped x y = record { few_texts = s.few_texts; short = s.short; few_marks = s.few_marks; few_settings = omega arith }

  low : (i : ℕ) → i < 13 → 19 + i ≢ 22 → get_or (r ∷ n ∷ f ∷ a ∷ b ∷ c ∷ d ∷ []) i 0 ≡ get_or (r ∷ n ∷ f ∷ 0 ∷ b ∷ c ∷ d ∷ []) i 0
  low zero u h = refl
  low (suc zero) u h = refl
  low (suc (suc zero)) u h = refl
  low (suc (suc (suc zero))) u h = absurd (h refl)
  low (suc (suc (suc (suc i)))) u h = refl

  high : (i : ℕ) → i < 13 → 19 + i ≢ 23 → get_or (r ∷ n ∷ f ∷ 0 ∷ b ∷ c ∷ d ∷ []) i 0 ≡ get_or (r ∷ n ∷ f ∷ 0 ∷ 0 ∷ c ∷ d ∷ []) i 0
  high zero u h = refl
  high (suc zero) u h = refl
  high (suc (suc zero)) u h = refl
  high (suc (suc (suc zero))) u h = refl
  high (suc (suc (suc (suc zero)))) u h = absurd (h refl)
  high (suc (suc (suc (suc (suc i))))) u h = refl

  two_written : put_unit 23 0 (put_unit 22 0 (written ts hint marks (r ∷ n ∷ f ∷ a ∷ b ∷ c ∷ d ∷ []))) ≡ written ts hint marks (r ∷ n ∷ f ∷ 0 ∷ 0 ∷ c ∷ d ∷ [])
  two_written =
      ap (put_unit 23 0)
      (put_written hint hint s (shaped 0 b) 22 0 (omega arith) (λ i u h. refl) (λ h. refl) (λ h. refl) (λ i u h. refl) low
      (written_setting ts hint marks _ (shaped 0 b) 3 (omega arith)) (λ i u. refl))
      ∙ put_written hint hint (shaped 0 b) (shaped 0 0) 23 0 (omega arith) (λ i u h. refl) (λ h. refl) (λ h. refl) (λ i u h. refl) high
      (written_setting ts hint marks _ (shaped 0 0) 4 (omega arith)) (λ i u. refl)

  wide_written : put_wide 22 0 (written ts hint marks (r ∷ n ∷ f ∷ a ∷ b ∷ c ∷ d ∷ [])) ≡ written ts hint marks (r ∷ n ∷ f ∷ 0 ∷ 0 ∷ c ∷ d ∷ [])
  unfolding put_wide put_unit
  wide_written =
      let l : length (written ts hint marks (r ∷ n ∷ f ∷ a ∷ b ∷ c ∷ d ∷ [])) ≡ 2336 = length_written ts hint marks _ s in
      sym (pasted_join (written ts hint marks (r ∷ n ∷ f ∷ a ∷ b ∷ c ∷ d ∷ [])) 22 (0 ∷ []) (0 ∷ []) (omega arith)) ∙ two_written

pub expire_units : (e : Referral) → good_referral e ≡ true → put_wide 22 0 (referral_units e) ≡ referral_units (expire_entry e)
unfolding referral_units settings_units expire_entry
expire_units e h =
    wide_written (e.prefix ∷ map (λ t. t.path) e.targets) e.hint (map (λ t. flag_unit t.opens) e.targets)
    (flag_unit e.settings.root) (flag_unit e.settings.interlink) (flag_unit e.settings.failback) (e.settings.ttl % 65536) (e.settings.ttl / 65536) (e.settings.taken % 65536) (e.settings.taken / 65536) (referral_shape e h)

-- the DC after another is one of them; of none it is the first
after_within : (j n : ℕ) → (dc_after j n ≡ 0) ⊎ (dc_after j n < n)
unfolding dc_after
after_within j n = go (told (leb n (j + 1)))
  where
    go : (leb n (j + 1) ≡ true) ⊎ (leb n (j + 1) ≡ false) → (dc_after j n ≡ 0) ⊎ (dc_after j n < n)
    go (inl t) = inl (choose_yes 0 (j + 1) t)
    go (inr t) = inr (rw (choose_no 0 (j + 1) t) (leb-false n (j + 1) t))

pub after_below : (j n : ℕ) → 0 < n → dc_after j n < n
after_below j n h = go (after_within j n)
  where
    go : (dc_after j n ≡ 0) ⊎ (dc_after j n < n) → dc_after j n < n
    go (inl e) = omega arith
    go (inr u) = u

pub next_tends : Tends domains next_dc
unfolding next_dc dc_hint_to
next_tends = record {
  good = λ d h.
      let t : GoodDomain d = domain_told d h in
      good_domain_lem (next_dc d) (record { named = t.named; few = t.few; each = t.each; hinted = hint_good d.dcs _ (after_within d.hint (length d.dcs)) });
  key = λ d. refl;
}

-- the loop over the places
pub expired_more : (i : ℕ) (ps : List (Place Referral)) → entry_changed expire_entry i (expired_to i ps) ≡ expired_to (suc i) ps
unfolding entry_changed expired_to
expired_more zero [] = refl
expired_more zero (p ∷ ps) = refl
expired_more (suc i) [] = refl
expired_more (suc i) (p ∷ ps) = λ j. on_entry expire_entry p ∷ expired_more i ps j

pub expired_length : (i : ℕ) (ps : List (Place Referral)) → length (expired_to i ps) ≡ length ps
unfolding expired_to
expired_length zero ps = refl
expired_length (suc i) [] = refl
expired_length (suc i) (p ∷ ps) = ap suc (expired_length i ps)

pub expired_all : (i : ℕ) (ps : List (Place Referral)) → length ps ≤ i → expired_to i ps ≡ map (on_entry expire_entry) ps
unfolding expired_to
expired_all zero [] h = refl
expired_all zero (p ∷ ps) h = absurd (omega arith)
expired_all (suc i) [] h = refl
expired_all (suc i) (p ∷ ps) h = λ j. on_entry expire_entry p ∷ expired_all i ps (omega arith) j
