-- Laws of the calls, test by test.
use mathlib.Core.Path.{◌≡◌, refl, sym, ap, ◌∙◌}
use mathlib.Core.Bool.{Bool, true, false}
use mathlib.Core.List.{List}
use mathlib.Core.Logic.{◌⊎◌, inl, inr}
use Prim.Native.Nat.{ℕ, ◌+◌, ◌-◌, ◌≤◌, ◌<◌}
use native.Mathlib.Numerals.{add-one}
use native.Mathlib.Omega.{arith}
use lib.ListN.{length, get_or, set, take, replicate}
use lib.Seq.{take_at}
use lib.Dec.{leb}
use borrow.Author.Tests.{leb-true, le-leb, lt-leb, lt-ltb, le-ltb}
use Rattle.std.specs.Prelude.{Result, Ok, Err, ⊤, MatchResult, Option, Some, None}
use Rattle.laws.specs.Choice.{choose}
use Rattle.laws.specs.Lists.{roomed}
use Rattle.laws.proofs.Choices.{choose_yes, choose_no}
use Rattle.laws.proofs.Orders.{told}
use Rattle.unc.specs.names.Paths.{good_path, normalised, component_count}
use Rattle.unc.specs.names.Code.{form_within, room_after}
use Rattle.unc.specs.declared.names.Form.{Form}
use Rattle.unc.specs.declared.names.PathError.{PathError}
use Rattle.unc.specs.declared.names.PathError.TheVariants.{Bad, Long}
use Rattle.unc.proofs.names.FormLaws.{told_bad, told_long, told_good, told_fits, told_units}
use Rattle.cache.specs.places.Layout.{place_count}
use Rattle.cache.specs.order.Entries.{Domain, Place, free, used}
use Rattle.cache.specs.order.Memory.{Kind, referrals, domains, decode, encode, in_order}
use Rattle.cache.proofs.order.MemoryLaws.{length_decode, encode_decode}
use Rattle.cache.proofs.order.KindLaws.{referrals_lawful}
use Rattle.cache_lookup.specs.Lookup.{with_key, on_entry, dc_hint_to, dc_hinted}
use Rattle.cache_lookup.specs.Code.{entry_at}
use Rattle.cache_lookup.proofs.LookupLaws.{KeyAt, key_found, used_inside}
use Rattle.cache_lookup.proofs.StoreLaws.{entry_is}
use Rattle.cache.proofs.order.KindLaws.{domains_lawful}
use Rattle.cache_upkeep.specs.Calls.{upkeep_number, error_number, expire_entry, dc_after, next_dc, has_dc, entry_changed, upkept, Upkept, expire_all_call, found_expired, expire_call, found_moved, next_dc_call}
use Rattle.cache_upkeep.specs.Code.{expired_to, formless}
use Rattle.cache_upkeep.specs.declared.UpkeepError.{UpkeepError}
use Rattle.cache_upkeep.specs.declared.UpkeepError.TheVariants.{BadPath, LongPath, NotInOrder, NoEntry}
use Rattle.cache_upkeep.proofs.EntryLaws.{expire_tends, changed_order, changed_back, expired_more, expired_length, expired_all, after_below}

-- what was found lies in the memory
pub found_fits : {E : Type 0} (k : Kind E) (raw name : List ℕ) (i : ℕ) {r : Option ℕ} → r ≡ with_key k name (decode k raw) → r ≡ Some i → i < place_count raw
found_fits k raw name i e h =
    let a : KeyAt k name (decode k raw) i = key_found k name (decode k raw) i (sym e ∙ h) in
    let u : i < length (decode k raw) = used_inside (decode k raw) i a.entry a.here in
    omega (arith, length_decode k raw)

-- `expire_all`: after the first i places
pub record Sofar (raw : List ℕ) (i : ℕ) (m : List ℕ) : Type 0 where
  pub order : in_order referrals m ≡ true
  pub holds : decode referrals m ≡ expired_to i (decode referrals raw)

module _ (raw : List ℕ) where
  pub all_refused : {b : Bool} → b ≡ in_order referrals raw → b ≡ false → upkept (Err NotInOrder) raw ≡ expire_all_call raw
  unfolding expire_all_call
  all_refused e h = sym (choose_no _ _ (sym e ∙ h))

  pub sofar_start : {b : Bool} → b ≡ in_order referrals raw → b ≡ true → Sofar raw 0 raw
  unfolding expired_to
  sofar_start e h = record { order = sym e ∙ h; holds = refl }

  module _ (i : ℕ) (m : List ℕ) (s : Sofar raw i m) where
    pub sofar_count : place_count m ≡ place_count raw
    sofar_count = sym (length_decode referrals m) ∙ (ap length s.holds ∙ (expired_length i (decode referrals raw) ∙ length_decode referrals raw))

    pub sofar_more : {o : List ℕ} → o ≡ encode referrals (entry_changed expire_entry i (decode referrals m)) → Sofar raw (i + 1) o
    sofar_more e = record {
      order = ap (in_order referrals) e ∙ changed_order referrals expire_entry expire_tends referrals_lawful m s.order i;
      holds = ap (decode referrals) e
          ∙ (changed_back referrals expire_entry expire_tends referrals_lawful m s.order i
          ∙ (ap (entry_changed expire_entry i) s.holds
          ∙ (expired_more i (decode referrals raw) ∙ ap (λ (n : ℕ). expired_to n (decode referrals raw)) (sym (add-one i)))));
    }

    pub sofar_end : {b : Bool} → b ≡ in_order referrals raw → b ≡ true → place_count raw ≤ i → upkept (Ok tt) m ≡ expire_all_call raw
    unfolding expire_all_call
    sofar_end e h u =
        let l : length (decode referrals raw) ≤ i = omega (arith, length_decode referrals raw) in
        ap (upkept (Ok tt)) (sym (encode_decode referrals m s.order) ∙ ap (encode referrals) (s.holds ∙ expired_all i (decode referrals raw) l))
        ∙ sym (choose_yes _ _ (sym e ∙ h))

-- the entry of an equal prefix
module _ (raw prefix : List ℕ) {r : Option ℕ} (e : r ≡ with_key referrals prefix (decode referrals raw)) where
  pub prefix_none : r ≡ None → upkept (Err NoEntry) raw ≡ found_expired (with_key referrals prefix (decode referrals raw)) raw
  unfolding found_expired
  prefix_none h = ap (λ (x : Option ℕ). found_expired x raw) (sym h ∙ e)

  pub prefix_found : (i : ℕ) → r ≡ Some i → {m : List ℕ} → m ≡ encode referrals (entry_changed expire_entry i (decode referrals raw))
      → upkept (Ok tt) m ≡ found_expired (with_key referrals prefix (decode referrals raw)) raw
  unfolding found_expired
  prefix_found i h d = ap (upkept (Ok tt)) d ∙ ap (λ (x : Option ℕ). found_expired x raw) (sym h ∙ e)

-- `expire`
module _ (raw path : List ℕ) {b : Bool} (e : b ≡ in_order referrals raw) where
  pub one_refused : b ≡ false → upkept (Err NotInOrder) raw ≡ expire_call raw path
  unfolding expire_call
  one_refused h = sym (choose_no _ _ (sym e ∙ h))

  module _ (h : b ≡ true) {most : ℕ} {f : Result Form PathError} (g : f ≡ form_within most path) (w : most ≡ 256) where
    form : f ≡ form_within 256 path
    form = g ∙ ap (λ (n : ℕ). form_within n path) w

    pub one_formless : (x : PathError) → f ≡ Err x → upkept (Err (formless x)) raw ≡ expire_call raw path
    unfolding expire_call formless
    one_formless Bad k = sym (choose_yes _ _ (sym e ∙ h) ∙ choose_no _ _ (told_bad 256 path (sym form ∙ k)))
    one_formless Long k =
        let z = told_long 256 path (sym form ∙ k) in
        sym (choose_yes _ _ (sym e ∙ h) ∙ (choose_yes _ _ z.0 ∙ choose_no _ _ z.1))

    module _ {n : Form} (q : f ≡ Ok n) where
      good : good_path path ≡ true
      good = told_good 256 path (sym form ∙ q)

      short : length (normalised path) ≤ 256
      short = told_fits 256 path (sym form ∙ q)

      long : n.units ≡ length (normalised path)
      long = told_units 256 path (sym form ∙ q)

      pub one_fits : n.units ≤ 256
      one_fits = omega (arith, short, long)

      -- the room holds the normalised path
      one_room : (room : List ℕ) {m : List ℕ} → m ≡ room_after path room → length room ≡ 256 → take n.units m ≡ normalised path
      unfolding room_after roomed
      one_room room d l =
          let s : length (normalised path) ≤ length room = omega (arith, short) in
          ap (take n.units) (d ∙ (choose_yes _ _ good ∙ choose_yes _ _ (le-leb _ _ s)))
          ∙ take_at (normalised path) (replicate (length room - length (normalised path)) 0) n.units (sym long)

      pub one_good : (room : List ℕ) {m : List ℕ} {x : Upkept} → m ≡ room_after path room → x ≡ found_expired (with_key referrals (take n.units m) (decode referrals raw)) raw → length room ≡ 256
          → x ≡ expire_call raw path
      unfolding expire_call
      one_good room d x l =
          x
          ∙ (ap (λ (p : List ℕ). found_expired (with_key referrals p (decode referrals raw)) raw) (one_room room d l)
          ∙ sym (choose_yes _ _ (sym e ∙ h) ∙ (choose_yes _ _ good ∙ choose_yes _ _ (le-leb _ _ short))))

-- the DC after another
pub after_round : (j n : ℕ) → n ≤ j + 1 → 0 ≡ dc_after j n
unfolding dc_after
after_round j n h = sym (choose_yes 0 (j + 1) (le-leb n (j + 1) h))

pub after_next : (j n : ℕ) → j + 1 < n → j + 1 ≡ dc_after j n
unfolding dc_after
after_next j n h = sym (choose_no 0 (j + 1) (lt-leb n (j + 1) h))

-- `next_dc`
module _ (raw name : List ℕ) {b : Bool} (e : b ≡ in_order domains raw) where
  pub dc_refused : b ≡ false → upkept (Err NotInOrder) raw ≡ next_dc_call raw name
  unfolding next_dc_call
  dc_refused h = sym (choose_no _ _ (sym e ∙ h))

  module _ (h : b ≡ true) {r : Option ℕ} (g : r ≡ with_key domains name (decode domains raw)) where
    as_found : found_moved r raw ≡ next_dc_call raw name
    unfolding next_dc_call
    as_found = ap (λ (x : Option ℕ). found_moved x raw) g ∙ sym (choose_yes _ _ (sym e ∙ h))

    pub dc_none : r ≡ None → upkept (Err NoEntry) raw ≡ next_dc_call raw name
    unfolding found_moved
    dc_none k = ap (λ (x : Option ℕ). found_moved x raw) (sym k) ∙ as_found

    module _ (i : ℕ) (k : r ≡ Some i) where
      pub dc_fits : i < place_count raw
      dc_fits = found_fits domains raw name i g k

      here : get_or (decode domains raw) i free ≡ used (entry_at domains i raw)
      here =
          let a : KeyAt domains name (decode domains raw) i = key_found domains name (decode domains raw) i (sym g ∙ k) in
          a.here ∙ ap used (sym (entry_is domains domains_lawful raw i (sym e ∙ h) dc_fits a.entry a.here))

      module _ {n : ℕ} (c : n ≡ length (entry_at domains i raw).dcs) where
        pub dc_bare : n ≡ 0 → upkept (Err NoEntry) raw ≡ next_dc_call raw name
        unfolding found_moved has_dc
        dc_bare z =
            let none : has_dc (get_or (decode domains raw) i free) ≡ false =
            ap has_dc here ∙ le-ltb 0 (length (entry_at domains i raw).dcs) (omega arith) in
            sym (choose_no _ _ none) ∙ (ap (λ (x : Option ℕ). found_moved x raw) (sym k) ∙ as_found)

        module _ (some : n ≡ 0 → ⊥) {j v : ℕ} (ej : j ≡ (entry_at domains i raw).hint) (ev : v ≡ dc_after j n) where
          pub dc_below : v < length (entry_at domains i raw).dcs
          dc_below = let u : dc_after j n < n = after_below j n (omega arith) in omega arith

          pub dc_moved : {m : List ℕ} → m ≡ encode domains (dc_hinted i v (decode domains raw)) → upkept (Ok tt) m ≡ next_dc_call raw name
          unfolding found_moved has_dc dc_hinted entry_changed on_entry next_dc
          dc_moved d =
              let has : has_dc (get_or (decode domains raw) i free) ≡ true =
              ap has_dc here ∙ lt-ltb 0 (length (entry_at domains i raw).dcs) (omega arith) in
              let moves : v ≡ dc_after (entry_at domains i raw).hint (length (entry_at domains i raw).dcs) = ev ∙ (λ x. dc_after (ej x) (c x)) in
              let one : on_entry (dc_hint_to v) (get_or (decode domains raw) i free) ≡ on_entry next_dc (get_or (decode domains raw) i free) =
              ap (on_entry (dc_hint_to v)) here ∙ ((λ x. used (dc_hint_to (moves x) (entry_at domains i raw))) ∙ ap (on_entry next_dc) (sym here)) in
              ap (upkept (Ok tt)) (d ∙ ap (λ (p : Place Domain). encode domains (set (decode domains raw) i p)) one)
              ∙ (sym (choose_yes _ _ has) ∙ (ap (λ (x : Option ℕ). found_moved x raw) (sym k) ∙ as_found))

-- the number that is told of a call, and the cache that it leaves
pub call_told_lem : {a : Result ⊤ UpkeepError} {m : List ℕ} {u : Upkept} {n : ℕ} → upkept a m ≡ u → MatchResult a (λ z. n ≡ 0) (λ e. n ≡ error_number e) → (n ≡ upkeep_number u.answer) × (m ≡ u.cache)
unfolding upkeep_number
call_told_lem {a = Ok z} e h = (h ∙ ap (λ (x : Upkept). upkeep_number x.answer) e, ap (λ (x : Upkept). x.cache) e)
call_told_lem {a = Err z} e h = (h ∙ ap (λ (x : Upkept). upkeep_number x.answer) e, ap (λ (x : Upkept). x.cache) e)
