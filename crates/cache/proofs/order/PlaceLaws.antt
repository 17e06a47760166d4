-- Laws of the order test of one used place: what it looks at says that the entry is good and that the place is what it writes.
use mathlib.Core.Path.{◌≡◌, refl, sym, ap, ◌∙◌, subst}
use mathlib.Core.Bool.{Bool, true, false, ◌&&◌, ◌||◌, not}
use mathlib.Core.List.{List, [], ◌∷◌, map}
use mathlib.Core.Logic.{◌≢◌, ◌⊎◌, inl, inr, ⊎_elim}
use Prim.Native.Nat.{ℕ, zero, suc, ◌+◌, ◌-◌, ◌*◌, ◌/◌, ◌%◌, ◌≤◌, ◌<◌}
use native.Mathlib.Numerals.{one-add}
use native.Mathlib.Omega.{arith}
use lib.ListN.{length, get_or}
use lib.Dec.{leb, ltb, eqb}
use borrow.Author.Tests.{eqb-true, eqb-false, eq-eqb, ne_eqb, leb-true, le-leb, ltb-true, lt-ltb, not-true}
use Rattle.laws.specs.Choice.{choose}
use Rattle.laws.specs.Lists.{every, part}
use Rattle.laws.specs.Listed.{listed, same_list}
use Rattle.laws.proofs.Choices.{choose_yes, choose_no, and_left, and_right, and_both, or_told, or_right}
use Rattle.laws.proofs.Orders.{lt_or_le}
use Rattle.laws.proofs.Tests.{both_ways}
use Rattle.laws.proofs.Parts.{roomed_blank}
use Rattle.laws.proofs.Listed.{length_listed, get_d_listed, listed_same, map_listed, every_listed, listed_every, same_list_true}
use Rattle.unc.specs.names.Names.{good_name}
use Rattle.cache.specs.places.Layout.{unit_at, wide_at, flag_at, flag_unit, text_at, list_count, written, count_unit, hint_unit, mark_units, root_unit, ttl_unit, taken_unit, head_units}
use Rattle.cache.specs.places.Code.{place_texts, marks_of, settings_of, tidy, zeros, free_units}
use Rattle.cache.proofs.places.WrittenLaws.{same_written, written_mark, written_setting}
use Rattle.cache.proofs.places.TidyLaws.{tidy_told}
use Rattle.cache.proofs.places.ZeroLaws.{zero_at, zeros_all}
use Rattle.unc.specs.names.Paths.{Target}
use Rattle.cache.specs.order.Entries.{Referral}
use Rattle.cache.specs.order.Order.{good_prefix, first_opens_none, good_referral, good_domain, good_dc_hint}
use Rattle.cache.specs.order.Memory.{target_of, referral_of, settings_units, referral_units, domain_of, domain_units, settings_at}
use Rattle.cache.specs.order.Code.{good_text, good_texts, good_flags}
use Rattle.cache.proofs.order.KindLaws.{GoodReferral, referral_told, good_referral_lem, referral_shape, GoodDomain, domain_told, good_domain_lem, domain_shape, every_path, path_every}

flag_small : (b : Bool) → flag_unit b ≤ 1
unfolding flag_unit choose
flag_small true = omega arith
flag_small false = omega arith

-- a flag that is 0 or 1 is what its reading writes
flag_unit_lem : (u : ℕ) → u ≤ 1 → flag_unit (eqb u 1) ≡ u
unfolding flag_unit
flag_unit_lem u h = go (lt_or_le u 1)
  where
    go : (u < 1) ⊎ (1 ≤ u) → choose (eqb u 1) 1 0 ≡ u
    go (inl k) = choose_no 1 0 (ne_eqb u 1 (λ e. omega arith)) ∙ (let z : 0 ≡ u = omega arith in z)
    go (inr k) = choose_yes 1 0 (eq-eqb u 1 (omega arith)) ∙ (let z : 1 ≡ u = omega arith in z)

-- the texts of a place are the entry's key and list
texts_listed : (piece : List ℕ) → place_texts piece ≡ text_at 0 piece ∷ listed (list_count piece) (λ j. text_at (1 + j) piece)
unfolding place_texts listed
texts_listed piece =
    rw (one-add (list_count piece))
    (λ i. text_at 0 piece ∷ listed_same (list_count piece) (λ j. text_at (suc j) piece) (λ j. text_at (1 + j) piece) (λ j h. ap (λ (n : ℕ). text_at n piece) (sym (one-add j))) i)

module _ (piece : List ℕ) where
  referral_texts : place_texts piece ≡ (referral_of piece).prefix ∷ map (λ t. t.path) (referral_of piece).targets
  unfolding referral_of target_of settings_at
  referral_texts =
      texts_listed piece ∙ (λ i. text_at 0 piece ∷ sym (map_listed (λ (t : Target). t.path) (list_count piece) (λ j. target_of j piece)) i)

  domain_texts : place_texts piece ≡ (domain_of piece).name ∷ (domain_of piece).dcs
  unfolding domain_of
  domain_texts = texts_listed piece

-- the flags that an entry writes are small
small_marks : (ts : List Target) (j : ℕ) → get_or (map (λ t. flag_unit t.opens) ts) j 0 ≤ 1
small_marks [] j = omega arith
small_marks (t ∷ ts) zero = flag_small t.opens
small_marks (t ∷ ts) (suc j) = small_marks ts j

small_settings : (e : Referral) (j : ℕ) → j < 3 → get_or (settings_units e.settings) j 0 ≤ 1
unfolding settings_units
small_settings e zero h = flag_small e.settings.root
small_settings e (suc zero) h = flag_small e.settings.interlink
small_settings e (suc (suc zero)) h = flag_small e.settings.failback
small_settings e (suc (suc (suc j))) h = absurd (omega arith)

first_opens : (n : ℕ) (f : ℕ → Target) → 0 < n → first_opens_none (listed n f) ≡ not (f 0).opens
unfolding listed first_opens_none
first_opens zero f h = absurd (omega arith)
first_opens (suc n) f h = refl

-- what the test of a used place of the referral cache looks at
pub record ReferralTests (piece : List ℕ) : Type 0 where
  pub tidied : tidy piece ≡ true
  pub flags : good_flags piece ≡ true
  pub first : unit_at mark_units piece ≡ 0
  pub hinted : unit_at hint_unit piece < unit_at count_unit piece
  pub texts : good_texts false piece ≡ true

module _ (piece : List ℕ) (whole : length piece ≡ 2336) (low : unit_at ttl_unit piece < 65536) (low' : unit_at taken_unit piece < 65536) where
  flag_at_lem : good_flags piece ≡ true → (j : ℕ) → j < ttl_unit - mark_units → unit_at (mark_units + j) piece ≤ 1
  unfolding good_flags
  flag_at_lem h j u = leb-true _ 1 (every_listed (λ v. leb v 1) (ttl_unit - mark_units) (λ i. unit_at (mark_units + i) piece) h j u)

  marks_again : good_flags piece ≡ true → map (λ t. flag_unit t.opens) (referral_of piece).targets ≡ marks_of piece
  unfolding referral_of target_of flag_at marks_of settings_at
  marks_again h =
      map_listed (λ (t : Target). flag_unit t.opens) (list_count piece) (λ j. target_of j piece)
      ∙ listed_same (list_count piece) (λ j. flag_unit (eqb (unit_at (mark_units + j) piece) 1)) (λ j. unit_at (mark_units + j) piece)
      (λ j u. flag_unit_lem _ (flag_at_lem h j (omega arith)))

  settings_again : good_flags piece ≡ true → settings_units (settings_at piece) ≡ settings_of piece
  unfolding settings_units referral_of flag_at wide_at settings_of listed settings_at
  settings_again h =
      let a : (unit_at ttl_unit piece + 65536 * unit_at (ttl_unit + 1) piece) % 65536 ≡ unit_at ttl_unit piece = omega arith in
      let b : (unit_at ttl_unit piece + 65536 * unit_at (ttl_unit + 1) piece) / 65536 ≡ unit_at (ttl_unit + 1) piece = omega arith in
      let c : (unit_at taken_unit piece + 65536 * unit_at (taken_unit + 1) piece) % 65536 ≡ unit_at taken_unit piece = omega arith in
      let d : (unit_at taken_unit piece + 65536 * unit_at (taken_unit + 1) piece) / 65536 ≡ unit_at (taken_unit + 1) piece = omega arith in
      λ i. flag_unit_lem _ (flag_at_lem h 8 (omega arith)) i
      ∷ flag_unit_lem _ (flag_at_lem h 9 (omega arith)) i
      ∷ flag_unit_lem _ (flag_at_lem h 10 (omega arith)) i
      ∷ a i ∷ b i ∷ c i ∷ d i ∷ []

  -- with its flags 0 or 1 a place is written again as it is read
  written_again : good_flags piece ≡ true
      → referral_units (referral_of piece) ≡ written (place_texts piece) (unit_at hint_unit piece) (marks_of piece) (settings_of piece)
  unfolding referral_units referral_of settings_at
  written_again h = λ i. written (sym (referral_texts piece) i) (unit_at hint_unit piece) (marks_again h i) (settings_again h i)

  units_tidy : good_flags piece ≡ true → same_list (referral_units (referral_of piece)) piece ≡ tidy piece
  unfolding tidy
  units_tidy h = ap (λ (x : List ℕ). same_list x piece) (written_again h)

  -- the number of targets
  count_targets : length (referral_of piece).targets ≡ list_count piece
  unfolding referral_of settings_at
  count_targets = length_listed (list_count piece) (λ j. target_of j piece)

  first_mark : 0 < list_count piece → first_opens_none (referral_of piece).targets ≡ not (flag_at mark_units piece)
  unfolding referral_of target_of settings_at
  first_mark h = first_opens (list_count piece) (λ j. target_of j piece) h

  flag_off : unit_at mark_units piece ≡ 0 → flag_at mark_units piece ≡ false
  unfolding flag_at
  flag_off h = ne_eqb (unit_at mark_units piece) 1 (λ e. omega arith)

  off_flag : flag_at mark_units piece ≡ false → unit_at mark_units piece ≡ 1 → ⊥
  unfolding flag_at
  off_flag h = eqb-false (unit_at mark_units piece) 1 h

  hint_below : {n m : ℕ} → unit_at hint_unit piece < n → n ≤ m → (referral_of piece).hint < m
  unfolding referral_of settings_at
  hint_below h u = omega arith

  below_hint : {n : ℕ} → (referral_of piece).hint < n → unit_at hint_unit piece < n
  unfolding referral_of settings_at
  below_hint h = h

  pub referral_passes : ReferralTests piece → (good_referral (referral_of piece) && same_list (referral_units (referral_of piece)) piece) ≡ true
  unfolding good_texts good_text choose every
  referral_passes t =
      let f : unit_at count_unit piece ≤ 8 = (tidy_told piece whole t.tidied).few in
      let n : length (referral_of piece).targets ≡ list_count piece = count_targets in
      let x : every good_prefix ((referral_of piece).prefix ∷ map (λ u. u.path) (referral_of piece).targets) ≡ true =
      subst (λ (ts : List (List ℕ)). every good_prefix ts ≡ true) (referral_texts piece) t.texts in
      let h : unit_at hint_unit piece < unit_at count_unit piece = t.hinted in
      and_both
      (good_referral_lem (referral_of piece) (record {
        prefixed = and_left _ _ x;
        some = omega arith;
        few = omega arith;
        each = path_every (referral_of piece).targets (and_right (good_prefix (referral_of piece).prefix) _ x);
        first = first_mark (omega arith) ∙ ap not (flag_off t.first);
        hinted = hint_below h (omega arith);
      }))
      (units_tidy t.flags ∙ t.tidied)

  module _ (h : (good_referral (referral_of piece) && same_list (referral_units (referral_of piece)) piece) ≡ true) where
    told_good : GoodReferral (referral_of piece)
    told_good = referral_told (referral_of piece) (and_left _ _ h)

    told_units : piece ≡ referral_units (referral_of piece)
    told_units = sym (same_list_true _ piece (and_right (good_referral (referral_of piece)) _ h))

    small_flag : (j : ℕ) → j < ttl_unit - mark_units → unit_at (mark_units + j) piece ≤ 1
    unfolding referral_units
    small_flag j u = go (lt_or_le j 8)
      where
        go : (j < 8) ⊎ (8 ≤ j) → unit_at (mark_units + j) piece ≤ 1
        go (inl v) =
            subst (λ (n : ℕ). n ≤ 1) (sym (ap (unit_at (mark_units + j)) told_units ∙ written_mark _ _ _ _ (referral_shape (referral_of piece) (and_left _ _ h)) j v))
            (small_marks (referral_of piece).targets j)
        go (inr v) =
            let e : mark_units + j ≡ root_unit + (j - 8) = omega arith in
            rw e
            (subst (λ (n : ℕ). n ≤ 1)
            (sym (ap (unit_at (root_unit + (j - 8))) told_units ∙ written_setting _ _ _ _ (referral_shape (referral_of piece) (and_left _ _ h)) (j - 8) (omega arith)))
            (small_settings (referral_of piece) (j - 8) (omega arith)))

    pub referral_tests : ReferralTests piece
    unfolding good_flags good_texts good_text choose every
    referral_tests =
        let flagged : good_flags piece ≡ true = listed_every (λ v. leb v 1) (ttl_unit - mark_units) (λ i. unit_at (mark_units + i) piece) (λ j u. le-leb (unit_at (mark_units + j) piece) 1 (small_flag j u)) in
        let tidied : tidy piece ≡ true = sym (units_tidy flagged) ∙ and_right (good_referral (referral_of piece)) _ h in
        let n : length (referral_of piece).targets ≡ list_count piece = count_targets in
        let f : unit_at count_unit piece ≤ 8 = (tidy_told piece whole tidied).few in
        let s : 1 ≤ length (referral_of piece).targets = told_good.some in
        let b : unit_at hint_unit piece < length (referral_of piece).targets = below_hint told_good.hinted in
        let m : unit_at mark_units piece ≤ 1 = small_flag 0 (omega arith) in
        let z : unit_at mark_units piece ≢ 1 = off_flag (not-true _ (sym (first_mark (omega arith)) ∙ told_good.first)) in
        record {
          tidied = tidied;
          flags = flagged;
          first = omega arith;
          hinted = omega arith;
          texts = subst (λ (ts : List (List ℕ)). every good_prefix ts ≡ true) (sym (referral_texts piece))
              (and_both told_good.prefixed (every_path (referral_of piece).targets told_good.each));
        }

-- what the test of a used place of the domain cache looks at
pub record DomainTests (piece : List ℕ) : Type 0 where
  pub tidied : tidy piece ≡ true
  pub bare : zeros (part mark_units (free_units - mark_units) piece) ≡ true
  pub hinted : (unit_at hint_unit piece ≡ 0) ⊎ (unit_at hint_unit piece < unit_at count_unit piece)
  pub texts : good_texts true piece ≡ true

-- DCHint is 0, or below the number of DCs
pub hint_good : (dcs : List (List ℕ)) (h : ℕ) → (h ≡ 0) ⊎ (h < length dcs) → good_dc_hint dcs h ≡ true
unfolding good_dc_hint choose
hint_good [] h (inl e) = eq-eqb h 0 e
hint_good [] h (inr u) = absurd (omega arith)
hint_good (d ∷ dcs) h (inl e) = choose_no _ _ (ne_eqb (length (d ∷ dcs)) 0 (λ z. omega arith)) ∙ lt-ltb h (length (d ∷ dcs)) (omega arith)
hint_good (d ∷ dcs) h (inr u) = choose_no _ _ (ne_eqb (length (d ∷ dcs)) 0 (λ z. omega arith)) ∙ lt-ltb h (length (d ∷ dcs)) u

good_hint : (dcs : List (List ℕ)) (h : ℕ) → good_dc_hint dcs h ≡ true → (h ≡ 0) ⊎ (h < length dcs)
unfolding good_dc_hint choose
good_hint [] h t = inl (eqb-true h 0 t)
good_hint (d ∷ dcs) h t =
    inr (ltb-true h (length (d ∷ dcs)) (sym (choose_no (eqb h 0) (ltb h (length (d ∷ dcs))) (ne_eqb (length (d ∷ dcs)) 0 (λ z. omega arith))) ∙ t))

module _ (piece : List ℕ) (whole : length piece ≡ 2336) where
  bare_at : zeros (part mark_units (free_units - mark_units) piece) ≡ true → (i : ℕ) → mark_units ≤ i → i < free_units → unit_at i piece ≡ 0
  bare_at h i a b = zero_at piece mark_units (free_units - mark_units) i h (omega arith) a b

  -- without marks and settings a place is written again as it is read
  bare_again : zeros (part mark_units (free_units - mark_units) piece) ≡ true
      → domain_units (domain_of piece) ≡ written (place_texts piece) (unit_at hint_unit piece) (marks_of piece) (settings_of piece)
  unfolding domain_units domain_of marks_of settings_of
  bare_again h =
      ap (λ (ts : List (List ℕ)). written ts (unit_at hint_unit piece) [] []) (sym (domain_texts piece))
      ∙ sym (same_written (place_texts piece) (unit_at hint_unit piece) (marks_of piece) (settings_of piece) [] []
      (roomed_blank 8 (marks_of piece) (simp length_listed (omega arith))
      (λ i u. let v : i < list_count piece = simp length_listed at u in
      get_d_listed (list_count piece) (λ k. unit_at (mark_units + k) piece) i 0 v ∙ bare_at h (mark_units + i) (omega arith) (omega arith)))
      (roomed_blank (head_units - root_unit) (settings_of piece) (simp length_listed (omega arith))
      (λ i u. let v : i < 7 = simp length_listed at u in
      get_d_listed (free_units - root_unit) (λ k. unit_at (root_unit + k) piece) i 0 v ∙ bare_at h (root_unit + i) (omega arith) (omega arith))))

  bare_tidy : zeros (part mark_units (free_units - mark_units) piece) ≡ true → same_list (domain_units (domain_of piece)) piece ≡ tidy piece
  unfolding tidy
  bare_tidy h = ap (λ (x : List ℕ). same_list x piece) (bare_again h)

  count_dcs : length (domain_of piece).dcs ≡ list_count piece
  unfolding domain_of
  count_dcs = length_listed (list_count piece) (λ j. text_at (1 + j) piece)

  domain_hint : (domain_of piece).hint ≡ unit_at hint_unit piece
  unfolding domain_of
  domain_hint = refl

  pub domain_passes : DomainTests piece → (good_domain (domain_of piece) && same_list (domain_units (domain_of piece)) piece) ≡ true
  unfolding good_texts good_text choose every
  domain_passes t =
      let f : unit_at count_unit piece ≤ 8 = (tidy_told piece whole t.tidied).few in
      let n : length (domain_of piece).dcs ≡ list_count piece = count_dcs in
      let x : every good_name ((domain_of piece).name ∷ (domain_of piece).dcs) ≡ true =
      subst (λ (ts : List (List ℕ)). every good_name ts ≡ true) (domain_texts piece) t.texts in
      and_both
      (good_domain_lem (domain_of piece) (record {
        named = and_left _ _ x;
        few = omega arith;
        each = and_right (good_name (domain_of piece).name) _ x;
        hinted = hint_good (domain_of piece).dcs (domain_of piece).hint (at n f t.hinted);
      }))
      (bare_tidy t.bare ∙ t.tidied)
    where
      at : length (domain_of piece).dcs ≡ list_count piece → unit_at count_unit piece ≤ 8 → (unit_at hint_unit piece ≡ 0) ⊎ (unit_at hint_unit piece < unit_at count_unit piece)
          → ((domain_of piece).hint ≡ 0) ⊎ ((domain_of piece).hint < length (domain_of piece).dcs)
      at n f (inl e) = inl (domain_hint ∙ e)
      at n f (inr u) = inr (rw domain_hint (omega arith))

  module _ (h : (good_domain (domain_of piece) && same_list (domain_units (domain_of piece)) piece) ≡ true) where
    told_domain : GoodDomain (domain_of piece)
    told_domain = domain_told (domain_of piece) (and_left _ _ h)

    told_dunits : piece ≡ domain_units (domain_of piece)
    told_dunits = sym (same_list_true _ piece (and_right (good_domain (domain_of piece)) _ h))

    bare_unit : (i : ℕ) → mark_units ≤ i → i < free_units → unit_at i piece ≡ 0
    unfolding domain_units
    bare_unit i a b = go (lt_or_le i root_unit)
      where
        go : (i < root_unit) ⊎ (root_unit ≤ i) → unit_at i piece ≡ 0
        go (inl u) =
            let e : i ≡ mark_units + (i - mark_units) = omega arith in
            rw e (ap (unit_at (mark_units + (i - mark_units))) told_dunits
            ∙ written_mark _ _ _ _ (domain_shape (domain_of piece) (and_left _ _ h)) (i - mark_units) (omega arith))
        go (inr u) =
            let e : i ≡ root_unit + (i - root_unit) = omega arith in
            rw e (ap (unit_at (root_unit + (i - root_unit))) told_dunits
            ∙ written_setting _ _ _ _ (domain_shape (domain_of piece) (and_left _ _ h)) (i - root_unit) (omega arith))

    pub domain_tests : DomainTests piece
    unfolding good_texts good_text choose every
    domain_tests =
        let bared : zeros (part mark_units (free_units - mark_units) piece) ≡ true = zeros_all piece mark_units (free_units - mark_units) (omega arith) bare_unit in
        let tidied : tidy piece ≡ true = sym (bare_tidy bared) ∙ and_right (good_domain (domain_of piece)) _ h in
        let n : length (domain_of piece).dcs ≡ list_count piece = count_dcs in
        record {
          tidied = tidied;
          bare = bared;
          hinted = at n (good_hint (domain_of piece).dcs (domain_of piece).hint told_domain.hinted);
          texts = subst (λ (ts : List (List ℕ)). every good_name ts ≡ true) (sym (domain_texts piece)) (and_both told_domain.named told_domain.each);
        }
      where
        at : length (domain_of piece).dcs ≡ list_count piece → ((domain_of piece).hint ≡ 0) ⊎ ((domain_of piece).hint < length (domain_of piece).dcs)
            → (unit_at hint_unit piece ≡ 0) ⊎ (unit_at hint_unit piece < unit_at count_unit piece)
        at n (inl e) = inl (sym domain_hint ∙ e)
        at n (inr u) = inr (let v : unit_at hint_unit piece < length (domain_of piece).dcs = rw (sym domain_hint) u in omega arith)

-- the tests of a used place one after another
module _ (piece : List ℕ) (whole : length piece ≡ 2336) (small : (i : ℕ) → unit_at i piece < 65536) where
  pub referral_tested : (good_referral (referral_of piece) && same_list (referral_units (referral_of piece)) piece)
      ≡ (tidy piece && good_flags piece && eqb (unit_at mark_units piece) 0 && ltb (unit_at hint_unit piece) (unit_at count_unit piece) && good_texts false piece)
  referral_tested =
      both_ways _ _
      (λ h. let t = referral_tests piece whole (small ttl_unit) (small taken_unit) h in
      and_both (and_both (and_both (and_both t.tidied t.flags) (eq-eqb _ 0 t.first)) (lt-ltb _ _ t.hinted)) t.texts)
      (λ h. referral_passes piece whole (small ttl_unit) (small taken_unit) (record {
        tidied = and_left _ _ (and_left _ _ (and_left _ _ (and_left _ _ h)));
        flags = and_right _ _ (and_left _ _ (and_left _ _ (and_left _ _ h)));
        first = eqb-true _ 0 (and_right _ _ (and_left _ _ (and_left _ _ h)));
        hinted = ltb-true _ _ (and_right _ _ (and_left _ _ h));
        texts = and_right _ _ h;
      }))

module _ (piece : List ℕ) (whole : length piece ≡ 2336) where
  pub domain_tested : (good_domain (domain_of piece) && same_list (domain_units (domain_of piece)) piece)
      ≡ (tidy piece && zeros (part mark_units (free_units - mark_units) piece)
      && (eqb (unit_at hint_unit piece) 0 || ltb (unit_at hint_unit piece) (unit_at count_unit piece)) && good_texts true piece)
  domain_tested =
      both_ways _ _
      (λ h. let t = domain_tests piece whole h in and_both (and_both (and_both t.tidied t.bare) (hint_test t.hinted)) t.texts)
      (λ h. domain_passes piece whole (record {
        tidied = and_left _ _ (and_left _ _ (and_left _ _ h));
        bare = and_right _ _ (and_left _ _ (and_left _ _ h));
        hinted = hint_told (and_right _ _ (and_left _ _ h));
        texts = and_right _ _ h;
      }))
    where
      hint_test : (unit_at hint_unit piece ≡ 0) ⊎ (unit_at hint_unit piece < unit_at count_unit piece)
          → (eqb (unit_at hint_unit piece) 0 || ltb (unit_at hint_unit piece) (unit_at count_unit piece)) ≡ true
      hint_test (inl e) = rw (eq-eqb (unit_at hint_unit piece) 0 e) refl
      hint_test (inr u) = or_right (eqb (unit_at hint_unit piece) 0) (lt-ltb _ _ u)

      hint_told : (eqb (unit_at hint_unit piece) 0 || ltb (unit_at hint_unit piece) (unit_at count_unit piece)) ≡ true
          → (unit_at hint_unit piece ≡ 0) ⊎ (unit_at hint_unit piece < unit_at count_unit piece)
      hint_told h = ⊎_elim (λ e. inl (eqb-true _ 0 e)) (λ u. inr (ltb-true _ _ u)) (or_told _ _ h)
