-- Laws of a hint that is set and taken back.
use mathlib.Core.Path.{◌≡◌, refl, sym, ap, ◌∙◌}
use mathlib.Core.Bool.{true}
use mathlib.Core.List.{List, [], ◌∷◌}
use mathlib.Core.Logic.{inr}
use Prim.Native.Nat.{ℕ, zero, suc, ◌<◌}
use native.Mathlib.Omega.{arith}
use lib.ListN.{length, get_or, set}
use lib.Seq.{get_or-set_same}
use borrow.Author.Tests.{ltb-true, ne_eqb}
use Rattle.laws.specs.Lists.{every}
use Rattle.laws.proofs.Choices.{choose_no}
use Rattle.laws.proofs.Listed.{every_set}
use Rattle.cache.specs.places.Layout.{place_count, place_at, list_count}
use Rattle.cache.specs.order.Entries.{Domain, Place, free, used}
use Rattle.cache.specs.order.Order.{good_domain, good_dc_hint}
use Rattle.cache.specs.order.Memory.{Kind, referrals, domains, decode, encode, in_order, good_place}
use Rattle.cache.proofs.order.MemoryLaws.{Lawful, cache_told, order_good, length_decode, encode_decode, decode_encode}
use Rattle.cache.proofs.order.KindLaws.{referrals_lawful, domains_lawful, referral_told, GoodDomain, domain_told, good_domain_lem}
use Rattle.cache.proofs.order.PlaceLaws.{hint_good}
use Rattle.cache_lookup.specs.Code.{entry_at}
use Rattle.cache_lookup.specs.Lookup.{on_entry, target_hint_to, dc_hint_to, target_hinted, dc_hinted}
use Rattle.cache_lookup.proofs.EntryLaws.{count_targets, count_dcs, entry_here, entry_well, target_hint_good, target_hint_order, dc_hint_order}
use Rattle.walk_steps.proofs.steps.HeldLaws.{used_fits, used_is}

-- a place written twice, and written with what it held
set_twice : {A : Type 0} (l : List A) (i : ℕ) (a b : A) → set (set l i a) i b ≡ set l i b
set_twice [] i a b = refl
set_twice (x ∷ l) zero a b = refl
set_twice (x ∷ l) (suc i) a b = ap (λ (m : List _). x ∷ m) (set_twice l i a b)

set_same : {A : Type 0} (l : List A) (i : ℕ) (d : A) → set l i (get_or l i d) ≡ l
set_same [] i d = refl
set_same (x ∷ l) zero d = refl
set_same (x ∷ l) (suc i) d = ap (λ (m : List _). x ∷ m) (set_same l i d)

-- what the laws ask of a hint: how long its list is, and that one set and then set back leaves the entry as it was
record Hint {E : Type 0} (k : Kind E) : Type 0 where
  count : E → ℕ
  counts : (raw : List ℕ) (i : ℕ) → count (entry_at k i raw) ≡ list_count (place_at i raw)
  hint : E → ℕ
  to : ℕ → E → E
  good : (h : ℕ) (e : E) → k.good e ≡ true → h < count e → k.good (to h e) ≡ true
  within : (e : E) → k.good e ≡ true → 0 < count e → hint e < count e
  same : (h : ℕ) (e : E) → count (to h e) ≡ count e
  back : (h : ℕ) (e : E) → to (hint e) (to h e) ≡ e

target_hint : Hint referrals
unfolding target_hint_to
target_hint = record {
  count = λ e. length e.targets;
  counts = count_targets;
  hint = λ e. e.hint;
  to = target_hint_to;
  good = target_hint_good;
  within = λ e g s. (referral_told e g).hinted;
  same = λ h e. refl;
  back = λ h e. refl;
}

dc_hint_good : (h : ℕ) (d : Domain) → good_domain d ≡ true → h < length d.dcs → good_domain (dc_hint_to h d) ≡ true
unfolding dc_hint_to
dc_hint_good h d g u =
    let t : GoodDomain d = domain_told d g in
    good_domain_lem _ (record { named = t.named; few = t.few; each = t.each; hinted = hint_good d.dcs h (inr u) })

dc_hint_within : (d : Domain) → good_domain d ≡ true → 0 < length d.dcs → d.hint < length d.dcs
unfolding good_dc_hint
dc_hint_within d g s = ltb-true _ _ (sym (choose_no _ _ (ne_eqb (length d.dcs) 0 (λ z. omega arith))) ∙ (domain_told d g).hinted)

dc_hint : Hint domains
unfolding dc_hint_to
dc_hint = record {
  count = λ d. length d.dcs;
  counts = count_dcs;
  hint = λ d. d.hint;
  to = dc_hint_to;
  good = dc_hint_good;
  within = dc_hint_within;
  same = λ h d. refl;
  back = λ h d. refl;
}

-- the hint of the entry at place i set in memory in order, and set back
module _ {E : Type 0} (k : Kind E) (law : Lawful k) (hint : Hint k) (raw : List ℕ) (i h : ℕ) (order : in_order k raw ≡ true) (fits : i < place_count raw)
    (below : h < hint.count (entry_at k i raw)) {m : List ℕ} (g : m ≡ encode k (set (decode k raw) i (on_entry (hint.to h) (get_or (decode k raw) i free)))) where
  some : 0 < list_count (place_at i raw)
  some = let n : hint.count (entry_at k i raw) ≡ list_count (place_at i raw) = hint.counts raw i in omega arith

  here : get_or (decode k raw) i free ≡ used (entry_at k i raw)
  here = entry_here k law raw i order fits some

  well : k.good (entry_at k i raw) ≡ true
  well = entry_well k law raw i order fits some

  is_set : set (decode k raw) i (on_entry (hint.to h) (get_or (decode k raw) i free)) ≡ set (decode k raw) i (used (hint.to h (entry_at k i raw)))
  unfolding on_entry
  is_set = ap (λ (p : Place E). set (decode k raw) i (on_entry (hint.to h) p)) here

  all_good : every (good_place k) (set (decode k raw) i (used (hint.to h (entry_at k i raw)))) ≡ true
  unfolding good_place
  all_good = every_set (good_place k) (decode k raw) i _ (cache_told k (decode k raw) (order_good k raw order)).places (hint.good h (entry_at k i raw) well below)

  hint_held : decode k m ≡ set (decode k raw) i (on_entry (hint.to h) (get_or (decode k raw) i free))
  hint_held = ap (decode k) (g ∙ ap (encode k) is_set) ∙ (decode_encode k law _ all_good ∙ sym is_set)

  there : get_or (decode k m) i free ≡ used (hint.to h (entry_at k i raw))
  there =
      ap (λ (ps : List (Place E)). get_or ps i free) (hint_held ∙ is_set)
      ∙ get_or-set_same (decode k raw) i _ free (rw (length_decode k raw) fits)

  hint_fits : i < place_count m
  hint_fits = used_fits k m i _ there

  hint_below : {n : ℕ} → n ≡ hint.hint (entry_at k i raw) → n < hint.count (entry_at k i m)
  hint_below e =
      let a : hint.count (entry_at k i m) ≡ hint.count (entry_at k i raw) = ap hint.count (used_is k m i _ there) ∙ hint.same h (entry_at k i raw) in
      let b : hint.hint (entry_at k i raw) < hint.count (entry_at k i raw) = hint.within (entry_at k i raw) well (omega arith) in
      omega arith

  hint_back : {n : ℕ} {o : List ℕ} → n ≡ hint.hint (entry_at k i raw) → o ≡ encode k (set (decode k m) i (on_entry (hint.to n) (get_or (decode k m) i free))) → o ≡ raw
  unfolding on_entry
  hint_back e f =
      f
      ∙ ((λ j. encode k (set ((hint_held ∙ is_set) j) i (on_entry (hint.to (e j)) (there j))))
      ∙ (ap (encode k) (set_twice (decode k raw) i _ _)
      ∙ ((λ j. encode k (set (decode k raw) i ((ap used (hint.back h (entry_at k i raw)) ∙ sym here) j)))
      ∙ (ap (encode k) (set_same (decode k raw) i free) ∙ encode_decode k raw order))))

-- TargetHint
module _ (refs : List ℕ) (i h : ℕ) (order : in_order referrals refs ≡ true) (fits : i < place_count refs) (below : h < length (entry_at referrals i refs).targets) {m : List ℕ}
    (g : m ≡ encode referrals (target_hinted i h (decode referrals refs))) where
  pub target_held : decode referrals m ≡ target_hinted i h (decode referrals refs)
  unfolding target_hinted target_hint
  target_held = hint_held referrals referrals_lawful target_hint refs i h order fits below g

  pub target_order : in_order referrals m ≡ true
  target_order = ap (in_order referrals) g ∙ target_hint_order refs i h order fits below

  pub target_fits : i < place_count m
  unfolding target_hinted target_hint
  target_fits = hint_fits referrals referrals_lawful target_hint refs i h order fits below g

  module _ {n : ℕ} (e : n ≡ (entry_at referrals i refs).hint) where
    pub target_below : n < length (entry_at referrals i m).targets
    unfolding target_hinted target_hint
    target_below = hint_below referrals referrals_lawful target_hint refs i h order fits below g e

    pub target_back : {o : List ℕ} → o ≡ encode referrals (target_hinted i n (decode referrals m)) → o ≡ refs
    unfolding target_hinted target_hint
    target_back f = hint_back referrals referrals_lawful target_hint refs i h order fits below g e f

-- DCHint
module _ (doms : List ℕ) (i h : ℕ) (order : in_order domains doms ≡ true) (fits : i < place_count doms) (below : h < length (entry_at domains i doms).dcs) {m : List ℕ}
    (g : m ≡ encode domains (dc_hinted i h (decode domains doms))) where
  pub dc_held : decode domains m ≡ dc_hinted i h (decode domains doms)
  unfolding dc_hinted dc_hint
  dc_held = hint_held domains domains_lawful dc_hint doms i h order fits below g

  pub dc_order : in_order domains m ≡ true
  dc_order = ap (in_order domains) g ∙ dc_hint_order doms i h order fits below

  pub dc_fits : i < place_count m
  unfolding dc_hinted dc_hint
  dc_fits = hint_fits domains domains_lawful dc_hint doms i h order fits below g

  module _ {n : ℕ} (e : n ≡ (entry_at domains i doms).hint) where
    pub dc_below : n < length (entry_at domains i m).dcs
    unfolding dc_hinted dc_hint
    dc_below = hint_below domains domains_lawful dc_hint doms i h order fits below g e

    pub dc_back : {o : List ℕ} → o ≡ encode domains (dc_hinted i n (decode domains m)) → o ≡ doms
    unfolding dc_hinted dc_hint
    dc_back f = hint_back domains domains_lawful dc_hint doms i h order fits below g e f
