-- A prefix that matches a good path, as units of that path.
use mathlib.Core.Path.{◌≡◌, refl, sym, ap, ◌∙◌, subst}
use mathlib.Core.Bool.{true, false, ◌&&◌, true≢false}
use mathlib.Core.List.{List, [], ◌∷◌, ◌++◌, append-nil}
use mathlib.Core.Logic.{◌⊎◌, inl, inr}
use Prim.Native.Nat.{ℕ, zero, suc, ◌+◌, ◌-◌, ◌≤◌}
use native.Mathlib.Omega.{arith}
use lib.ListN.{length, get_or, take, drop, take-append-drop}
use lib.Seq.{drop-nil, length-take-le}
use lib.Dec.{leb}
use borrow.Author.Tests.{le-leb, leb-true, eqb-true, eq-eqb}
use Rattle.laws.specs.Lists.{every}
use Rattle.laws.proofs.Choices.{choose_yes, choose_no, and_left, and_right, and_both}
use Rattle.laws.proofs.Every.{every_append}
use Rattle.laws.proofs.Orders.{told}
use Rattle.unc.specs.names.Names.{same_unit, same_name, good_component}
use Rattle.unc.specs.names.Paths.{pieces, component_count, first_of, is_normalised, normalised_count, begins, matches, path_units}
use Rattle.unc.proofs.names.NameLaws.{alone_backslash, same_unit_sym, same_name_refl, same_name_sym, same_name_trans}
use Rattle.unc.proofs.names.PieceLaws.{parts, pieces_append, count_backslash, count_other, first_hit, first_miss, first_over, spans}
use Rattle.unc.proofs.names.MatchLaws.{at_end_lem, matches_units, matches_end, matches_within}
use Rattle.unc.proofs.names.MatchLaws as found
use Rattle.unc.proofs.names.WholeLaws.{led, all_good}
use Rattle.cache.specs.order.Order.{good_prefix}
use Rattle.cache.proofs.order.KindLaws.{prefix_some}
use Rattle.walk_steps.proofs.cycle.MoveLaws.{matches_same}
use Rattle.walk_steps.specs.declared.steps.Asking.{Asking}
use Rattle.walk_form.specs.held.Walks.{names_prefix}

-- equal names have as many components
pub same_count : (s t : List ℕ) → same_name s t ≡ true → component_count s ≡ component_count t
unfolding same_name
same_count [] [] h = refl
same_count [] (b ∷ t) h = absurd (true≢false (sym h))
same_count (a ∷ s) [] h = absurd (true≢false (sym h))
same_count (a ∷ s) (b ∷ t) h = go (parts a) (parts b) (same_count s t (and_right (same_unit a b) _ h))
  where
    same : same_unit a b ≡ true
    same = and_left (same_unit a b) _ h

    go : (a ≡ 92) ⊎ (a ≡ 92 → ⊥) → (b ≡ 92) ⊎ (b ≡ 92 → ⊥) → component_count s ≡ component_count t → component_count (a ∷ s) ≡ component_count (b ∷ t)
    go (inl e) (inl f) r = count_backslash a s e ∙ (ap suc r ∙ sym (count_backslash b t f))
    go (inl e) (inr f) r = absurd (f (alone_backslash.only b (same_unit_sym 92 b (subst (λ (x : ℕ). same_unit x b ≡ true) e same))))
    go (inr e) (inl f) r = absurd (e (alone_backslash.only a (subst (λ (x : ℕ). same_unit a x ≡ true) f same)))
    go (inr e) (inr f) r = count_other a s e ∙ (r ∙ sym (count_other b t f))

-- a normalised path of at most 256 units, and a good one, test by test
pub record Normal (s : List ℕ) : Type 0 where
  pub short : length s ≤ 256
  pub normal : is_normalised s ≡ true
  pub count : normalised_count s ≡ component_count s

pub normal_told : (s : List ℕ) → 1 ≤ normalised_count s → Normal s
unfolding normalised_count
normal_told s h = go (told (leb (length s) path_units && is_normalised s))
  where
    go : ((leb (length s) path_units && is_normalised s) ≡ true) ⊎ ((leb (length s) path_units && is_normalised s) ≡ false) → Normal s
    go (inl t) = record {
      short = leb-true _ _ (and_left (leb (length s) path_units) _ t);
      normal = and_right (leb (length s) path_units) _ t;
      count = choose_yes _ _ t;
    }
    go (inr t) = absurd (let z : 1 ≤ 0 = subst (λ (n : ℕ). 1 ≤ n) (choose_no _ _ t) h in omega arith)

pub record GoodPath (s : List ℕ) : Type 0 where
  pub short : length s ≤ 256
  pub normal : is_normalised s ≡ true
  pub two : 2 ≤ component_count s

pub good_told : (s : List ℕ) → good_prefix s ≡ true → GoodPath s
unfolding good_prefix
good_told s h =
    let c : 2 ≤ normalised_count s = leb-true 2 (normalised_count s) h in
    let n : Normal s = normal_told s (omega arith) in
    record { short = n.short; normal = n.normal; two = omega (arith, n.count) }

pub good_made : (s : List ℕ) → GoodPath s → good_prefix s ≡ true
unfolding good_prefix normalised_count
good_made s g = ap (leb 2) (choose_yes _ _ (and_both (le-leb _ _ g.short) g.normal)) ∙ le-leb 2 _ g.two

-- the units of a path that match a prefix are a normalised path
module _ (s : List ℕ) (h : is_normalised s ≡ true) where
  begun : (a r : List ℕ) → s ≡ a ++ r → 1 ≤ length a → at_end_lem r ≡ true → is_normalised a ≡ true
  unfolding is_normalised at_end_lem
  begun [] r e l x = absurd (omega arith)
  begun (u ∷ a) [] e l x = subst (λ (t : List ℕ). is_normalised t ≡ true) (e ∙ append-nil (u ∷ a)) h
  begun (u ∷ a) (v ∷ b) e l x =
      let f : v ≡ 92 = eqb-true v 92 x in
      let g : every good_component (pieces (a ++ (92 ∷ b))) ≡ true =
      ap (λ (t : List ℕ). every good_component (pieces t)) (sym (ap (drop 1) e ∙ ap (λ (y : ℕ). a ++ (y ∷ b)) f)) ∙ all_good s h in
      and_both (eq-eqb u 92 (sym (ap (λ (t : List ℕ). get_or t 0 0) e) ∙ led s h))
      (and_left _ _ (sym (every_append good_component (pieces a) (pieces b)) ∙ (ap (every good_component) (sym (pieces_append a b)) ∙ g)))

module _ (p s : List ℕ) (hp : good_prefix p ≡ true) (hs : good_prefix s ≡ true) (m : matches p s ≡ true) where
  pub same_units : same_name p (take (length p) s) ≡ true
  same_units = found.matches_same p s m

  pub units_inside : length p ≤ length s
  units_inside = matches_within p s m

  pub units_good : good_prefix (take (length p) s) ≡ true
  units_good =
      let l : length (take (length p) s) ≡ length p = length-take-le (length p) s units_inside in
      let n : 1 ≤ length p = prefix_some p hp in
      let c : component_count p ≡ component_count (take (length p) s) = same_count p (take (length p) s) same_units in
      good_made (take (length p) s) (record {
        short = omega (arith, (good_told p hp).short);
        normal = begun s (good_told s hs).normal (take (length p) s) (drop (length p) s) (sym (take-append-drop (length p) s)) (omega arith) (matches_end p s m);
        two = omega (arith, (good_told p hp).two);
      })

  pub units_match : matches (take (length p) s) s ≡ true
  units_match = matches_same (take (length p) s) p s (same_name_sym p (take (length p) s) same_units) m

  -- so they name the entry
  pub prefix_named : (q : Asking) → q.entry ≡ length p → names_prefix s q ≡ true
  unfolding names_prefix good_prefix
  prefix_named q e =
      and_both (le-leb q.entry (length s) (rw e units_inside))
      (and_both (ap (λ (n : ℕ). leb 2 (normalised_count (take n s))) e ∙ units_good) (ap (λ (n : ℕ). matches (take n s) s) e ∙ units_match))

-- the first components match the path
at_end : (k : ℕ) (s : List ℕ) → at_end_lem (drop (length (first_of k s)) s) ≡ true
unfolding at_end_lem
at_end k [] = ap at_end_lem (drop-nil (length (first_of k [])))
at_end k (u ∷ s) = go k (parts u) (λ j. at_end j s)
  where
    go : (j : ℕ) → (u ≡ 92) ⊎ (u ≡ 92 → ⊥) → ((i : ℕ) → at_end_lem (drop (length (first_of i s)) s) ≡ true) → at_end_lem (drop (length (first_of j (u ∷ s))) (u ∷ s)) ≡ true
    go zero (inl e) r =
        let z : 0 + length (first_of 0 (u ∷ s)) ≡ 0 = first_over 0 (u ∷ s) 0 refl (omega arith) e in
        let y : length (first_of 0 (u ∷ s)) ≡ 0 = omega arith in
        ap (λ (n : ℕ). at_end_lem (drop n (u ∷ s))) y ∙ eq-eqb u 92 e
    go (suc j) (inl e) r =
        let z : 0 + length (first_of (suc j) (u ∷ s)) ≡ 0 + 1 + length (first_of (suc j - 1) s) = first_hit (suc j) (u ∷ s) 0 (omega arith) e (omega arith) in
        let i : suc j - 1 ≡ j = omega arith in
        let x : length (first_of (suc j - 1) s) ≡ length (first_of j s) = ap (λ (n : ℕ). length (first_of n s)) i in
        let y : length (first_of (suc j) (u ∷ s)) ≡ suc (length (first_of j s)) = omega arith in
        ap (λ (n : ℕ). at_end_lem (drop n (u ∷ s))) y ∙ r j
    go j (inr e) r =
        let z : 0 + length (first_of j (u ∷ s)) ≡ 0 + 1 + length (first_of j s) = first_miss j (u ∷ s) 0 (omega arith) e in
        let y : length (first_of j (u ∷ s)) ≡ suc (length (first_of j s)) = omega arith in
        ap (λ (n : ℕ). at_end_lem (drop n (u ∷ s))) y ∙ r j

pub first_matches : (k : ℕ) (s : List ℕ) → matches (first_of k s) s ≡ true
first_matches k s =
    matches_units (first_of k s) s
    ∙ and_both (ap (same_name (first_of k s)) (spans k s).begin ∙ same_name_refl (first_of k s)) (at_end k s)

-- what matches the first components matches the path
begins_trans : (ps qs rs : List (List ℕ)) → begins ps qs ≡ true → begins qs rs ≡ true → begins ps rs ≡ true
unfolding begins
begins_trans [] qs rs h k = refl
begins_trans (p ∷ ps) [] rs h k = absurd (true≢false (sym h))
begins_trans (p ∷ ps) (q ∷ qs) [] h k = absurd (true≢false (sym k))
begins_trans (p ∷ ps) (q ∷ qs) (r ∷ rs) h k =
    and_both (same_name_trans p q r (and_left _ _ h) (and_left _ _ k))
    (begins_trans ps qs rs (and_right (same_name p q) _ h) (and_right (same_name q r) _ k))

pub matches_trans : (p q s : List ℕ) → matches p q ≡ true → matches q s ≡ true → matches p s ≡ true
unfolding matches
matches_trans p q s h k = begins_trans (pieces p) (pieces q) (pieces s) h k
