-- What the equivalence check says: it is an equivalence, the order within a set is nothing to it, and a target that stands more often in the one list is seen.
use mathlib.Core.Path.{◌≡◌, refl, sym, ap, ◌∙◌}
use mathlib.Core.Bool.{Bool, true, false, true≢false}
use mathlib.Core.List.{List, [], ◌∷◌, ◌++◌, flatten}
use mathlib.Core.Logic.{◌⊎◌, inl, inr}
use Prim.Native.Nat.{ℕ, zero, suc}
use native.Mathlib.Omega.{arith}
use lib.Dec.{eqb}
use lib.ListN.{length, get_or}
use Rattle.laws.specs.Choice.{choose}
use Rattle.laws.proofs.Choices.{choose_yes, choose_no, and_left, and_right, and_both}
use Rattle.laws.proofs.Orders.{told}
use Rattle.laws.proofs.Tests.{refuted}
use Rattle.unc.specs.names.Paths.{Target}
use Rattle.cache_entry.specs.equivalent_targets.Equivalence.{times_in, same_targets, paths, join_set, next_opens, sets, same_sets, equivalent}
use Rattle.cache_entry.proofs.equivalent_targets.EquivalenceLaws.{Alike, times_append, same_alike, alike_same, same_refl, same_sym, same_trans, same_swapped}

-- set by set
pub sets_refl : (ss : List (List (List ℕ))) → same_sets ss ss ≡ true
unfolding same_sets
sets_refl [] = refl
sets_refl (s ∷ ss) = and_both (same_refl s) (sets_refl ss)

pub sets_sym : (ss ts : List (List (List ℕ))) → same_sets ss ts ≡ true → same_sets ts ss ≡ true
unfolding same_sets
sets_sym [] [] h = refl
sets_sym [] (t ∷ ts) h = h
sets_sym (s ∷ ss) [] h = h
sets_sym (s ∷ ss) (t ∷ ts) h = and_both (same_sym s t (and_left (same_targets s t) _ h)) (sets_sym ss ts (and_right (same_targets s t) _ h))

pub sets_trans : (ss ts us : List (List (List ℕ))) → same_sets ss ts ≡ true → same_sets ts us ≡ true → same_sets ss us ≡ true
unfolding same_sets
sets_trans [] [] us h k = k
sets_trans [] (t ∷ ts) us h k = absurd (true≢false (sym h))
sets_trans (s ∷ ss) [] us h k = absurd (true≢false (sym h))
sets_trans (s ∷ ss) (t ∷ ts) [] h k = absurd (true≢false (sym k))
sets_trans (s ∷ ss) (t ∷ ts) (u ∷ us) h k =
    and_both (same_trans s t u (and_left (same_targets s t) _ h) (and_left (same_targets t u) _ k))
    (sets_trans ss ts us (and_right (same_targets s t) _ h) (and_right (same_targets t u) _ k))

pub sets_count : (ss ts : List (List (List ℕ))) → same_sets ss ts ≡ true → length ss ≡ length ts
unfolding same_sets
sets_count [] [] h = refl
sets_count [] (t ∷ ts) h = absurd (true≢false (sym h))
sets_count (s ∷ ss) [] h = absurd (true≢false (sym h))
sets_count (s ∷ ss) (t ∷ ts) h = ap suc (sets_count ss ts (and_right (same_targets s t) _ h))

-- the targets of the sets are those of the list
pub sets_paths : (ts : List Target) → flatten (sets ts) ≡ paths ts
unfolding sets next_opens join_set paths flatten
sets_paths [] = refl
sets_paths (t ∷ ts) = go (next_opens ts) (sets ts) (sets_paths ts)
  where
    go : (b : Bool) (ss : List (List (List ℕ))) → flatten ss ≡ paths ts → flatten (join_set b t.path ss) ≡ t.path ∷ paths ts
    go true ss h = ap (λ (l : List (List ℕ)). t.path ∷ l) h
    go false [] h = ap (λ (l : List (List ℕ)). t.path ∷ l) h
    go false (s ∷ ss) h = ap (λ (l : List (List ℕ)). t.path ∷ l) h

sets_alike : (ss ts : List (List (List ℕ))) → same_sets ss ts ≡ true → Alike (flatten ss) (flatten ts)
unfolding same_sets flatten
sets_alike [] [] h z = refl
sets_alike [] (t ∷ ts) h z = absurd (true≢false (sym h))
sets_alike (s ∷ ss) [] h z = absurd (true≢false (sym h))
sets_alike (s ∷ ss) (t ∷ ts) h z =
    let a = same_alike s t (and_left (same_targets s t) _ h) z in
    let b = sets_alike ss ts (and_right (same_targets s t) _ h) z in
    omega (arith, times_append z s (flatten ss), times_append z t (flatten ts))

-- the same target before both
same_cons : (p : List ℕ) (s t : List (List ℕ)) → same_targets s t ≡ true → same_targets (p ∷ s) (p ∷ t) ≡ true
same_cons p s t h = alike_same (p ∷ s) (p ∷ t) (λ z. omega (arith, times_append z (p ∷ []) s, times_append z (p ∷ []) t, same_alike s t h z))

sets_join : (b : Bool) (p : List ℕ) (ss ts : List (List (List ℕ))) → same_sets ss ts ≡ true → same_sets (join_set b p ss) (join_set b p ts) ≡ true
unfolding join_set same_sets
sets_join true p ss ts h = and_both (same_refl (p ∷ [])) h
sets_join false p [] [] h = and_both (same_refl (p ∷ [])) refl
sets_join false p [] (t ∷ ts) h = absurd (true≢false (sym h))
sets_join false p (s ∷ ss) [] h = absurd (true≢false (sym h))
sets_join false p (s ∷ ss) (t ∷ ts) h = and_both (same_cons p s t (and_left (same_targets s t) _ h)) (and_right (same_targets s t) _ h)

-- two neighbours of a set exchanged
sets_exchange : (c : Bool) (p q : List ℕ) (ss : List (List (List ℕ))) → same_sets (join_set false p (join_set c q ss)) (join_set false q (join_set c p ss)) ≡ true
unfolding join_set same_sets
sets_exchange true p q ss = and_both (same_swapped [] [] p q) (sets_refl ss)
sets_exchange false p q [] = and_both (same_swapped [] [] p q) refl
sets_exchange false p q (s ∷ ss) = and_both (same_swapped [] s p q) (sets_refl ss)

-- the check: an equivalence, of every version
module _ (version : ℕ) where
  by_way : (xs ys : List Target) → (same_sets (sets xs) (sets ys) ≡ true) → (same_targets (paths xs) (paths ys) ≡ true) → equivalent version xs ys ≡ true
  unfolding equivalent
  by_way xs ys a b = go (told (eqb version 4))
    where
      go : (eqb version 4 ≡ true) ⊎ (eqb version 4 ≡ false) → choose (eqb version 4) (same_sets (sets xs) (sets ys)) (same_targets (paths xs) (paths ys)) ≡ true
      go (inl e) = choose_yes _ _ e ∙ a
      go (inr e) = choose_no _ _ e ∙ b

  pub equivalent_refl : (xs : List Target) → equivalent version xs xs ≡ true
  equivalent_refl xs = by_way xs xs (sets_refl (sets xs)) (same_refl (paths xs))

  pub equivalent_sym : (xs ys : List Target) → equivalent version xs ys ≡ true → equivalent version ys xs ≡ true
  unfolding equivalent
  equivalent_sym xs ys = go (eqb version 4)
    where
      go : (b : Bool) → choose b (same_sets (sets xs) (sets ys)) (same_targets (paths xs) (paths ys)) ≡ true
          → choose b (same_sets (sets ys) (sets xs)) (same_targets (paths ys) (paths xs)) ≡ true
      go true h = choose_yes _ _ refl ∙ sets_sym _ _ (sym (choose_yes _ _ refl) ∙ h)
      go false h = choose_no _ _ refl ∙ same_sym _ _ (sym (choose_no _ _ refl) ∙ h)

  pub equivalent_trans : (xs ys zs : List Target) → equivalent version xs ys ≡ true → equivalent version ys zs ≡ true → equivalent version xs zs ≡ true
  unfolding equivalent
  equivalent_trans xs ys zs = go (eqb version 4)
    where
      go : (b : Bool) → choose b (same_sets (sets xs) (sets ys)) (same_targets (paths xs) (paths ys)) ≡ true
          → choose b (same_sets (sets ys) (sets zs)) (same_targets (paths ys) (paths zs)) ≡ true
          → choose b (same_sets (sets xs) (sets zs)) (same_targets (paths xs) (paths zs)) ≡ true
      go true h k = choose_yes _ _ refl ∙ sets_trans _ (sets ys) _ (sym (choose_yes _ _ refl) ∙ h) (sym (choose_yes _ _ refl) ∙ k)
      go false h k = choose_no _ _ refl ∙ same_trans _ (paths ys) _ (sym (choose_no _ _ refl) ∙ h) (sym (choose_no _ _ refl) ∙ k)

  -- equivalent lists hold each target equally often; so one that stands more often in the one makes them different, whatever their lengths and sets
  pub equivalent_alike : (xs ys : List Target) → equivalent version xs ys ≡ true → Alike (paths xs) (paths ys)
  unfolding equivalent
  equivalent_alike xs ys h z = go (told (eqb version 4))
    where
      go : (eqb version 4 ≡ true) ⊎ (eqb version 4 ≡ false) → times_in z (paths xs) ≡ times_in z (paths ys)
      go (inl e) =
          ap (times_in z) (sym (sets_paths xs)) ∙ (sets_alike (sets xs) (sets ys) (sym (choose_yes _ _ e) ∙ h) z ∙ ap (times_in z) (sets_paths ys))
      go (inr e) = same_alike (paths xs) (paths ys) (sym (choose_no _ _ e) ∙ h) z

  pub equivalent_differs : (xs ys : List Target) (x : List ℕ) → (times_in x (paths xs) ≡ times_in x (paths ys) → ⊥) → equivalent version xs ys ≡ false
  equivalent_differs xs ys x h = refuted (equivalent version xs ys) (λ e. h (equivalent_alike xs ys e x))

-- version 4: as many sets, and each set holds the same targets as that of its number
sets_each : (ss ts : List (List (List ℕ))) → same_sets ss ts ≡ true → (n : ℕ) → Alike (get_or ss n []) (get_or ts n [])
unfolding same_sets
sets_each [] [] h n z = refl
sets_each [] (t ∷ ts) h n z = absurd (true≢false (sym h))
sets_each (s ∷ ss) [] h n z = absurd (true≢false (sym h))
sets_each (s ∷ ss) (t ∷ ts) h zero z = same_alike s t (and_left (same_targets s t) _ h) z
sets_each (s ∷ ss) (t ∷ ts) h (suc n) z = sets_each ss ts (and_right (same_targets s t) _ h) n z

pub fewer_sets_differ : (xs ys : List Target) → (length (sets xs) ≡ length (sets ys) → ⊥) → equivalent 4 xs ys ≡ false
unfolding equivalent
fewer_sets_differ xs ys h = choose_yes _ _ refl ∙ refuted (same_sets (sets xs) (sets ys)) (λ e. h (sets_count (sets xs) (sets ys) e))

pub set_differs : (xs ys : List Target) (n : ℕ) (x : List ℕ) → (times_in x (get_or (sets xs) n []) ≡ times_in x (get_or (sets ys) n []) → ⊥) → equivalent 4 xs ys ≡ false
unfolding equivalent
set_differs xs ys n x h = choose_yes _ _ refl ∙ refuted (same_sets (sets xs) (sets ys)) (λ e. h (sets_each (sets xs) (sets ys) e n x))

-- two neighbours of a set may change places, in a list of every version: the boundaries stay where they are
module _ (ws : List Target) (p q : List ℕ) (b : Bool) where
  before_after : List Target → List Target
  before_after vs = vs ++ (record { path = p; opens = b } ∷ (record { path = q; opens = false } ∷ ws))

  after_before : List Target → List Target
  after_before vs = vs ++ (record { path = q; opens = b } ∷ (record { path = p; opens = false } ∷ ws))

  next_same : (vs : List Target) → next_opens (before_after vs) ≡ next_opens (after_before vs)
  unfolding next_opens before_after after_before
  next_same [] = refl
  next_same (v ∷ vs) = refl

  sets_exchanged : (vs : List Target) → same_sets (sets (before_after vs)) (sets (after_before vs)) ≡ true
  unfolding sets next_opens before_after after_before
  sets_exchanged [] = sets_exchange (next_opens ws) p q (sets ws)
  sets_exchanged (v ∷ vs) =
      ap (λ (c : Bool). same_sets (join_set (next_opens (before_after vs)) v.path (sets (before_after vs))) (join_set c v.path (sets (after_before vs)))) (sym (next_same vs))
      ∙ sets_join (next_opens (before_after vs)) v.path (sets (before_after vs)) (sets (after_before vs)) (sets_exchanged vs)

  paths_exchanged : (vs : List Target) → same_targets (paths (before_after vs)) (paths (after_before vs)) ≡ true
  unfolding paths before_after after_before
  paths_exchanged [] = same_swapped [] (paths ws) p q
  paths_exchanged (v ∷ vs) = same_cons v.path (paths (before_after vs)) (paths (after_before vs)) (paths_exchanged vs)

  pub order_free : (version : ℕ) (vs : List Target)
      → equivalent version (vs ++ (record { path = p; opens = b } ∷ (record { path = q; opens = false } ∷ ws)))
      (vs ++ (record { path = q; opens = b } ∷ (record { path = p; opens = false } ∷ ws)))
      ≡ true
  unfolding before_after after_before
  order_free version vs = by_way version (before_after vs) (after_before vs) (sets_exchanged vs) (paths_exchanged vs)
