-- Laws of equivalent target lists: matching one target at a time decides it; it is an equivalence, and does not depend on the order.
use mathlib.Core.Path.{◌≡◌, refl, sym, ap, ◌∙◌}
use mathlib.Core.Bool.{Bool, true, false, ◌||◌, true≢false}
use mathlib.Core.List.{List, [], ◌∷◌, ◌++◌}
use mathlib.Core.Logic.{◌⊎◌, inl, inr}
use Prim.Native.Nat.{ℕ, suc, ◌+◌, ◌≤◌, ◌<◌}
use native.Mathlib.Omega.{arith}
use lib.Dec.{eqb}
use lib.ListN.{length}
use borrow.Author.Tests.{eqb-true, eq-eqb}
use Rattle.laws.specs.Choice.{choose}
use Rattle.laws.specs.Lists.{every}
use Rattle.laws.proofs.Choices.{choose_yes, choose_no, and_left, and_right, and_both}
use Rattle.laws.proofs.Orders.{told, lt_or_le}
use Rattle.unc.specs.names.Names.{same_name}
use Rattle.unc.proofs.names.NameLaws.{same_name_refl, same_name_sym, same_name_trans}
use Rattle.cache_entry.specs.equivalent_targets.Equivalence.{times_in, same_targets}
use Rattle.cache_entry.specs.equivalent_targets.Code.{is_in, without, matched}

-- one more or not
one : List ℕ → List ℕ → ℕ
one x y = choose (same_name x y) 1 0

times_cons : (x y : List ℕ) (ys : List (List ℕ)) → times_in x (y ∷ ys) ≡ one x y + times_in x ys
unfolding times_in one
times_cons x y ys = refl

times_nil : (x : List ℕ) → times_in x [] ≡ 0
unfolding times_in
times_nil x = refl

one_self : (x y : List ℕ) → same_name x y ≡ true → one x y ≡ 1
unfolding one
one_self x y h = choose_yes 1 0 h

one_no : (x y : List ℕ) → same_name x y ≡ false → one x y ≡ 0
unfolding one
one_no x y h = choose_no 1 0 h

-- names equal to each other stand equally often
one_same : (x y z : List ℕ) → same_name x y ≡ true → one x z ≡ one y z
one_same x y z h = go (told (same_name x z)) (told (same_name y z))
  where
    go : (same_name x z ≡ true) ⊎ (same_name x z ≡ false) → (same_name y z ≡ true) ⊎ (same_name y z ≡ false) → one x z ≡ one y z
    go (inl a) (inl b) = one_self x z a ∙ sym (one_self y z b)
    go (inr a) (inr b) = one_no x z a ∙ sym (one_no y z b)
    go (inl a) (inr b) = absurd (true≢false (sym (same_name_trans y x z (same_name_sym x y h) a) ∙ b))
    go (inr a) (inl b) = absurd (true≢false (sym (same_name_trans x y z h b) ∙ a))

one_swap : (x y : List ℕ) → one x y ≡ one y x
one_swap x y = go (told (same_name x y)) (told (same_name y x))
  where
    go : (same_name x y ≡ true) ⊎ (same_name x y ≡ false) → (same_name y x ≡ true) ⊎ (same_name y x ≡ false) → one x y ≡ one y x
    go (inl a) (inl b) = one_self x y a ∙ sym (one_self y x b)
    go (inr a) (inr b) = one_no x y a ∙ sym (one_no y x b)
    go (inl a) (inr b) = absurd (true≢false (sym (same_name_sym x y a) ∙ b))
    go (inr a) (inl b) = absurd (true≢false (sym (same_name_sym y x b) ∙ a))

one_to : (z x y : List ℕ) → same_name x y ≡ true → one z x ≡ one z y
one_to z x y h = one_swap z x ∙ (one_same x y z h ∙ one_swap y z)

times_same : (x y : List ℕ) (zs : List (List ℕ)) → same_name x y ≡ true → times_in x zs ≡ times_in y zs
times_same x y [] h = times_nil x ∙ sym (times_nil y)
times_same x y (z ∷ zs) h =
    let a : one x z ≡ one y z = one_same x y z h in
    let b : times_in x zs ≡ times_in y zs = times_same x y zs h in
    times_cons x z zs ∙ (ap (λ (n : ℕ). n + times_in x zs) a ∙ (ap (λ (n : ℕ). one y z + n) b ∙ sym (times_cons y z zs)))

pub times_append : (x : List ℕ) (ys zs : List (List ℕ)) → times_in x (ys ++ zs) ≡ times_in x ys + times_in x zs
times_append x [] zs = rw (times_nil x) (omega arith)
times_append x (y ∷ ys) zs =
    let a : times_in x (ys ++ zs) ≡ times_in x ys + times_in x zs = times_append x ys zs in
    omega (arith, times_cons x y (ys ++ zs), times_cons x y ys)

-- a name that is in a list stands there once more than without it
in_some : (x : List ℕ) (ys : List (List ℕ)) → 0 < times_in x ys → is_in x ys ≡ true
unfolding is_in
in_some x [] h = absurd (omega (arith, times_nil x))
in_some x (y ∷ ys) h = go (told (same_name x y)) (in_some x ys)
  where
    go : (same_name x y ≡ true) ⊎ (same_name x y ≡ false) → (0 < times_in x ys → is_in x ys ≡ true) → (same_name x y || is_in x ys) ≡ true
    go (inl a) k = rw a
    go (inr a) k = rw a (k (omega (arith, times_cons x y ys, one_no x y a)))

without_yes : (x y : List ℕ) (ys : List (List ℕ)) → same_name x y ≡ true → without x (y ∷ ys) ≡ ys
unfolding without
without_yes x y ys h = choose_yes ys (y ∷ without x ys) h

without_no : (x y : List ℕ) (ys : List (List ℕ)) → same_name x y ≡ false → without x (y ∷ ys) ≡ y ∷ without x ys
unfolding without
without_no x y ys h = choose_no ys (y ∷ without x ys) h

in_no : (x y : List ℕ) (ys : List (List ℕ)) → same_name x y ≡ false → is_in x (y ∷ ys) ≡ is_in x ys
unfolding is_in
in_no x y ys h = rw h

times_without : (z x : List ℕ) (ys : List (List ℕ)) → is_in x ys ≡ true → times_in z ys ≡ one z x + times_in z (without x ys)
unfolding is_in
times_without z x [] h = absurd (true≢false (sym h))
times_without z x (y ∷ ys) h = go (told (same_name x y)) (times_without z x ys)
  where
    go : (same_name x y ≡ true) ⊎ (same_name x y ≡ false) → (is_in x ys ≡ true → times_in z ys ≡ one z x + times_in z (without x ys))
        → times_in z (y ∷ ys) ≡ one z x + times_in z (without x (y ∷ ys))
    go (inl a) k =
        rw (without_yes x y ys a) (times_cons z y ys ∙ ap (λ (n : ℕ). n + times_in z ys) (sym (one_to z x y a)))
    go (inr a) k =
        let e : times_in z ys ≡ one z x + times_in z (without x ys) = k (sym (in_no x y ys a) ∙ h) in
        rw (without_no x y ys a) (omega (arith, times_cons z y ys, times_cons z y (without x ys)))

-- Each name stands as often in the one list as in the other.
abbrev pub Alike : List (List ℕ) → List (List ℕ) → Type 0
Alike xs ys = (z : List ℕ) → times_in z xs ≡ times_in z ys

length_without : (x : List ℕ) (ys : List (List ℕ)) → is_in x ys ≡ true → length ys ≡ suc (length (without x ys))
unfolding is_in
length_without x [] h = absurd (true≢false (sym h))
length_without x (y ∷ ys) h = go (told (same_name x y)) (length_without x ys)
  where
    go : (same_name x y ≡ true) ⊎ (same_name x y ≡ false) → (is_in x ys ≡ true → length ys ≡ suc (length (without x ys)))
        → suc (length ys) ≡ suc (length (without x (y ∷ ys)))
    go (inl a) k = rw (without_yes x y ys a)
    go (inr a) k = rw (without_no x y ys a) (ap suc (k (sym (in_no x y ys a) ∙ h)))

-- matching finds exactly that, where the lists are as long as each other
matched_alike : (xs ys : List (List ℕ)) → length xs ≡ length ys → matched xs ys ≡ true → Alike xs ys
unfolding matched
matched_alike [] [] l h z = refl
matched_alike [] (y ∷ ys) l h z = absurd (omega arith)
matched_alike (x ∷ xs) ys l h z =
    let i : is_in x ys ≡ true = and_left (is_in x ys) _ h in
    let r : times_in z xs ≡ times_in z (without x ys) =
    matched_alike xs (without x ys) (omega (arith, length_without x ys i)) (and_right (is_in x ys) _ h) z in
    omega (arith, times_cons z x xs, times_without z x ys i)

alike_matched : (xs ys : List (List ℕ)) → Alike xs ys → matched xs ys ≡ true
unfolding matched
alike_matched [] ys h = refl
alike_matched (x ∷ xs) ys h =
    let i : is_in x ys ≡ true = in_some x ys (omega (arith, h x, times_cons x x xs, one_self x x (same_name_refl x))) in
    and_both i (alike_matched xs (without x ys) (λ z. omega (arith, h z, times_cons z x xs, times_without z x ys i)))

-- the test over the names that stand in either list says it of every name
every_in : (f : List ℕ → Bool) (ys : List (List ℕ)) → every f ys ≡ true → (z : List ℕ) → 0 < times_in z ys → (y : List ℕ) × ((same_name z y ≡ true) × (f y ≡ true))
unfolding every
every_in f [] h z k = absurd (omega (arith, times_nil z))
every_in f (y ∷ ys) h z k = go (told (same_name z y)) (every_in f ys (and_right (f y) _ h) z)
  where
    go : (same_name z y ≡ true) ⊎ (same_name z y ≡ false)
        → (0 < times_in z ys → (w : List ℕ) × ((same_name z w ≡ true) × (f w ≡ true)))
        → (w : List ℕ) × ((same_name z w ≡ true) × (f w ≡ true))
    go (inl a) r = (y, (a, and_left (f y) _ h))
    go (inr a) r = r (omega (arith, times_cons z y ys, one_no z y a))

pub same_alike : (xs ys : List (List ℕ)) → same_targets xs ys ≡ true → Alike xs ys
unfolding same_targets
same_alike xs ys h z = go (lt_or_le 0 (times_in z (xs ++ ys)))
  where
    go : (0 < times_in z (xs ++ ys)) ⊎ (times_in z (xs ++ ys) ≤ 0) → times_in z xs ≡ times_in z ys
    go (inl k) =
        let w = every_in (λ x. eqb (times_in x xs) (times_in x ys)) (xs ++ ys) h z k in
        times_same z w.0 xs w.1.0 ∙ (eqb-true _ _ w.1.1 ∙ sym (times_same z w.0 ys w.1.0))
    go (inr k) = omega (arith, times_append z xs ys)

every_all : (f : List ℕ → Bool) (ys : List (List ℕ)) → ((y : List ℕ) → f y ≡ true) → every f ys ≡ true
unfolding every
every_all f [] h = refl
every_all f (y ∷ ys) h = and_both (h y) (every_all f ys h)

pub alike_same : (xs ys : List (List ℕ)) → Alike xs ys → same_targets xs ys ≡ true
unfolding same_targets
alike_same xs ys h = every_all (λ x. eqb (times_in x xs) (times_in x ys)) (xs ++ ys) (λ x. eq-eqb _ _ (h x))

-- Matching one target at a time decides it: the code's comparison of two sets.
pub matched_same : (xs ys : List (List ℕ)) → length xs ≡ length ys → matched xs ys ≡ same_targets xs ys
matched_same xs ys l = go (told (matched xs ys)) (told (same_targets xs ys))
  where
    go : (matched xs ys ≡ true) ⊎ (matched xs ys ≡ false) → (same_targets xs ys ≡ true) ⊎ (same_targets xs ys ≡ false) → matched xs ys ≡ same_targets xs ys
    go (inl a) b = a ∙ sym (alike_same xs ys (matched_alike xs ys l a))
    go (inr a) (inr b) = a ∙ sym b
    go (inr a) (inl b) = absurd (true≢false (sym (alike_matched xs ys (same_alike xs ys b)) ∙ a))

-- lists of different length hold different targets
alike_length : (xs ys : List (List ℕ)) → Alike xs ys → length xs ≡ length ys
alike_length [] [] h = refl
alike_length [] (y ∷ ys) h = absurd (omega (arith, h y, times_nil y, times_cons y y ys, one_self y y (same_name_refl y)))
alike_length (x ∷ xs) ys h =
    let i : is_in x ys ≡ true = in_some x ys (omega (arith, h x, times_cons x x xs, one_self x x (same_name_refl x))) in
    let r : length xs ≡ length (without x ys) = alike_length xs (without x ys) (λ z. omega (arith, h z, times_cons z x xs, times_without z x ys i)) in
    omega (arith, length_without x ys i)

pub same_length : (xs ys : List (List ℕ)) → same_targets xs ys ≡ true → length xs ≡ length ys
same_length xs ys h = alike_length xs ys (same_alike xs ys h)

pub same_unlike : (xs ys : List (List ℕ)) → (length xs ≡ length ys → ⊥) → same_targets xs ys ≡ false
same_unlike xs ys h = go (told (same_targets xs ys))
  where
    go : (same_targets xs ys ≡ true) ⊎ (same_targets xs ys ≡ false) → same_targets xs ys ≡ false
    go (inl a) = absurd (h (same_length xs ys a))
    go (inr a) = a

-- an equivalence, and independent of the order
pub same_refl : (xs : List (List ℕ)) → same_targets xs xs ≡ true
same_refl xs = alike_same xs xs (λ z. refl)

pub same_sym : (xs ys : List (List ℕ)) → same_targets xs ys ≡ true → same_targets ys xs ≡ true
same_sym xs ys h = alike_same ys xs (λ z. sym (same_alike xs ys h z))

pub same_trans : (xs ys zs : List (List ℕ)) → same_targets xs ys ≡ true → same_targets ys zs ≡ true → same_targets xs zs ≡ true
same_trans xs ys zs h k = alike_same xs zs (λ z. same_alike xs ys h z ∙ same_alike ys zs k z)

pub same_swapped : (vs ws : List (List ℕ)) (x y : List ℕ) → same_targets (vs ++ (x ∷ (y ∷ ws))) (vs ++ (y ∷ (x ∷ ws))) ≡ true
same_swapped vs ws x y =
    alike_same (vs ++ (x ∷ (y ∷ ws))) (vs ++ (y ∷ (x ∷ ws)))
    (λ z.
    omega
    (arith, times_append z vs (x ∷ (y ∷ ws)), times_append z vs (y ∷ (x ∷ ws)), times_cons z x (y ∷ ws), times_cons z y ws, times_cons z y (x ∷ ws), times_cons z x ws))
