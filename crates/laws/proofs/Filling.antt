-- Laws of an array that a loop fills: what its first i places show, and what is still to come.
use mathlib.Core.Path.{◌≡◌, refl, ap, sym, ◌∙◌}
use mathlib.Core.Bool.{Bool, true}
use mathlib.Core.List.{List, [], ◌∷◌, ◌++◌, map, append_assoc, append-nil}
use Prim.Native.Nat.{ℕ, zero, suc, ◌+◌, ◌<◌}
use native.Mathlib.Numerals.{add-one}
use lib.ListN.{length, take, set, replicate}
use lib.Seq.{take-suc-set}
use Rattle.laws.specs.Lists.{every}
use Rattle.laws.proofs.Choices.{and_left, and_right, and_both}

module _ {ℓ} {A B : Type ℓ} (f : A → B) where
  map_append : (xs ys : List A) → map f (xs ++ ys) ≡ map f xs ++ map f ys
  map_append [] ys = refl
  map_append (x ∷ xs) ys = ap (λ (z : List B). f x ∷ z) (map_append xs ys)

  -- one place more
  pub filled_next : (l : List A) (i : ℕ) (a : A) {b : B} {to rest : List B} → i < length l → to ≡ b ∷ rest → f a ≡ b
      → map f (take i l) ++ to ≡ map f (take (i + 1) (set l i a)) ++ rest
  filled_next l i a {b} {to} {rest} h e g =
      sym
      (ap (λ (x : List A). map f x ++ rest) (ap (λ (k : ℕ). take k (set l i a)) (add-one i) ∙ take-suc-set l i a h)
      ∙ (ap (λ (x : List B). x ++ rest) (map_append (take i l) (a ∷ []))
      ∙ (append_assoc (map f (take i l)) (f a ∷ []) rest
      ∙ (λ j. map f (take i l) ++ (g j ∷ rest))
      ∙ (λ j. map f (take i l) ++ sym e j))))

  -- nothing is left to come
  pub filled_whole : (l : List A) (i : ℕ) {all to : List B} → all ≡ map f (take i l) ++ to → to ≡ [] → map f (take i l) ≡ all
  filled_whole l i {all} e h = sym (e ∙ (ap (λ (x : List B). map f (take i l) ++ x) h ∙ append-nil (map f (take i l))))

module _ {ℓ} {A : Type ℓ} (f : A → Bool) where
  -- a test of every place, one of them stored to
  pub every_set : (l : List A) (i : ℕ) (a : A) → every f l ≡ true → f a ≡ true → every f (set l i a) ≡ true
  unfolding every
  every_set [] i a h g = h
  every_set (x ∷ l) zero a h g = and_both g (and_right (f x) _ h)
  every_set (x ∷ l) (suc i) a h g = and_both (and_left (f x) _ h) (every_set l i a (and_right (f x) _ h) g)

  pub every_copies : (n : ℕ) (a : A) → f a ≡ true → every f (replicate n a) ≡ true
  unfolding every
  every_copies zero a h = refl
  every_copies (suc n) a h = and_both h (every_copies n a h)
