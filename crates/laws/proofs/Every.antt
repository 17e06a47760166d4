-- Laws of "every element passes".
use mathlib.Core.Path.{◌≡◌, refl, ap, sym, ◌∙◌}
use mathlib.Core.Bool.{Bool, true, ◌&&◌, and_assoc}
use mathlib.Core.List.{List, [], ◌∷◌, ◌++◌}
use Prim.Native.Nat.{ℕ, zero, suc, ◌<◌, ◌≤◌}
use native.Mathlib.Nat.{not-suc-le-zero, le_of_suc-le-suc}
use lib.ListN.{length, get_or, take, drop}
use lib.Seq.{take-take}
use Rattle.std.specs.List.{list_all}
use Rattle.laws.specs.Lists.{every}
use Rattle.laws.proofs.Choices.{and_left, and_right, and_both}

module _ {ℓ} {A : Type ℓ} (f : A → Bool) where
  pub every_append : (xs ys : List A) → every f (xs ++ ys) ≡ (every f xs && every f ys)
  unfolding every
  every_append [] ys = refl
  every_append (x ∷ xs) ys = ap (λ (b : Bool). f x && b) (every_append xs ys) ∙ sym (and_assoc (f x) (every f xs) (every f ys))

  pub every_at : (xs : List A) → every f xs ≡ true → (i : ℕ) (z : A) → i < length xs → f (get_or xs i z) ≡ true
  unfolding every
  every_at [] h i z u = absurd (not-suc-le-zero u)
  every_at (x ∷ xs) h zero z u = and_left (f x) _ h
  every_at (x ∷ xs) h (suc i) z u = every_at xs (and_right (f x) _ h) i z (le_of_suc-le-suc u)

  pub every_drop : (n : ℕ) (xs : List A) → every f xs ≡ true → every f (drop n xs) ≡ true
  unfolding every
  every_drop zero xs h = h
  every_drop (suc n) [] h = h
  every_drop (suc n) (x ∷ xs) h = every_drop n xs (and_right (f x) _ h)

  pub every_take : (n : ℕ) (xs : List A) → every f xs ≡ true → every f (take n xs) ≡ true
  unfolding every
  every_take zero xs h = refl
  every_take (suc n) [] h = h
  every_take (suc n) (x ∷ xs) h = and_both (and_left (f x) _ h) (every_take n xs (and_right (f x) _ h))

  -- fewer of the first elements pass too
  pub every_fewer : (m n : ℕ) (xs : List A) → m ≤ n → every f (take n xs) ≡ true → every f (take m xs) ≡ true
  every_fewer m n xs l h = rw (← take-take m n xs l) (every_take m (take n xs) h)

-- as a chain that ends in `all` says it
pub all_every : {A : Type 0} (f : A → Bool) (xs : List A) → list_all f xs ≡ every f xs
unfolding every
all_every f [] = refl
all_every f (x ∷ xs) = ap (λ (b : Bool). f x && b) (all_every f xs)
