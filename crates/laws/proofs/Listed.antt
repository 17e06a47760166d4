-- Laws of lists that are made place by place, of lists cut into parts of one length, and of the test of equal lists.
use mathlib.Core.Path.{◌≡◌, refl, sym, ap, ◌∙◌, subst}
use mathlib.Core.Bool.{Bool, true, ◌&&◌, true≢false}
use mathlib.Core.List.{List, [], ◌∷◌, ◌++◌, map, flatten}
use Prim.Native.Nat.{ℕ, zero, suc, ◌+◌, ◌*◌, ◌≤◌, ◌<◌}
use native.Mathlib.Nat.{add-zero, zero-add, not-suc-le-zero, le_of_suc-le-suc, zero-mul, suc-mul}
use native.Mathlib.Numerals.{add-one}
use native.Mathlib.Omega.{arith}
use lib.Dec.{eqb}
use lib.ListN.{length, get_or, take, drop, set, length-append}
use lib.Seq.{drop-drop, take-add, take_all, take-append_seam, drop-append-add}
use borrow.Author.Tests.{eqb-true, eq-eqb}
use Rattle.std.specs.List.{list_all, range_with_len}
use Rattle.std.specs.Simd.{first_chunks}
use Rattle.laws.specs.Lists.{every, part}
use Rattle.laws.specs.Listed.{listed, same_list}
use Rattle.laws.proofs.Choices.{and_left, and_right, and_both}
use Rattle.laws.proofs.Every.{every_at}
use Rattle.laws.proofs.Pasting.{length_part, get_d_part}

module _ {ℓ} {A : Type ℓ} where
  pub length_listed : (n : ℕ) (f : ℕ → A) → length (listed n f) ≡ n
  unfolding listed
  length_listed zero f = refl
  length_listed (suc n) f = ap suc (length_listed n (λ j. f (suc j)))

  pub get_d_listed : (n : ℕ) (f : ℕ → A) (i : ℕ) (z : A) → i < n → get_or (listed n f) i z ≡ f i
  unfolding listed
  get_d_listed zero f i z h = absurd (not-suc-le-zero h)
  get_d_listed (suc n) f zero z h = refl
  get_d_listed (suc n) f (suc i) z h = get_d_listed n (λ j. f (suc j)) i z (le_of_suc-le-suc h)

  -- what is left of the list from place i on
  pub drop_listed : (n : ℕ) (f : ℕ → A) (i : ℕ) → i < n → drop i (listed n f) ≡ f i ∷ drop (suc i) (listed n f)
  unfolding listed
  drop_listed zero f i h = absurd (not-suc-le-zero h)
  drop_listed (suc n) f zero h = refl
  drop_listed (suc n) f (suc i) h = drop_listed n (λ j. f (suc j)) i (le_of_suc-le-suc h)

  pub drop_listed_end : (n : ℕ) (f : ℕ → A) (i : ℕ) → n ≤ i → drop i (listed n f) ≡ []
  unfolding listed
  drop_listed_end zero f zero h = refl
  drop_listed_end zero f (suc i) h = refl
  drop_listed_end (suc n) f zero h = absurd (not-suc-le-zero h)
  drop_listed_end (suc n) f (suc i) h = drop_listed_end n (λ j. f (suc j)) i (le_of_suc-le-suc h)

  pub listed_same : (n : ℕ) (f g : ℕ → A) → ((i : ℕ) → i < n → f i ≡ g i) → listed n f ≡ listed n g
  unfolding listed
  listed_same zero f g e = refl
  listed_same (suc n) f g e = λ i. e 0 (omega arith) i ∷ listed_same n (λ j. f (suc j)) (λ j. g (suc j)) (λ j h. e (suc j) (omega arith)) i

  -- a list is the list of its elements
  pub listed_get_d : (xs : List A) (z : A) → listed (length xs) (λ i. get_or xs i z) ≡ xs
  unfolding listed
  listed_get_d [] z = refl
  listed_get_d (x ∷ xs) z = λ i. x ∷ listed_get_d xs z i

  -- so is a part of it
  pub listed_part : (n k : ℕ) (xs : List A) (z : A) → n + k ≤ length xs → listed k (λ j. get_or xs (n + j) z) ≡ part n k xs
  listed_part n k xs z h =
      let l : length (part n k xs) ≡ k = length_part n k xs h in
      listed_same k (λ j. get_or xs (n + j) z) (λ j. get_or (part n k xs) j z) (λ j u. sym (get_d_part n k xs j z u))
      ∙ (ap (λ (i : ℕ). listed i (λ j. get_or (part n k xs) j z)) (sym l) ∙ listed_get_d (part n k xs) z)

  -- one value changed
  pub set_listed : (n : ℕ) (f g : ℕ → A) (i : ℕ) → i < n → ((j : ℕ) → j < n → (j ≡ i → ⊥) → f j ≡ g j) → set (listed n f) i (g i) ≡ listed n g
  unfolding listed
  set_listed zero f g i h e = absurd (not-suc-le-zero h)
  set_listed (suc n) f g zero h e =
      λ i. g 0 ∷ listed_same n (λ j. f (suc j)) (λ j. g (suc j)) (λ j q. e (suc j) (omega arith) (λ r. omega arith)) i
  set_listed (suc n) f g (suc i) h e =
      λ k. e 0 (omega arith) (λ r. omega arith) k
      ∷ set_listed n (λ j. f (suc j)) (λ j. g (suc j)) i (le_of_suc-le-suc h) (λ j q r. e (suc j) (omega arith) (λ s. r (omega arith))) k

pub map_listed {ℓ κ} : {A : Type ℓ} {B : Type κ} (g : A → B) (n : ℕ) (f : ℕ → A) → map g (listed n f) ≡ listed n (λ j. g (f j))
unfolding listed
map_listed g zero f = refl
map_listed g (suc n) f = λ i. g (f 0) ∷ map_listed g n (λ j. f (suc j)) i

-- an element of a list that a function was applied to, whatever is read past the end
pub get_d_map {ℓ κ} : {A : Type ℓ} {B : Type κ} (g : A → B) (xs : List A) (i : ℕ) (z : A) (w : B) → i < length xs → get_or (map g xs) i w ≡ g (get_or xs i z)
get_d_map g [] i z w h = absurd (not-suc-le-zero h)
get_d_map g (x ∷ xs) zero z w h = refl
get_d_map g (x ∷ xs) (suc i) z w h = get_d_map g xs i z w (le_of_suc-le-suc h)

every_all {ℓ} : {A : Type ℓ} (f : A → Bool) (n : ℕ) (g : ℕ → A) → ((i : ℕ) → i < n → f (g i) ≡ true) → every f (listed n g) ≡ true
unfolding every listed
every_all f zero g h = refl
every_all f (suc n) g h = and_both (h 0 (omega arith)) (every_all f n (λ j. g (suc j)) (λ i u. h (suc i) (omega arith)))

-- one element changed for one that passes
pub every_set {ℓ} : {A : Type ℓ} (f : A → Bool) (xs : List A) (i : ℕ) (x : A) → every f xs ≡ true → f x ≡ true → every f (set xs i x) ≡ true
unfolding every
every_set f [] i x h e = refl
every_set f (y ∷ xs) zero x h e = and_both e (and_right (f y) _ h)
every_set f (y ∷ xs) (suc i) x h e = and_both (and_left (f y) _ h) (every_set f xs i x (and_right (f y) _ h) e)

-- a test of each value of a list made place by place
module _ {ℓ} {A : Type ℓ} (f : A → Bool) (n : ℕ) (g : ℕ → A) where
  pub every_listed : every f (listed n g) ≡ true → (i : ℕ) → i < n → f (g i) ≡ true
  every_listed h i u =
      ap f (sym (get_d_listed n g i (g 0) u)) ∙ every_at f (listed n g) h i (g 0) (rw (length_listed n g) u)

  pub listed_every : ((i : ℕ) → i < n → f (g i) ≡ true) → every f (listed n g) ≡ true
  listed_every h = every_all f n g h

-- as a chain over a range says it: the values from place i on, k of them
pub range_every : {A : Type 0} (f : A → Bool) (n : ℕ) (g : ℕ → A) (i k : ℕ) → i + k ≡ n → list_all (λ j. f (g j)) (range_with_len i k) ≡ every f (drop i (listed n g))
unfolding every
range_every f n g i zero h = rw (drop_listed_end n g i (omega arith))
range_every f n g i (suc k) h =
    ap (λ (b : Bool). f (g i) && b) (range_every f n g (i + 1) k (omega arith)) ∙ rw (drop_listed n g i (omega arith), add-one i) refl

-- lists cut into parts of k
module _ {ℓ} {A : Type ℓ} where
  pub flatten_parts : (n k a : ℕ) (d : List A) → flatten (listed n (λ j. part (a + j * k) k d)) ≡ part a (n * k) d
  unfolding listed flatten part
  flatten_parts zero k a d = rw zero-mul
  flatten_parts (suc n) k a d =
      let e : (j : ℕ) → a + suc j * k ≡ a + k + j * k = λ j. rw (suc-mul j k) (omega arith) in
      let same : listed n (λ j. part (a + suc j * k) k d) ≡ listed n (λ j. part (a + k + j * k) k d) =
      listed_same n (λ j. part (a + suc j * k) k d) (λ j. part (a + k + j * k) k d) (λ j h. ap (λ (x : ℕ). part x k d) (e j)) in
      let s : suc n * k ≡ k + n * k = rw (suc-mul n k) (omega arith) in
      rw (zero-mul k, add-zero a, s, take-add k (n * k) (drop a d), drop-drop k a d)
      (ap (λ (x : List A). take k (drop a d) ++ x) (ap flatten same ∙ flatten_parts n k (a + k) d))

  pub listed_parts : (n k : ℕ) (d : List A) → length d ≡ n * k → flatten (listed n (λ j. part (j * k) k d)) ≡ d
  unfolding part
  listed_parts n k d r =
      ap flatten (listed_same n (λ j. part (j * k) k d) (λ j. part (0 + j * k) k d) (λ j h. ap (λ (x : ℕ). part x k d) (sym (zero-add (j * k)))))
      ∙ (flatten_parts n k 0 d ∙ take_all (n * k) d (omega arith))

  -- two lists of n parts that agree in each part are equal
  pub by_listed_parts : (n k : ℕ) (a b : List A) → length a ≡ n * k → length b ≡ n * k
      → ((j : ℕ) → j < n → part (j * k) k a ≡ part (j * k) k b) → a ≡ b
  by_listed_parts n k a b p q e = sym (listed_parts n k a p) ∙ (ap flatten (listed_same n _ _ e) ∙ listed_parts n k b q)

  -- pieces of k one after another
  module _ (k : ℕ) where
    pub length_flatten : (xss : List (List A)) → ((j : ℕ) → j < length xss → length (get_or xss j []) ≡ k) → length (flatten xss) ≡ length xss * k
    unfolding flatten
    length_flatten [] h = rw zero-mul
    length_flatten (x ∷ xss) h =
        let a : length x ≡ k = h 0 (omega arith) in
        let b : length (flatten xss) ≡ length xss * k = length_flatten xss (λ j q. h (suc j) (omega arith)) in
        rw (length-append x (flatten xss), suc-mul (length xss) k) (omega arith)

    pub part_flatten : (xss : List (List A)) → ((j : ℕ) → j < length xss → length (get_or xss j []) ≡ k) → (i : ℕ) → i < length xss
        → part (i * k) k (flatten xss) ≡ get_or xss i []
    unfolding flatten part
    part_flatten [] h i q = absurd (not-suc-le-zero q)
    part_flatten (x ∷ xss) h zero q =
        let a : length x ≡ k = h 0 (omega arith) in
        rw (zero-mul k, ← a) (take-append_seam x (flatten xss))
    part_flatten (x ∷ xss) h (suc i) q =
        let a : length x ≡ k = h 0 (omega arith) in
        let s : suc i * k ≡ length x + i * k = rw (suc-mul i k) (omega arith) in
        rw (s, drop-append-add x (flatten xss) (i * k)) (part_flatten xss (λ j r. h (suc j) (omega arith)) i (le_of_suc-le-suc q))

-- the parts of k, as `as_chunks` says them
pub chunks_listed : {A : Type 0} (k n : ℕ) (d : List A) → first_chunks k n d ≡ listed n (λ j. part (j * k) k d)
unfolding listed part
chunks_listed k zero d = refl
chunks_listed k (suc n) d =
    let e : (j : ℕ) → k + j * k ≡ suc j * k = λ j. rw (suc-mul j k) (omega arith) in
    let first : take k d ≡ take k (drop (0 * k) d) = rw (zero-mul k) refl in
    let later : first_chunks k n (drop k d) ≡ listed n (λ j. take k (drop (suc j * k) d)) =
    chunks_listed k n (drop k d)
    ∙ listed_same n (λ j. take k (drop (j * k) (drop k d))) (λ j. take k (drop (suc j * k) d))
    (λ j h. ap (take k) (drop-drop (j * k) k d) ∙ ap (λ (x : ℕ). take k (drop x d)) (e j)) in
    λ i. first i ∷ later i

-- the test of equal lists
pub same_list_true : (a b : List ℕ) → same_list a b ≡ true → a ≡ b
unfolding same_list
same_list_true [] [] h = refl
same_list_true [] (y ∷ b) h = absurd (true≢false (sym h))
same_list_true (x ∷ a) [] h = absurd (true≢false (sym h))
same_list_true (x ∷ a) (y ∷ b) h = λ i. eqb-true x y (and_left _ _ h) i ∷ same_list_true a b (and_right (eqb x y) _ h) i

same_list_itself : (s : List ℕ) → same_list s s ≡ true
unfolding same_list
same_list_itself [] = refl
same_list_itself (x ∷ s) = and_both (eq-eqb x x refl) (same_list_itself s)

pub same_same_list : (a b : List ℕ) → a ≡ b → same_list a b ≡ true
same_same_list a b e = subst (λ (x : List ℕ). same_list a x ≡ true) e (same_list_itself a)
