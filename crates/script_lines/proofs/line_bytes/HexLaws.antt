-- Laws of hex digits in either case.
use mathlib.Core.Path.{◌≡◌, refl, sym, ap, ◌∙◌}
use mathlib.Core.Bool.{Bool, ◌&&◌}
use mathlib.Core.List.{List, [], ◌∷◌, ◌++◌}
use mathlib.Core.Logic.{◌⊎◌, inl, inr}
use Prim.Native.Nat.{ℕ, zero, suc, ◌+◌, ◌*◌, ◌/◌, ◌≤◌, ◌<◌, min}
use native.Mathlib.Nat.{zero-add}
use native.Mathlib.Omega.{arith}
use lib.ListN.{length, take, drop, get_or, set, length-take, drop_of_length-le}
use lib.Seq.{take_all, length-take-le}
use Rattle.std.proofs.Common.{append-nil}
use borrow.Author.Tests.{lt-leb}
use Rattle.std.specs.List.{list_all}
use Rattle.laws.specs.Lists.{every, pasted}
use Rattle.laws.proofs.Choices.{choose_no, and_no_left}
use Rattle.laws.proofs.Pasting.{copied_more}
use Rattle.laws.specs.Listed.{listed}
use Rattle.laws.proofs.Listed.{listed_get_d}
use Rattle.laws.proofs.Orders.{lt_or_le}
use Rattle.script_lines.specs.line_bytes.Hexes.{upper, hex_value, hex_from, hex_number, hex_bytes}

-- a unit by where it lies
pub upper_low : (u : ℕ) → u < 97 → u ≡ upper u
unfolding upper
upper_low u h = sym (choose_no _ _ (and_no_left _ (lt-leb 97 u h)))

-- a test of every unit of a text
pub every_of_all : (f : ℕ → Bool) (s : List ℕ) → list_all f s ≡ every f s
unfolding every
every_of_all f [] = refl
every_of_all f (u ∷ s) = ap (λ b. f u && b) (every_of_all f s)

-- the number of eight digits
pub eight : (f : ℕ → ℕ) → hex_number (listed 8 f) ≡ 16777216 * (16 * hex_value (f 0) + hex_value (f 1)) + (65536 * (16 * hex_value (f 2) + hex_value (f 3)) + (256 * (16 * hex_value (f 4) + hex_value (f 5)) + (16 * hex_value (f 6) + hex_value (f 7))))
unfolding hex_number hex_from listed
eight f = omega arith

pub number_said_lem : (s : List ℕ) → length s ≡ 8 → {n : ℕ} → n ≡ hex_number (listed 8 (λ i. get_or s i 0)) → n ≡ hex_number s
number_said_lem s l e = e ∙ ap hex_number (ap (λ (n : ℕ). listed n (λ i. get_or s i 0)) (sym l) ∙ listed_get_d s 0)

-- bytes
pub length_bytes : (s : List ℕ) → length (hex_bytes s) ≡ length s / 2
unfolding hex_bytes
length_bytes [] = refl
length_bytes (a ∷ []) = refl
length_bytes (a ∷ b ∷ s) = let r = length_bytes s in omega arith

pub get_d_bytes : (s : List ℕ) (i : ℕ) → i < length s / 2 → get_or (hex_bytes s) i 0 ≡ 16 * hex_value (get_or s (2 * i) 0) + hex_value (get_or s (2 * i + 1) 0)
unfolding hex_bytes hex_number hex_from
get_d_bytes [] i h = absurd (omega arith)
get_d_bytes (a ∷ []) i h = absurd (omega arith)
get_d_bytes (a ∷ b ∷ s) zero h = omega arith
get_d_bytes (a ∷ b ∷ s) (suc i) h =
    let e : 2 * suc i ≡ suc (suc (2 * i)) = omega arith in
    let f : 2 * suc i + 1 ≡ suc (suc (2 * i + 1)) = omega arith in
    get_d_bytes s i (omega arith)
    ∙ (ap (λ (k : ℕ). 16 * hex_value (get_or (a ∷ b ∷ s) k 0) + hex_value (get_or s (2 * i + 1) 0)) (sym e)
    ∙ ap (λ (k : ℕ). 16 * hex_value (get_or (a ∷ b ∷ s) (2 * suc i) 0) + hex_value (get_or (a ∷ b ∷ s) k 0)) (sym f))

-- as many elements as there are, or as fit
pub take_least : (a : ℕ) (xs : List ℕ) (n : ℕ) → n ≡ min a (length xs) → take n xs ≡ take a xs
take_least a xs n e = go (lt_or_le a (length xs))
  where
    go : (a < length xs) ⊎ (length xs ≤ a) → take n xs ≡ take a xs
    go (inl k) = ap (λ (m : ℕ). take m xs) (let z : n ≡ a = omega arith in z)
    go (inr k) = take_all n xs (omega arith) ∙ sym (take_all a xs k)

pub drop_least : (a : ℕ) (xs : List ℕ) (n : ℕ) → n ≡ min a (length xs) → drop n xs ≡ drop a xs
drop_least a xs n e = go (lt_or_le a (length xs))
  where
    go : (a < length xs) ⊎ (length xs ≤ a) → drop n xs ≡ drop a xs
    go (inl k) = ap (λ (m : ℕ). drop m xs) (let z : n ≡ a = omega arith in z)
    go (inr k) = drop_of_length-le xs (let z : length xs ≤ n = omega arith in z) ∙ sym (drop_of_length-le xs k)

-- a loop that fills the front: one element more, and at its end
pub front_more : (d xs : List ℕ) (i : ℕ) {o : List ℕ} {v : ℕ} → o ≡ pasted d 0 (take i xs) → i < length xs → i < length d → v ≡ get_or xs i 0 → set o i v ≡ pasted d 0 (take (i + 1) xs)
front_more d xs i {o} {v} e h u w =
    ap (λ (x : ℕ). set o i x) w ∙ (ap (λ (k : ℕ). set o k (get_or xs i 0)) (sym (zero-add i)) ∙ copied_more d 0 xs i e h (let z : 0 + i < length d = omega arith in z))

pub front_all : (d xs : List ℕ) (i n : ℕ) {o : List ℕ} → o ≡ pasted d 0 (take i xs) → n ≤ i → i ≤ n → n ≡ min (length d) (length xs) → o ≡ pasted d 0 (take (length d) xs)
front_all d xs i n e h k m = e ∙ ap (pasted d 0) (take_least (length d) xs i (let z : i ≡ min (length d) (length xs) = omega arith in z))

pub front_whole : (d xs : List ℕ) (n i : ℕ) {o : List ℕ} → n ≡ min (length d) (length xs) → i ≡ n → o ≡ pasted (take n d) 0 (take i xs) → o ++ drop n d ≡ pasted d 0 (take (length d) xs)
unfolding pasted
front_whole d xs n i {o} m e f =
    let l : length (take n xs) ≡ n = length-take-le n xs (omega arith) in
    let k : length (take n d) ≡ n = length-take-le n d (omega arith) in
    let g : take i xs ≡ take n xs = ap (λ (x : ℕ). take x xs) e in
    let front : pasted (take n d) 0 (take n xs) ≡ take n xs = ap (λ (x : List ℕ). take n xs ++ x) (drop_of_length-le (take n d) (omega arith)) ∙ append-nil (take n xs) in
    let whole : o ≡ take n xs = f ∙ (ap (pasted (take n d) 0) g ∙ front) in
    ap (λ (x : List ℕ). x ++ drop n d) whole
    ∙ (ap (λ (x : ℕ). take n xs ++ drop x d) (let z : n ≡ 0 + length (take n xs) = omega arith in z)
    ∙ ap (λ (x : List ℕ). pasted d 0 x) (take_least (length d) xs n m))

pub front_count : (d xs : List ℕ) (n : ℕ) → n ≡ min (length d) (length xs) → n ≡ length (take (length d) xs)
front_count d xs n e = e ∙ sym (length-take (length d) xs)
