-- Laws of decimals that are read.
use mathlib.Core.Path.{◌≡◌, refl, sym, ap, ◌∙◌}
use mathlib.Core.Bool.{Bool, ◌&&◌}
use mathlib.Core.List.{List, [], ◌∷◌, ◌++◌}
use mathlib.Core.Logic.{◌⊎◌, inl, inr}
use Prim.Native.Nat.{ℕ, zero, suc, ◌+◌, ◌-◌, ◌*◌, ◌/◌, ◌%◌, ◌≤◌, ◌<◌}
use native.Mathlib.Numerals.{add-one}
use native.Mathlib.Omega.{arith}
use lib.ListN.{length, get_or, drop, drop_of_length-le}
use lib.Seq.{drop-cons}
use lib.Dec.{eqb}
use borrow.Author.Tests.{lt-ltb, le-ltb}
use Rattle.std.specs.Cmp.Lexicographic.{pointwise}
use Rattle.std.specs.Prelude.{nat_eq, Some, None}
use Rattle.laws.specs.Listed.{same_list}
use Rattle.laws.proofs.Choices.{choose_yes, choose_no}
use Rattle.laws.proofs.Orders.{lt_or_le}
use Rattle.listing_spelling.specs.spell.Spelling.{decimal}
use Rattle.listing_spelling.proofs.spell.DecimalLaws.{decimal_low, decimal_high}
use Rattle.listing_spelling.specs.unspell.Reading.{value_from, decimal_of}
use Rattle.listing_spelling.specs.unspell.Code.{small_value}

-- the library's test of equal slices, at numbers
pub pointwise_same : (p q : List ℕ) → pointwise nat_eq p q ≡ same_list p q
unfolding same_list
pointwise_same [] [] = refl
pointwise_same [] (b ∷ q) = refl
pointwise_same (a ∷ p) [] = refl
pointwise_same (a ∷ p) (b ∷ q) = ap (λ (t : Bool). eqb a b && t) (pointwise_same p q)

-- the value of digits
grows : (n : ℕ) (s : List ℕ) → n ≤ value_from n s
unfolding value_from
grows n [] = omega arith
grows n (u ∷ s) = omega (arith, grows (10 * n + (u - 48)) s)

pub value_next : (s : List ℕ) (i n : ℕ) → i < length s → value_from n (drop i s) ≡ value_from (10 * n + (get_or s i 0 - 48)) (drop (i + 1) s)
unfolding value_from
value_next s i n h = rw (drop-cons s i 0 h, add-one i)

value_end : (s : List ℕ) (i n : ℕ) → length s ≤ i → value_from n (drop i s) ≡ n
unfolding value_from
value_end s i n h = rw (drop_of_length-le s h)

pub value_start : (s : List ℕ) → decimal_of s ≡ value_from 0 (drop 0 s)
unfolding decimal_of
value_start s = refl

pub number_large : (s : List ℕ) (i n : ℕ) → decimal_of s ≡ value_from n (drop i s) → 4294967296 ≤ n → None ≡ small_value s
unfolding small_value
number_large s i n e h = sym (choose_no _ _ (le-ltb (decimal_of s) 4294967296 (omega (arith, grows n (drop i s)))))

pub number_told : (s : List ℕ) (i n : ℕ) → decimal_of s ≡ value_from n (drop i s) → length s ≤ i → n < 4294967296 → Some n ≡ small_value s
unfolding small_value
number_told s i n e h l =
    let k = e ∙ value_end s i n h in
    sym (choose_yes _ _ (lt-ltb (decimal_of s) 4294967296 (omega arith)) ∙ ap Some k)

-- a number written in decimal says itself
value_last : (n : ℕ) (s : List ℕ) (u : ℕ) → value_from n (s ++ (u ∷ [])) ≡ 10 * value_from n s + (u - 48)
unfolding value_from
value_last n [] u = refl
value_last n (x ∷ s) u = value_last (10 * n + (x - 48)) s u

one_digit : (n : ℕ) → value_from 0 ((48 + n) ∷ []) ≡ n
unfolding value_from
one_digit n = let e : 10 * 0 + (48 + n - 48) ≡ n = omega arith in e

-- by recursion over a bound
decimal_of_lem : (k n : ℕ) → n < k → n < 4294967296 → decimal_of (decimal n) ≡ n
unfolding decimal_of
decimal_of_lem zero n h l = absurd (let z = h in omega arith)
decimal_of_lem (suc k) n h l = go (λ m. decimal_of_lem k (n / 10) (omega arith) (omega arith)) (lt_or_le n 10)
  where
    go : (10 ≤ n → value_from 0 (decimal (n / 10)) ≡ n / 10) → (n < 10) ⊎ (10 ≤ n) → value_from 0 (decimal n) ≡ n
    go f (inl m) = ap (value_from 0) (decimal_low n m) ∙ one_digit n
    go f (inr m) =
        ap (value_from 0) (decimal_high n m l)
        ∙ (value_last 0 (decimal (n / 10)) (48 + n % 10) ∙ (let e = f m in let g : 10 * value_from 0 (decimal (n / 10)) + (48 + n % 10 - 48) ≡ n = omega arith in g))

pub decimal_says : (n : ℕ) → n < 4294967296 → decimal_of (decimal n) ≡ n
decimal_says n l = decimal_of_lem (suc n) n (omega arith) l
