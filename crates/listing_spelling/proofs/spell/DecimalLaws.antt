-- Laws of decimals.
use mathlib.Core.Path.{◌≡◌, sym, ap, ◌∙◌}
use mathlib.Core.List.{List, [], ◌∷◌, ◌++◌}
use mathlib.Core.Logic.{◌⊎◌, inl, inr}
use Prim.Native.Nat.{ℕ, zero, suc, ◌+◌, ◌*◌, ◌/◌, ◌%◌, ◌≤◌, ◌<◌}
use native.Mathlib.Omega.{arith}
use lib.ListN.{length, length-append}
use borrow.Author.Tests.{lt-ltb, le-ltb}
use Rattle.laws.specs.Lists.{pasted}
use Rattle.laws.proofs.Choices.{choose_yes, choose_no}
use Rattle.laws.proofs.Orders.{lt_or_le}
use Rattle.listing_spelling.specs.spell.Spelling.{decimal_in, decimal, Put}
use Rattle.listing_spelling.proofs.spell.PutLaws.{put_then, put_piece}

-- 10 to the power k
pub power : ℕ → ℕ
power zero = 1
power (suc k) = 10 * power k

pub in_low : (k n : ℕ) → n < 10 → decimal_in (suc k) n ≡ (48 + n) ∷ []
unfolding decimal_in
in_low k n h = choose_yes _ _ (lt-ltb n 10 h)

pub in_high : (k n : ℕ) → 10 ≤ n → decimal_in (suc k) n ≡ decimal_in k (n / 10) ++ ((48 + n % 10) ∷ [])
unfolding decimal_in
in_high k n h = choose_no _ _ (le-ltb n 10 h)

-- more room for digits than a number has changes nothing
in_more : (k n : ℕ) → n < power (suc k) → decimal_in (suc (suc k)) n ≡ decimal_in (suc k) n
unfolding power
in_more zero n h = let l : n < 10 = h in in_low 1 n l ∙ sym (in_low 0 n l)
in_more (suc k) n h = go (let p : ℕ = power (suc k) in let g : n < 10 * p = h in in_more k (n / 10) (omega arith)) (lt_or_le n 10)
  where
    go : decimal_in (suc (suc k)) (n / 10) ≡ decimal_in (suc k) (n / 10) → (n < 10) ⊎ (10 ≤ n) → decimal_in (suc (suc (suc k))) n ≡ decimal_in (suc (suc k)) n
    go e (inl l) = in_low (suc (suc k)) n l ∙ sym (in_low (suc k) n l)
    go e (inr l) = in_high (suc (suc k)) n l ∙ (ap (λ (x : List ℕ). x ++ ((48 + n % 10) ∷ [])) e ∙ sym (in_high (suc k) n l))

pub decimal_low : (n : ℕ) → n < 10 → decimal n ≡ (48 + n) ∷ []
unfolding decimal
decimal_low n h = in_low 9 n h

pub decimal_high : (n : ℕ) → 10 ≤ n → n < 4294967296 → decimal n ≡ decimal (n / 10) ++ ((48 + n % 10) ∷ [])
unfolding decimal power
decimal_high n h l =
    in_high 9 n h ∙ ap (λ (x : List ℕ). x ++ ((48 + n % 10) ∷ [])) (sym (in_more 8 (n / 10) (let m : n / 10 < 1000000000 = omega arith in m)))

pub length_low : (n : ℕ) → n < 10 → length (decimal n) ≡ 1
length_low n h = ap length (decimal_low n h)

pub length_high : (n : ℕ) → 10 ≤ n → n < 4294967296 → length (decimal n) ≡ length (decimal (n / 10)) + 1
length_high n h l = ap length (decimal_high n h l) ∙ length-append (decimal (n / 10)) _

length_in : (k n : ℕ) → length (decimal_in k n) ≤ k
unfolding decimal_in
length_in zero n = omega arith
length_in (suc k) n = go (length_in k (n / 10)) (lt_or_le n 10)
  where
    go : length (decimal_in k (n / 10)) ≤ k → (n < 10) ⊎ (10 ≤ n) → length (decimal_in (suc k) n) ≤ suc k
    go e (inl l) = omega (arith, ap length (in_low k n l))
    go e (inr l) = omega (arith, ap length (in_high k n l), length-append (decimal_in k (n / 10)) ((48 + n % 10) ∷ []))

pub length_decimal : (n : ℕ) → length (decimal n) ≤ 10
unfolding decimal
length_decimal n = length_in 10 n

-- one digit, or those before the last and the last
pub put_low : (n : ℕ) {m : List ℕ} {at : ℕ} {o : List ℕ} → n < 10 → o ≡ pasted m at ((48 + n) ∷ []) → Put m at (decimal n) o (at + 1)
put_low n {m} {at} {o} h e = record { memory = e ∙ ap (pasted m at) (sym (decimal_low n h)); end = ap (λ (x : ℕ). at + x) (sym (length_low n h)) }

pub put_high : (n : ℕ) (d : List ℕ) (at : ℕ) {m o : List ℕ} {e : ℕ} → 10 ≤ n → n < 4294967296 → at + length (decimal n) ≤ length d
    → Put d at (decimal (n / 10)) m e → o ≡ pasted m e ((48 + n % 10) ∷ []) → Put d at (decimal n) o (e + 1)
put_high n d at {m} {o} {e} h l f v w =
    let x = decimal_high n h l in
    rw x (put_then d at (decimal (n / 10)) ((48 + n % 10) ∷ []) v (put_piece w) (rw x at f))
