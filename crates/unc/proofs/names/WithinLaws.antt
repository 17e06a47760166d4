-- Laws of names compared by parts, in any order: what is known of the units from a place up to another.
use mathlib.Core.Path.{◌≡◌, refl, sym, ap, ◌∙◌}
use mathlib.Core.Bool.{Bool, true, false, true≢false}
use mathlib.Core.List.{List, [], ◌∷◌}
use mathlib.Core.Logic.{◌⊎◌, inl, inr}
use Prim.Native.Nat.{ℕ, zero, suc, ◌+◌, ◌≤◌, ◌<◌, ◌%◌}
use native.Mathlib.Nat.{le_of_suc-le-suc}
use native.Mathlib.Omega.{arith}
use lib.Bits.{bit_or}
use lib.Dec.{eqb}
use lib.ListN.{length, get_or}
use borrow.Author.Tests.{eqb-true, eq-eqb}
use Rattle.laws.proofs.Choices.{and_left, and_right, and_both}
use Rattle.laws.proofs.Orders.{told, lt_or_le}
use Rattle.unc.specs.names.Names.{folded, same_unit, same_name}
use Rattle.unc.specs.names.Code.{SameWithin}
use Rattle.unc.proofs.names.NameLaws.{folded_below, folded_above, folded_letter, same_unit_refl}
use Rattle.unc.proofs.names.UnitLaws.{or_none, or_both}

pub same_name_at : (s t : List ℕ) → same_name s t ≡ true → (k : ℕ) → k < length s → same_unit (get_or s k 0) (get_or t k 0) ≡ true
unfolding same_name
same_name_at [] t h k u = absurd (omega arith)
same_name_at (a ∷ s) [] h k u = absurd (true≢false (sym h))
same_name_at (a ∷ s) (b ∷ t) h zero u = and_left (same_unit a b) _ h
same_name_at (a ∷ s) (b ∷ t) h (suc k) u = same_name_at s t (and_right (same_unit a b) _ h) k (le_of_suc-le-suc u)

same_name_by : (s t : List ℕ) → length s ≡ length t → ((k : ℕ) → k < length s → same_unit (get_or s k 0) (get_or t k 0) ≡ true) → same_name s t ≡ true
unfolding same_name
same_name_by [] [] e h = refl
same_name_by [] (b ∷ t) e h = absurd (omega arith)
same_name_by (a ∷ s) [] e h = absurd (omega arith)
same_name_by (a ∷ s) (b ∷ t) e h = and_both (h zero (omega arith)) (same_name_by s t (omega arith) (λ k u. h (suc k) (omega arith)))

module _ (s t : List ℕ) where
  pub within_none : (n m : ℕ) → m ≤ n → SameWithin s t n m
  within_none n m h = record { at = λ k u v. absurd (omega arith) }

  -- two parts that touch or overlap
  pub within_join : {i j l n : ℕ} → SameWithin s t i j → SameWithin s t l n → l ≤ j → SameWithin s t i n
  within_join {i} {j} {l} {n} p q h = record { at = λ k u v. at k u v (lt_or_le k l) }
    where
      at : (k : ℕ) → i ≤ k → k < n → (k < l) ⊎ (l ≤ k) → same_unit (get_or s k 0) (get_or t k 0) ≡ true
      at k u v (inl w) = p.at k u (omega arith)
      at k u v (inr w) = q.at k w v

  -- a part of a part
  within_part : {i j l n : ℕ} → SameWithin s t i n → i ≤ j → l ≤ n → SameWithin s t j l
  within_part p u v = record { at = λ k x y. p.at k (omega arith) (omega arith) }

  within_unit : (i : ℕ) → same_unit (get_or s i 0) (get_or t i 0) ≡ true → SameWithin s t i (i + 1)
  within_unit i h = record { at = λ k u v. let z : k ≡ i = omega arith in rw z h }

  -- one unit more before a part
  pub within_more : (i : ℕ) {j n : ℕ} → SameWithin s t j n → {r : Bool} → r ≡ same_unit (get_or s i 0) (get_or t i 0) → r ≡ true → j ≤ i + 1 → SameWithin s t i n
  within_more i p e h l = within_join (within_unit i (sym e ∙ h)) p l

  pub within_equal : (i : ℕ) {j n : ℕ} → SameWithin s t j n → get_or s i 0 ≡ get_or t i 0 → j ≤ i + 1 → SameWithin s t i n
  within_equal i p e l = within_join (within_unit i (rw e (same_unit_refl _))) p l

  pub within_all : {n : ℕ} → SameWithin s t n (length s) → n ≤ 0 → length s ≡ length t → same_name s t ≡ true
  within_all p u e = same_name_by s t e (λ k v. p.at k (omega arith) v)

  -- a part that is not equal
  pub unlike_within : {from to : ℕ} {r : Bool} → (SameWithin s t from to → r ≡ true) → r ≡ false → to ≤ length s → same_name s t ≡ false
  unlike_within {from} {to} h e u = go (told (same_name s t))
    where
      go : (same_name s t ≡ true) ⊎ (same_name s t ≡ false) → same_name s t ≡ false
      go (inl k) = absurd (true≢false (sym (h (record { at = λ i v w. same_name_at s t k i (omega arith) })) ∙ e))
      go (inr k) = k

  pub unlike_at : (i : ℕ) {r : Bool} → r ≡ same_unit (get_or s i 0) (get_or t i 0) → r ≡ false → i < length s → same_name s t ≡ false
  unlike_at i e h u = unlike_within {from = i} {to = i + 1} (λ p. e ∙ p.at i (omega arith) (omega arith)) h (omega arith)

  -- a block of units, whose differences are joined by "or": `d` is the difference of the units at its end
  pub block_more : (at k : ℕ) {differ d : ℕ} → (differ ≡ 0 → SameWithin s t at (at + k)) → (d ≡ 0 → same_unit (get_or s (at + k) 0) (get_or t (at + k) 0) ≡ true)
      → bit_or differ d ≡ 0 → SameWithin s t at (at + (k + 1))
  block_more at k {differ} {d} h g e =
      let z : (differ ≡ 0) × (d ≡ 0) = or_none differ d e in
      let p : SameWithin s t (at + k) (at + k + 1) = within_unit (at + k) (g z.1) in
      record { at = λ j u v. (within_join (h z.0) p (omega arith)).at j u (omega arith) }

  pub block_less : (at k : ℕ) {differ d : ℕ} → (SameWithin s t at (at + k) → differ ≡ 0) → (same_unit (get_or s (at + k) 0) (get_or t (at + k) 0) ≡ true → d ≡ 0)
      → SameWithin s t at (at + (k + 1)) → bit_or differ d ≡ 0
  block_less at k h g p = or_both (h (within_part p (omega arith) (omega arith))) (g (p.at (at + k) (omega arith) (omega arith)))

  pub block_end : (at k n differ : ℕ) → (differ ≡ 0 → SameWithin s t at (at + k)) → n ≤ k → eqb differ 0 ≡ true → SameWithin s t at (at + n)
  block_end at k n differ h l e = within_part (h (eqb-true differ 0 e)) (omega arith) (omega arith)

  pub block_told : (at k n differ : ℕ) → (SameWithin s t at (at + k) → differ ≡ 0) → k ≤ n → SameWithin s t at (at + n) → eqb differ 0 ≡ true
  block_told at k n differ h l p = eq-eqb differ 0 (h (within_part p (omega arith) (omega arith)))

-- equal units have the same five low bits
folded_low : (u : ℕ) → folded u % 32 ≡ u % 32
folded_low u = go (lt_or_le u 65) (lt_or_le 90 u)
  where
    go : (u < 65) ⊎ (65 ≤ u) → (90 < u) ⊎ (u ≤ 90) → folded u % 32 ≡ u % 32
    go (inl p) q = rw (folded_below u p)
    go (inr p) (inl q) = rw (folded_above u q)
    go (inr p) (inr q) = rw (folded_letter u p q) (omega arith)

same_unit_low : (x y : ℕ) → same_unit x y ≡ true → x % 32 ≡ y % 32
unfolding same_unit
same_unit_low x y h = sym (folded_low x) ∙ (ap (λ (n : ℕ). n % 32) (eqb-true (folded x) (folded y) h) ∙ folded_low y)

pub within_low : (s t : List ℕ) {from to : ℕ} (k : ℕ) → from ≤ k → k < to → SameWithin s t from to → get_or s k 0 % 32 ≡ get_or t k 0 % 32
within_low s t k u v p = same_unit_low _ _ (p.at k u v)

-- What the functions of this crate name.
-- one block, compared
pub ruleset block = (within_none, block_more, block_less, block_end, block_told)

-- block after block
pub ruleset blocks = (within_none, within_join, within_all, unlike_within)

-- unit after unit
pub ruleset one_by_one = (within_none, within_more, within_equal, within_all, unlike_at)
