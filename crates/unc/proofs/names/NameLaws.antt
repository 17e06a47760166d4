-- Laws of equal units and equal names. Every crate above uses these laws, and not the text of `folded`.
use mathlib.Core.Path.{◌≡◌, refl, sym, ap, ◌∙◌}
use mathlib.Core.Bool.{Bool, true, false, true≢false, and-true}
use mathlib.Core.List.{List, [], ◌∷◌}
use mathlib.Core.Logic.{◌⊎◌, inl, inr}
use Prim.Native.Nat.{ℕ, suc, ◌+◌, ◌≤◌, ◌<◌}
use native.Mathlib.Omega.{arith}
use lib.Dec.{leb, eqb}
use lib.ListN.{length, get_or}
use borrow.Author.Tests.{eqb-true, eq-eqb, ne_eqb, le-leb, lt-leb}
use Rattle.laws.specs.Lists.{every}
use Rattle.laws.proofs.Choices.{choose_yes, choose_no, and_left, and_right, and_both, and_no_left, and_no_right, eqb_refl, eqb_sym, eqb_trans}
use Rattle.laws.proofs.Orders.{lt_or_le}
use Rattle.unc.specs.names.Names.{folded, same_unit, same_name, nothing_or_dots}

-- the three ways of `folded`
pub folded_below : (u : ℕ) → u < 65 → folded u ≡ u
unfolding folded
folded_below u h = choose_no (u + 32) u (and_no_left (leb u 90) (lt-leb 65 u h))

pub folded_above : (u : ℕ) → 90 < u → folded u ≡ u
unfolding folded
folded_above u h = choose_no (u + 32) u (and_no_right (leb 65 u) (lt-leb u 90 h))

pub folded_letter : (u : ℕ) → 65 ≤ u → u ≤ 90 → folded u ≡ u + 32
unfolding folded
folded_letter u h k = choose_yes (u + 32) u (and_both (le-leb 65 u h) (le-leb u 90 k))

-- equal units are an equivalence
pub same_unit_refl : (a : ℕ) → same_unit a a ≡ true
unfolding same_unit
same_unit_refl a = eqb_refl (folded a)

pub same_unit_sym : (a b : ℕ) → same_unit a b ≡ true → same_unit b a ≡ true
unfolding same_unit
same_unit_sym a b h = eqb_sym (folded a) (folded b) h

pub same_unit_trans : (a b c : ℕ) → same_unit a b ≡ true → same_unit b c ≡ true → same_unit a c ≡ true
unfolding same_unit
same_unit_trans a b c h k = eqb_trans (folded a) (folded b) (folded c) h k

pub same_unit_lem : (a b : ℕ) {r q : ℕ} → r ≡ folded a → q ≡ folded b → eqb r q ≡ same_unit a b
unfolding same_unit
same_unit_lem a b e f = rw (e, f)

-- A unit that is equal only to itself: one that is no letter. Backslash, "/", "." and 0 are such units.
pub record Alone (u : ℕ) : Type 0 where
  pub only : (a : ℕ) → same_unit a u ≡ true → a ≡ u

pub alone_of : (u : ℕ) → folded u ≡ u → ((a : ℕ) → 65 ≤ a → a ≤ 90 → a + 32 ≡ u → ⊥) → Alone u
unfolding same_unit
alone_of u e h = record { only = λ a k. at a (eqb-true (folded a) (folded u) k) (lt_or_le a 65) (lt_or_le 90 a) }
  where
    at : (a : ℕ) → folded a ≡ folded u → (a < 65) ⊎ (65 ≤ a) → (90 < a) ⊎ (a ≤ 90) → a ≡ u
    at a k (inl p) q = sym (folded_below a p) ∙ (k ∙ e)
    at a k (inr p) (inl q) = sym (folded_above a q) ∙ (k ∙ e)
    at a k (inr p) (inr q) = absurd (h a p q (sym (folded_letter a p q) ∙ (k ∙ e)))

pub alone_backslash : Alone 92
alone_backslash = alone_of 92 (folded_above 92 (omega arith)) (λ a p q e. omega arith)

-- equal names are an equivalence
pub same_name_refl : (s : List ℕ) → same_name s s ≡ true
unfolding same_name
same_name_refl [] = refl
same_name_refl (a ∷ s) = and_both (same_unit_refl a) (same_name_refl s)

pub same_name_sym : (s t : List ℕ) → same_name s t ≡ true → same_name t s ≡ true
unfolding same_name
same_name_sym [] [] h = refl
same_name_sym [] (b ∷ t) h = absurd (true≢false (sym h))
same_name_sym (a ∷ s) [] h = absurd (true≢false (sym h))
same_name_sym (a ∷ s) (b ∷ t) h =
    and_both (same_unit_sym a b (and_left (same_unit a b) _ h)) (same_name_sym s t (and_right (same_unit a b) _ h))

pub same_name_trans : (s t r : List ℕ) → same_name s t ≡ true → same_name t r ≡ true → same_name s r ≡ true
unfolding same_name
same_name_trans [] [] r h k = k
same_name_trans [] (b ∷ t) r h k = absurd (true≢false (sym h))
same_name_trans (a ∷ s) [] r h k = absurd (true≢false (sym h))
same_name_trans (a ∷ s) (b ∷ t) [] h k = absurd (true≢false (sym k))
same_name_trans (a ∷ s) (b ∷ t) (c ∷ r) h k =
    and_both
    (same_unit_trans a b c (and_left (same_unit a b) _ h) (and_left (same_unit b c) _ k))
    (same_name_trans s t r (and_right (same_unit a b) _ h) (and_right (same_unit b c) _ k))

-- equal names are as long as each other
pub same_name_length : (s t : List ℕ) → same_name s t ≡ true → length s ≡ length t
unfolding same_name
same_name_length [] [] h = refl
same_name_length [] (b ∷ t) h = absurd (true≢false (sym h))
same_name_length (a ∷ s) [] h = absurd (true≢false (sym h))
same_name_length (a ∷ s) (b ∷ t) h = ap suc (same_name_length s t (and_right (same_unit a b) _ h))

pub same_name_unlike : (s t : List ℕ) → (length s ≡ length t → ⊥) → same_name s t ≡ false
same_name_unlike s t h = go (same_name s t) refl
  where
    go : (b : Bool) → same_name s t ≡ b → same_name s t ≡ false
    go true e = absurd (h (same_name_length s t e))
    go false e = e

-- the ways of `nothing_or_dots`
pub dots_long : (s : List ℕ) → 2 < length s → false ≡ nothing_or_dots s
unfolding nothing_or_dots
dots_long s h = sym (and_no_left _ (lt-leb (length s) 2 h))

pub dots_none : (s : List ℕ) → length s ≡ 0 → true ≡ nothing_or_dots s
unfolding nothing_or_dots every
dots_none [] h = refl
dots_none (u ∷ s) h = absurd (omega arith)

pub dots_other : (s : List ℕ) → (length s ≡ 0 → ⊥) → (get_or s 0 0 ≡ 46 → ⊥) → false ≡ nothing_or_dots s
unfolding nothing_or_dots every
dots_other [] h k = absurd (h refl)
dots_other (u ∷ s) h k = rw (ne_eqb u 46 k) (sym (and_no_right (leb (suc (length s)) 2) refl))

pub dots_one : (s : List ℕ) → length s ≡ 1 → eqb (get_or s 0 0) 46 ≡ nothing_or_dots s
unfolding nothing_or_dots every
dots_one [] h = absurd (omega arith)
dots_one (u ∷ []) h = sym (and-true (eqb u 46))
dots_one (u ∷ (v ∷ s)) h = absurd (omega arith)

pub dots_two : (s : List ℕ) → length s ≡ 2 → get_or s 0 0 ≡ 46 → eqb (get_or s 1 0) 46 ≡ nothing_or_dots s
unfolding nothing_or_dots every
dots_two [] h k = absurd (omega arith)
dots_two (u ∷ []) h k = absurd (omega arith)
dots_two (u ∷ (v ∷ [])) h k = rw (eq-eqb u 46 k) (sym (and-true (eqb v 46)))
dots_two (u ∷ (v ∷ (w ∷ s))) h k = absurd (omega arith)

-- What the functions of this crate name.
-- the ways of `folded`
pub ruleset folds = (folded_below, folded_above, folded_letter)

-- the ways of `nothing_or_dots`
pub ruleset dots = (dots_long, dots_none, dots_one, dots_two, dots_other)
