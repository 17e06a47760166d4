-- Laws of spellings: what is spelled is of 16-bit units, and two names are equal exactly where their spellings are.
use mathlib.Core.Path.{◌≡◌, refl, sym, ap, subst, ◌∙◌}
use mathlib.Core.Bool.{Bool, true, false, true≢false, ◌&&◌}
use mathlib.Core.List.{List, [], ◌∷◌, ◌++◌}
use mathlib.Core.Logic.{◌⊎◌, inl, inr}
use Prim.Native.Nat.{ℕ, zero, suc, ◌+◌, ◌/◌, ◌%◌, ◌≤◌, ◌<◌}
use native.Mathlib.Omega.{arith}
use lib.ListN.{length}
use lib.Dec.{ltb}
use borrow.Author.Tests.{ne_eqb, le-leb, lt-leb, ltb-true, lt-ltb, eqb-true}
use Rattle.laws.specs.Lists.{every}
use Rattle.laws.proofs.Choices.{choose_yes, choose_no, and_both, and_left, and_right, and_no_left}
use Rattle.laws.proofs.Tests.{both_ways}
use Rattle.laws.proofs.Orders.{told, lt_or_le}
use Rattle.unc.specs.names.Names.{folded, same_unit, same_name}
use Rattle.unc.proofs.names.NameLaws.{folded_below, folded_above, folded_letter, same_unit_refl}
use Rattle.listing_spelling.specs.spell.Spelling.{tilde, stands, digit_unit, hex_units, spelled_unit, spelled}
use Rattle.listing_spelling.proofs.spell.SpellingLaws.{unit_stands, unit_escaped, stands_low, stands_rest}
use Rattle.listing_spelling.specs.unspell.Reading.{unit, hex_of, unspelled, is_spelled}
use Rattle.listing_spelling.proofs.unspell.HexLaws.{escape_told, hex_back}
use Rattle.listing_spelling.proofs.unspell.UnspelledLaws.{says_nothing, stands_says, stands_form, escape_says, escape_form, escape_small, must_escape}

-- the units that stand as they are
pub stands_told : (u : ℕ) → stands u ≡ true → (33 ≤ u) × (u < 126)
stands_told u h = go (lt_or_le u 33)
  where
    go : (u < 33) ⊎ (33 ≤ u) → (33 ≤ u) × (u < 126)
    go (inl l) = absurd (true≢false (sym h ∙ stands_low u l))
    go (inr l) = (l, ltb-true u 126 (stands_rest u l ∙ h))

pub hides_told : (u : ℕ) → stands u ≡ false → (u < 33) ⊎ (126 ≤ u)
hides_told u h = go (lt_or_le u 33) (lt_or_le u 126)
  where
    go : (u < 33) ⊎ (33 ≤ u) → (u < 126) ⊎ (126 ≤ u) → (u < 33) ⊎ (126 ≤ u)
    go (inl l) k = inl l
    go (inr l) (inr k) = inr k
    go (inr l) (inl k) = absurd (true≢false (sym (lt-ltb u 126 k) ∙ (stands_rest u l ∙ h)))

-- what is said is of 16-bit units
small : (v : ℕ) → v < 65536 → unit v ≡ true
unfolding unit
small v k = lt-ltb v 65536 k

units_step : (n : ℕ) → ((t : List ℕ) → length t ≤ n → is_spelled t ≡ true → every unit (unspelled t) ≡ true) → (s : List ℕ) → length s ≤ suc n → is_spelled s ≡ true → every unit (unspelled s) ≡ true
unfolding every
units_step n on [] l h = ap (every unit) says_nothing
units_step n on (u ∷ s) l h = go (told (stands u))
  where
    go : (stands u ≡ true) ⊎ (stands u ≡ false) → every unit (unspelled (u ∷ s)) ≡ true
    go (inl k) =
        ap (every unit) (stands_says u s k)
        ∙ and_both (small u (let z = stands_told u k in omega arith)) (on s (omega arith) (sym (stands_form u s k) ∙ h))
    go (inr k) =
        let e = escape_told (u ∷ s) (must_escape u s h k) in
        ap (every unit) (escape_says (u ∷ s) e)
        ∙ and_both (small _ (escape_small (u ∷ s) e)) (on e.rest (omega (arith, ap length e.is)) (sym (escape_form (u ∷ s) e) ∙ h))

units_none : (s : List ℕ) → length s ≤ 0 → every unit (unspelled s) ≡ true
unfolding every
units_none [] l = ap (every unit) says_nothing
units_none (u ∷ s) l = absurd (let z : suc (length s) ≤ 0 = l in omega arith)

units_within : (n : ℕ) (s : List ℕ) → length s ≤ n → is_spelled s ≡ true → every unit (unspelled s) ≡ true
units_within zero s l h = units_none s l
units_within (suc n) s l h = units_step n (λ (t : List ℕ) (k : length t ≤ n) (f : is_spelled t ≡ true). units_within n t k f) s l h

pub units_said : (s : List ℕ) → is_spelled s ≡ true → every unit (unspelled s) ≡ true
units_said s h = units_within (length s) s (omega arith) h

-- a unit that does not stand is compared as it is
hides_folded : (u : ℕ) → stands u ≡ false → folded u ≡ u
hides_folded u h = go (hides_told u h)
  where
    go : (u < 33) ⊎ (126 ≤ u) → folded u ≡ u
    go (inl l) = folded_below u (omega arith)
    go (inr l) = folded_above u (omega arith)

-- and what stands is compared as what stands
stands_folded : (u : ℕ) → stands u ≡ true → (33 ≤ folded u) × (folded u < 126)
stands_folded u h = go (lt_or_le u 65) (lt_or_le 90 u)
  where
    z : (33 ≤ u) × (u < 126)
    z = stands_told u h

    go : (u < 65) ⊎ (65 ≤ u) → (90 < u) ⊎ (u ≤ 90) → (33 ≤ folded u) × (folded u < 126)
    go (inl l) k = let e = folded_below u l in (omega (arith, z.0), omega (arith, z.1))
    go (inr l) (inl k) = let e = folded_above u k in (omega (arith, z.0), omega (arith, z.1))
    go (inr l) (inr k) = let e = folded_letter u l k in (omega arith, omega arith)

unlike : (u v : ℕ) → stands u ≡ true → (folded v ≡ v) → (v < 33) ⊎ (126 ≤ v) → folded u ≡ folded v → ⊥
unlike u v h f (inl l) e = let z = stands_folded u h in omega arith
unlike u v h f (inr l) e = let z = stands_folded u h in omega arith

apart_units : (u v : ℕ) → stands u ≡ true → stands v ≡ false → same_unit u v ≡ false
unfolding same_unit
apart_units u v h k = ne_eqb (folded u) (folded v) (unlike u v h (hides_folded v k) (hides_told v k))

apart_units_back : (u v : ℕ) → stands u ≡ false → stands v ≡ true → same_unit u v ≡ false
unfolding same_unit
apart_units_back u v h k = ne_eqb (folded u) (folded v) (λ e. unlike v u k (hides_folded u h) (hides_told u h) (sym e))

tilde_hides : stands tilde ≡ false
unfolding stands
tilde_hides = refl

-- digits are equal where they are the same
digit_folds : (d : ℕ) → d < 16 → ((d < 10) × (folded (digit_unit d) ≡ 48 + d)) ⊎ ((10 ≤ d) × (folded (digit_unit d) ≡ 87 + d))
unfolding digit_unit
digit_folds d h = go (lt_or_le d 10)
  where
    go : (d < 10) ⊎ (10 ≤ d) → ((d < 10) × (folded (digit_unit d) ≡ 48 + d)) ⊎ ((10 ≤ d) × (folded (digit_unit d) ≡ 87 + d))
    go (inl l) = inl (l, ap folded (choose_yes (48 + d) (55 + d) (le-leb d 9 (omega arith))) ∙ folded_below (48 + d) (omega arith))
    go (inr l) =
        inr
        (l, ap folded (choose_no (48 + d) (55 + d) (lt-leb d 9 (omega arith))) ∙ (folded_letter (55 + d) (omega arith) (omega arith) ∙ (let e : 55 + d + 32 ≡ 87 + d = omega arith in e)))

digit_same : (d e : ℕ) → d < 16 → e < 16 → folded (digit_unit d) ≡ folded (digit_unit e) → d ≡ e
digit_same d e h k s = go (digit_folds d h) (digit_folds e k)
  where
    go : ((d < 10) × (folded (digit_unit d) ≡ 48 + d)) ⊎ ((10 ≤ d) × (folded (digit_unit d) ≡ 87 + d))
        → ((e < 10) × (folded (digit_unit e) ≡ 48 + e)) ⊎ ((10 ≤ e) × (folded (digit_unit e) ≡ 87 + e)) → d ≡ e
    go (inl a) (inl b) = omega (arith, a.1, b.1)
    go (inl a) (inr b) = omega (arith, a.0, a.1, b.0, b.1)
    go (inr a) (inl b) = omega (arith, a.0, a.1, b.0, b.1)
    go (inr a) (inr b) = omega (arith, a.1, b.1)

hex_same : (u v : ℕ) → u < 65536 → v < 65536 → u / 4096 % 16 ≡ v / 4096 % 16 → u / 256 % 16 ≡ v / 256 % 16 → u / 16 % 16 ≡ v / 16 % 16 → u % 16 ≡ v % 16 → u ≡ v
unfolding hex_units
hex_same u v h k a b c d =
    sym (hex_back u [] h)
    ∙ (ap hex_of (λ i. digit_unit (a i) ∷ digit_unit (b i) ∷ digit_unit (c i) ∷ digit_unit (d i) ∷ []) ∙ hex_back v [] k)

folds_same : (a b : ℕ) → same_unit a b ≡ true → folded a ≡ folded b
unfolding same_unit
folds_same a b h = eqb-true (folded a) (folded b) h

same_before : (r p q : List ℕ) → same_name p q ≡ true → same_name (r ++ p) (r ++ q) ≡ true
unfolding same_name
same_before [] p q h = h
same_before (u ∷ r) p q h = and_both (same_unit_refl u) (same_before r p q h)

-- two escapes
module _ (u v : ℕ) (p q : List ℕ) (small-u : u < 65536) (small-v : v < 65536) where
  escapes_same : same_name ((tilde ∷ hex_units u) ++ p) ((tilde ∷ hex_units v) ++ q) ≡ true → (u ≡ v) × (same_name p q ≡ true)
  unfolding same_name hex_units
  escapes_same h =
      let h₁ = and_right (same_unit tilde tilde) _ h in
      let h₂ = and_right (same_unit (digit_unit (u / 4096 % 16)) (digit_unit (v / 4096 % 16))) _ h₁ in
      let h₃ = and_right (same_unit (digit_unit (u / 256 % 16)) (digit_unit (v / 256 % 16))) _ h₂ in
      let h₄ = and_right (same_unit (digit_unit (u / 16 % 16)) (digit_unit (v / 16 % 16))) _ h₃ in
      let same : (d e : ℕ) → d < 16 → e < 16 → same_unit (digit_unit d) (digit_unit e) ≡ true → d ≡ e = λ d e k l s. digit_same d e k l (folds_same (digit_unit d) (digit_unit e) s) in (
        hex_same u v small-u small-v
            (same (u / 4096 % 16) (v / 4096 % 16) (omega arith) (omega arith) (and_left (same_unit (digit_unit (u / 4096 % 16)) (digit_unit (v / 4096 % 16))) _ h₁))
            (same (u / 256 % 16) (v / 256 % 16) (omega arith) (omega arith) (and_left (same_unit (digit_unit (u / 256 % 16)) (digit_unit (v / 256 % 16))) _ h₂))
            (same (u / 16 % 16) (v / 16 % 16) (omega arith) (omega arith) (and_left (same_unit (digit_unit (u / 16 % 16)) (digit_unit (v / 16 % 16))) _ h₃))
            (same (u % 16) (v % 16) (omega arith) (omega arith) (and_left (same_unit (digit_unit (u % 16)) (digit_unit (v % 16))) _ h₄)),
        and_right (same_unit (digit_unit (u % 16)) (digit_unit (v % 16))) _ h₄,
      )

  escapes : stands u ≡ false → stands v ≡ false → same_name ((tilde ∷ hex_units u) ++ p) ((tilde ∷ hex_units v) ++ q) ≡ (same_unit u v && same_name p q)
  escapes h k =
      both_ways _ _
      (λ s. let w = escapes_same s in and_both (subst (λ (x : ℕ). same_unit u x ≡ true) w.0 (same_unit_refl u)) w.1)
      (λ s.
      let e : u ≡ v = sym (hides_folded u h) ∙ (folds_same u v (and_left (same_unit u v) _ s) ∙ hides_folded v k) in
      subst (λ (x : ℕ). same_name ((tilde ∷ hex_units u) ++ p) ((tilde ∷ hex_units x) ++ q) ≡ true) e (same_before (tilde ∷ hex_units u) p q (and_right (same_unit u v) _ s)))

-- a spelling of something is not empty
nothing_left : (v : ℕ) (q : List ℕ) → same_name [] (spelled_unit v ++ q) ≡ false
unfolding same_name
nothing_left v q = go (told (stands v))
  where
    go : (stands v ≡ true) ⊎ (stands v ≡ false) → same_name [] (spelled_unit v ++ q) ≡ false
    go (inl k) = ap (λ (x : List ℕ). same_name [] (x ++ q)) (unit_stands v k)
    go (inr k) = ap (λ (x : List ℕ). same_name [] (x ++ q)) (unit_escaped v k)

nothing_right : (u : ℕ) (p : List ℕ) → same_name (spelled_unit u ++ p) [] ≡ false
unfolding same_name
nothing_right u p = go (told (stands u))
  where
    go : (stands u ≡ true) ⊎ (stands u ≡ false) → same_name (spelled_unit u ++ p) [] ≡ false
    go (inl k) = ap (λ (x : List ℕ). same_name (x ++ p) []) (unit_stands u k)
    go (inr k) = ap (λ (x : List ℕ). same_name (x ++ p) []) (unit_escaped u k)

unit_small : (u : ℕ) (s : List ℕ) → every unit (u ∷ s) ≡ true → u < 65536
unfolding every unit
unit_small u s h = ltb-true u 65536 (and_left (ltb u 65536) _ h)

rest_units : (u : ℕ) (s : List ℕ) → every unit (u ∷ s) ≡ true → every unit s ≡ true
unfolding every
rest_units u s h = and_right (unit u) _ h

-- names are equal exactly where their spellings are
pub spelled_same : (p q : List ℕ) → every unit p ≡ true → every unit q ≡ true → same_name (spelled p) (spelled q) ≡ same_name p q
unfolding same_name spelled
spelled_same [] [] h k = refl
spelled_same [] (v ∷ q) h k = nothing_left v (spelled q)
spelled_same (u ∷ p) [] h k = nothing_right u (spelled p)
spelled_same (u ∷ p) (v ∷ q) h k = go (told (stands u)) (told (stands v)) (spelled_same p q (rest_units u p h) (rest_units v q k))
  where
    joined : {x y : List ℕ} → spelled_unit u ≡ x → spelled_unit v ≡ y → same_name (spelled_unit u ++ spelled p) (spelled_unit v ++ spelled q) ≡ same_name (x ++ spelled p) (y ++ spelled q)
    joined a b = λ i. same_name (a i ++ spelled p) (b i ++ spelled q)

    go : (stands u ≡ true) ⊎ (stands u ≡ false) → (stands v ≡ true) ⊎ (stands v ≡ false) → same_name (spelled p) (spelled q) ≡ same_name p q
        → same_name (spelled_unit u ++ spelled p) (spelled_unit v ++ spelled q) ≡ (same_unit u v && same_name p q)
    go (inl a) (inl b) e = joined (unit_stands u a) (unit_stands v b) ∙ ap (λ (x : Bool). same_unit u v && x) e
    go (inl a) (inr b) e =
        joined (unit_stands u a) (unit_escaped v b)
        ∙ (and_no_left _ (apart_units u tilde a tilde_hides) ∙ sym (and_no_left (same_name p q) (apart_units u v a b)))
    go (inr a) (inl b) e =
        joined (unit_escaped u a) (unit_stands v b)
        ∙ (and_no_left _ (apart_units_back tilde v tilde_hides b) ∙ sym (and_no_left (same_name p q) (apart_units_back u v a b)))
    go (inr a) (inr b) e =
        joined (unit_escaped u a) (unit_escaped v b)
        ∙ (escapes u v (spelled p) (spelled q) (unit_small u p h) (unit_small v q k) a b ∙ ap (λ (x : Bool). same_unit u v && x) e)
