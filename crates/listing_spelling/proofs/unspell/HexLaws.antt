-- Laws of hex digits and escapes.
use mathlib.Core.Path.{◌≡◌, refl, sym, ap, ◌∙◌}
use mathlib.Core.Bool.{Bool, true, false, ◌&&◌}
use mathlib.Core.List.{List, [], ◌∷◌, ◌++◌}
use Prim.Native.Nat.{ℕ, ◌+◌, ◌-◌, ◌*◌, ◌/◌, ◌%◌, ◌≤◌, ◌<◌}
use native.Mathlib.Omega.{arith}
use lib.ListN.{length, get_or, take}
use Rattle.std.specs.List.{list_all}
use lib.Dec.{leb, ltb, eqb}
use borrow.Author.Tests.{leb-true, eqb-true, le-leb, lt-leb, not-true}
use Rattle.std.proofs.lemmas.Bool.Decides.{nat_tests}
use Rattle.laws.specs.Choice.{choose}
use Rattle.laws.proofs.Choices.{choose_yes, choose_no, and_left, and_right}
use Rattle.listing_spelling.specs.spell.Spelling.{tilde, stands, digit_unit, hex_units}
use Rattle.listing_spelling.specs.unspell.Reading.{digit_of, hex_of, hex_digit}
use Rattle.listing_spelling.specs.unspell.Code.{hex_digits, is_escape}

-- a digit by where it lies
pub digit_decimal : (u : ℕ) → u < 58 → u - 48 ≡ digit_of u
unfolding digit_of
digit_decimal u h = sym (choose_yes _ _ (le-leb u 57 (omega arith)))

pub digit_letter : (u : ℕ) → 58 ≤ u → u - 55 ≡ digit_of u
unfolding digit_of
digit_letter u h = sym (choose_no _ _ (lt-leb u 57 (omega arith)))

-- the test of a digit
pub hex_low : (u : ℕ) → u < 48 → false ≡ hex_digit u
unfolding hex_digit
hex_low u h = grind (arith, nat_tests)

pub hex_decimal : (u : ℕ) → 48 ≤ u → u < 58 → true ≡ hex_digit u
unfolding hex_digit
hex_decimal u h l = grind (arith, nat_tests)

pub hex_between : (u : ℕ) → 58 ≤ u → u < 65 → false ≡ hex_digit u
unfolding hex_digit
hex_between u h l = grind (arith, nat_tests)

pub hex_letter : (u : ℕ) → 65 ≤ u → ltb u 71 ≡ hex_digit u
unfolding hex_digit
hex_letter u h = grind (arith, nat_tests)

-- a digit and its unit
pub digit_back : (d : ℕ) → d < 16 → digit_of (digit_unit d) ≡ d
unfolding digit_unit digit_of choose
digit_back d h = grind (arith, nat_tests)

-- a unit whose digit is one of sixteen is that digit's unit
pub record Digit (u : ℕ) : Type 0 where
  pub small : digit_of u < 16
  pub back : digit_unit (digit_of u) ≡ u

pub hex_told : (u : ℕ) → hex_digit u ≡ true → Digit u
unfolding hex_digit digit_of digit_unit choose
hex_told u h = record { small = grind (arith, nat_tests); back = grind (arith, nat_tests) }

-- each of a unit's four digits is a hex digit
pub unit_hex : (d : ℕ) → d < 16 → hex_digit (digit_unit d) ≡ true
unfolding hex_digit digit_unit choose
unit_hex d h = grind (arith, nat_tests)

parts : (u : ℕ) → u < 65536 → u ≡ 4096 * (u / 4096 % 16) + (256 * (u / 256 % 16) + (16 * (u / 16 % 16) + u % 16))
parts u h =
    let e₂ : u / 16 ≡ 16 * (u / 256) + u / 16 % 16 = omega arith in
    let e₃ : u / 256 ≡ 16 * (u / 4096) + u / 256 % 16 = omega arith in
    let e₁ : u ≡ 16 * (u / 16) + u % 16 = omega arith in
    let e₄ : u / 4096 % 16 ≡ u / 4096 = omega arith in
    omega arith

-- four digits of a unit, read
pub hex_back : (u : ℕ) (s : List ℕ) → u < 65536 → hex_of (hex_units u ++ s) ≡ u
unfolding hex_of hex_units
hex_back u s h =
    let a = digit_back (u / 4096 % 16) (omega arith) in
    let b = digit_back (u / 256 % 16) (omega arith) in
    let c = digit_back (u / 16 % 16) (omega arith) in
    let d = digit_back (u % 16) (omega arith) in
    (λ i. 4096 * a i + (256 * b i + (16 * c i + d i))) ∙ sym (parts u h)

-- and four digits read, written again
pub digits_back : (a b c d : ℕ) (s : List ℕ) → Digit a → Digit b → Digit c → Digit d → hex_units (hex_of (a ∷ b ∷ c ∷ d ∷ s)) ≡ a ∷ b ∷ c ∷ d ∷ []
unfolding hex_units hex_of
digits_back a b c d s p q r t =
    let x = p.small in
    let y = q.small in
    let z = r.small in
    let w = t.small in
    let n : ℕ = 4096 * digit_of a + (256 * digit_of b + (16 * digit_of c + digit_of d)) in
    let e : n / 4096 % 16 ≡ digit_of a = omega arith in
    let f : n / 256 % 16 ≡ digit_of b = omega arith in
    let g : n / 16 % 16 ≡ digit_of c = omega arith in
    let k : n % 16 ≡ digit_of d = omega arith in
    λ i. (ap digit_unit e ∙ p.back) i ∷ (ap digit_unit f ∙ q.back) i ∷ (ap digit_unit g ∙ r.back) i ∷ (ap digit_unit k ∙ t.back) i ∷ []

pub hex_small : (a b c d : ℕ) (s : List ℕ) → Digit a → Digit b → Digit c → Digit d → hex_of (a ∷ b ∷ c ∷ d ∷ s) < 65536
unfolding hex_of
hex_small a b c d s p q r t = omega (arith, p.small, q.small, r.small, t.small)

-- the first four units of a text, tested
pub hexes_all : (t : List ℕ) → 4 ≤ length t → list_all hex_digit (take 4 t) ≡ hex_digits t
unfolding hex_digits
hexes_all [] h = absurd (let z = h in omega arith)
hexes_all (a ∷ []) h = absurd (let z = h in omega arith)
hexes_all (a ∷ b ∷ []) h = absurd (let z = h in omega arith)
hexes_all (a ∷ b ∷ c ∷ []) h = absurd (let z = h in omega arith)
hexes_all (a ∷ b ∷ c ∷ d ∷ t) h = ap (λ (x : Bool). hex_digit a && (hex_digit b && (hex_digit c && x))) (last (hex_digit d))
  where
    last : (x : Bool) → (x && true) ≡ x
    last true = refl
    last false = refl

-- what an escape is made of
pub record Escape (t : List ℕ) : Type 0 where
  pub a : ℕ
  pub b : ℕ
  pub c : ℕ
  pub d : ℕ
  pub rest : List ℕ
  pub is : t ≡ tilde ∷ a ∷ b ∷ c ∷ d ∷ rest
  pub first : Digit a
  pub second : Digit b
  pub third : Digit c
  pub fourth : Digit d
  pub hides : stands (hex_of (a ∷ b ∷ c ∷ d ∷ rest)) ≡ false

short : (t : List ℕ) → length t < 5 → is_escape t ≡ true → ⊥
unfolding is_escape
short t l h = let k = leb-true 5 (length t) (and_left (leb 5 (length t)) _ h) in omega arith

pub escape_told : (t : List ℕ) → is_escape t ≡ true → Escape t
unfolding is_escape hex_digits
escape_told [] h = absurd (short [] (omega arith) h)
escape_told (x ∷ []) h = absurd (short (x ∷ []) (omega arith) h)
escape_told (x ∷ a ∷ []) h = absurd (short (x ∷ a ∷ []) (omega arith) h)
escape_told (x ∷ a ∷ b ∷ []) h = absurd (short (x ∷ a ∷ b ∷ []) (omega arith) h)
escape_told (x ∷ a ∷ b ∷ c ∷ []) h = absurd (short (x ∷ a ∷ b ∷ c ∷ []) (omega arith) h)
escape_told (x ∷ a ∷ b ∷ c ∷ d ∷ s) h =
    let t : List ℕ = x ∷ a ∷ b ∷ c ∷ d ∷ s in
    let h₁ = and_right (leb 5 (length t)) _ h in
    let h₂ = and_right (eqb x tilde) _ h₁ in
    let g = and_left (hex_digits (a ∷ b ∷ c ∷ d ∷ s)) _ h₂ in
    let g₁ = and_right (hex_digit a) _ g in
    let g₂ = and_right (hex_digit b) _ g₁ in
    record {
      a = a;
      b = b;
      c = c;
      d = d;
      rest = s;
      is = ap (λ (y : ℕ). y ∷ a ∷ b ∷ c ∷ d ∷ s) (eqb-true x tilde (and_left (eqb x tilde) _ h₁));
      first = hex_told a (and_left (hex_digit a) _ g);
      second = hex_told b (and_left (hex_digit b) _ g₁);
      third = hex_told c (and_left (hex_digit c) _ g₂);
      fourth = hex_told d (and_right (hex_digit c) _ g₂);
      hides = not-true _ (and_right (hex_digits (a ∷ b ∷ c ∷ d ∷ s)) _ h₂);
    }

pub hexes_small : (t : List ℕ) → hex_digits t ≡ true → hex_of t < 65536
unfolding hex_digits hex_of
hexes_small t h =
    let h₁ = and_right (hex_digit (get_or t 0 0)) _ h in
    let h₂ = and_right (hex_digit (get_or t 1 0)) _ h₁ in
    omega (
      arith,
      (hex_told _ (and_left (hex_digit (get_or t 0 0)) _ h)).small,
      (hex_told _ (and_left (hex_digit (get_or t 1 0)) _ h₁)).small,
      (hex_told _ (and_left (hex_digit (get_or t 2 0)) _ h₂)).small,
      (hex_told _ (and_right (hex_digit (get_or t 2 0)) _ h₂)).small,
    )
