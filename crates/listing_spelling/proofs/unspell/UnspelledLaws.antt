-- Laws of what spelled texts say.
use Rattle.std.specs.Prelude.{Option, None, Some}
use mathlib.Core.Path.{◌≡◌, refl, sym, ap, subst, ◌∙◌}
use mathlib.Core.Bool.{Bool, true, false, true≢false, ◌&&◌, not}
use mathlib.Core.List.{List, [], ◌∷◌, ◌++◌}
use mathlib.Core.Logic.{◌⊎◌, inl, inr}
use Prim.Native.Nat.{ℕ, ◌+◌, ◌-◌, ◌/◌, ◌%◌, ◌≤◌, ◌<◌}
use native.Mathlib.Omega.{arith}
use lib.ListN.{length, take, drop, length-drop}
use lib.Seq.{take_all}
use lib.Dec.{leb, eqb}
use borrow.Author.Tests.{eqb-true, eqb-false, le-leb, ltb-true}
use Rattle.laws.specs.Choice.{choose}
use Rattle.laws.specs.Lists.{every}
use Rattle.laws.specs.Listed.{same_list}
use Rattle.laws.proofs.Choices.{choose_yes, choose_no, and_both, and_left, and_right, eqb_refl}
use Rattle.laws.proofs.Listed.{same_list_true}
use Rattle.laws.proofs.Tests.{refuted}
use Rattle.laws.proofs.Orders.{told}
use Rattle.listing_spelling.specs.spell.Spelling.{tilde, stands, digit_unit, hex_units, spelled_unit, spelled}
use Rattle.listing_spelling.proofs.spell.SpellingLaws.{unit_stands, unit_escaped}
use Rattle.listing_spelling.proofs.spell.PutLaws.{Left}
use Rattle.listing_spelling.specs.unspell.Reading.{hex_of, unspelled_from, unspelled, is_spelled, unit}
use Rattle.listing_spelling.specs.unspell.Code.{spelled_form, hex_digits, is_escape}
use Rattle.listing_spelling.proofs.unspell.HexLaws.{Escape, escape_told, digits_back, hex_small, hex_back, unit_hex}

head_same : {a b : ℕ} {s t : List ℕ} → a ∷ s ≡ b ∷ t → a ≡ b
head_same e = cc

refuted_no : (b : Bool) → (b ≡ false → ⊥) → b ≡ true
refuted_no true f = refl
refuted_no false f = absurd (f refl)

tilde_first : (u : ℕ) (s : List ℕ) → is_escape (u ∷ s) ≡ true → u ≡ tilde
tilde_first u s h = let e = escape_told (u ∷ s) h in head_same e.is

-- the same units before two lists
same_after : (p x y : List ℕ) → same_list (p ++ x) (p ++ y) ≡ same_list x y
unfolding same_list
same_after [] x y = refl
same_after (a ∷ p) x y = ap (λ (b : Bool). b && same_list (p ++ x) (p ++ y)) (eqb_refl a) ∙ same_after p x y

pub stands_plain : (u : ℕ) → stands u ≡ true → eqb u tilde ≡ false
unfolding stands
stands_plain u h = go (eqb u tilde) (and_right (leb u 126) _ (and_right (leb 33 u) _ h))
  where
    go : (b : Bool) → not b ≡ true → b ≡ false
    go true e = sym e
    go false e = refl

pub tilde_hides : stands tilde ≡ false
unfolding stands
tilde_hides = refl

says_plain : (u : ℕ) (s : List ℕ) → eqb u tilde ≡ false → unspelled (u ∷ s) ≡ u ∷ unspelled s
unfolding unspelled unspelled_from
says_plain u s h = choose_no _ _ h

says_escape : (a b c d : ℕ) (s : List ℕ) → unspelled (tilde ∷ a ∷ b ∷ c ∷ d ∷ s) ≡ hex_of (a ∷ b ∷ c ∷ d ∷ s) ∷ unspelled s
unfolding unspelled unspelled_from
says_escape a b c d s = choose_yes _ _ (eqb_refl tilde)

says_tilde : (s : List ℕ) → unspelled (tilde ∷ s) ≡ hex_of s ∷ unspelled_from 4 s
unfolding unspelled unspelled_from
says_tilde s = choose_yes _ _ (eqb_refl tilde)

-- a unit that stands as it is
pub stands_says : (u : ℕ) (s : List ℕ) → stands u ≡ true → unspelled (u ∷ s) ≡ u ∷ unspelled s
stands_says u s h = says_plain u s (stands_plain u h)

pub stands_form : (u : ℕ) (s : List ℕ) → stands u ≡ true → is_spelled (u ∷ s) ≡ is_spelled s
unfolding is_spelled spelled
stands_form u s h =
    ap (λ (x : List ℕ). same_list (spelled x) (u ∷ s)) (stands_says u s h)
    ∙ (ap (λ (x : List ℕ). same_list (x ++ spelled (unspelled s)) (u ∷ s)) (unit_stands u h) ∙ same_after (u ∷ []) (spelled (unspelled s)) s)

-- an escape
module _ (t : List ℕ) (e : Escape t) where
  pub escape_says : unspelled t ≡ hex_of (drop 1 t) ∷ unspelled e.rest
  escape_says = rw e.is (says_escape e.a e.b e.c e.d e.rest)

  pub escape_form : is_spelled t ≡ is_spelled e.rest
  unfolding is_spelled spelled
  escape_form =
      let q : List ℕ = e.a ∷ e.b ∷ e.c ∷ e.d ∷ [] in
      let h : ℕ = hex_of (e.a ∷ e.b ∷ e.c ∷ e.d ∷ e.rest) in
      let k : spelled_unit h ≡ tilde ∷ q = unit_escaped h e.hides ∙ ap (λ (x : List ℕ). tilde ∷ x) (digits_back e.a e.b e.c e.d e.rest e.first e.second e.third e.fourth) in
      ap (λ (x : List ℕ). same_list (spelled (unspelled x)) x) e.is
      ∙ (ap (λ (x : List ℕ). same_list (spelled x) (tilde ∷ (q ++ e.rest))) (says_escape e.a e.b e.c e.d e.rest)
      ∙ (ap (λ (x : List ℕ). same_list (x ++ spelled (unspelled e.rest)) (tilde ∷ (q ++ e.rest))) k
      ∙ same_after (tilde ∷ q) (spelled (unspelled e.rest)) e.rest))

  pub escape_small : hex_of (drop 1 t) < 65536
  escape_small = rw e.is (hex_small e.a e.b e.c e.d e.rest e.first e.second e.third e.fourth)

  pub escape_long : 5 ≤ length t
  escape_long = omega (arith, ap length e.is)

-- a spelling that begins with a unit that does not stand as it is begins with an escape
pub must_escape : (u : ℕ) (s : List ℕ) → is_spelled (u ∷ s) ≡ true → stands u ≡ false → is_escape (u ∷ s) ≡ true
unfolding is_spelled spelled is_escape hex_digits hex_units
must_escape u s h n = go (told (eqb u tilde))
  where
    same : spelled (unspelled (u ∷ s)) ≡ u ∷ s
    same = same_list_true _ _ h

    built : (v : ℕ) (x : List ℕ) → stands v ≡ false → hex_of s ≡ v → s ≡ hex_units v ++ x → is_escape (tilde ∷ s) ≡ true
    built v x k e f =
        and_both (le-leb 5 (length (tilde ∷ s)) (omega (arith, ap length f)))
        (and_both (eqb_refl tilde)
        (and_both
        (subst (λ (y : List ℕ). hex_digits y ≡ true) (sym f)
        (and_both (unit_hex (v / 4096 % 16) (omega arith)) (and_both (unit_hex (v / 256 % 16) (omega arith)) (and_both (unit_hex (v / 16 % 16) (omega arith)) (unit_hex (v % 16) (omega arith))))))
        (ap not (ap stands e ∙ k))))

    tail_same : {a b : ℕ} {x y : List ℕ} → a ∷ x ≡ b ∷ y → x ≡ y
    tail_same e = cc

    inner : (spelled_unit (hex_of s) ++ spelled (unspelled_from 4 s) ≡ tilde ∷ s) → (stands (hex_of s) ≡ true) ⊎ (stands (hex_of s) ≡ false) → is_escape (tilde ∷ s) ≡ true
    inner e (inl k) =
        absurd
        (true≢false
        (sym k
        ∙ (ap stands (head_same (sym (ap (λ (x : List ℕ). x ++ spelled (unspelled_from 4 s)) (unit_stands (hex_of s) k)) ∙ e)) ∙ tilde_hides)))
    inner e (inr k) =
        built (hex_of s) (spelled (unspelled_from 4 s)) k refl
        (sym (tail_same (sym (ap (λ (x : List ℕ). x ++ spelled (unspelled_from 4 s)) (unit_escaped (hex_of s) k)) ∙ e)))

    go : (eqb u tilde ≡ true) ⊎ (eqb u tilde ≡ false) → is_escape (u ∷ s) ≡ true
    go (inl e) =
        let f = eqb-true u tilde e in
        subst (λ (x : ℕ). is_escape (x ∷ s) ≡ true) (sym f)
        (inner (sym (ap spelled (says_tilde s)) ∙ subst (λ (x : ℕ). spelled (unspelled (x ∷ s)) ≡ x ∷ s) f same) (told (stands (hex_of s))))
    go (inr e) =
        absurd
        (eqb-false u tilde e
        (sym (head_same (sym (ap (λ (x : List ℕ). x ++ spelled (unspelled s)) (unit_escaped u n)) ∙ (sym (ap spelled (says_plain u s e)) ∙ same)))))

-- "Text read and listed again is the same text": by the definition. And a text spelled says itself.
pub says_nothing : unspelled [] ≡ []
unfolding unspelled unspelled_from
says_nothing = refl

four : (u : ℕ) (s : List ℕ) → unspelled ((tilde ∷ hex_units u) ++ s) ≡ hex_of (hex_units u ++ s) ∷ unspelled s
unfolding hex_units
four u s = says_escape (digit_unit (u / 4096 % 16)) (digit_unit (u / 256 % 16)) (digit_unit (u / 16 % 16)) (digit_unit (u % 16)) s

pub unspelled_spelled : (s : List ℕ) → every unit s ≡ true → unspelled (spelled s) ≡ s
unfolding every unit spelled
unspelled_spelled [] h = says_nothing
unspelled_spelled (u ∷ s) h = go (unspelled_spelled s (and_right (unit u) _ h)) (told (stands u))
  where
    escaped : unspelled (spelled s) ≡ s → unspelled ((tilde ∷ hex_units u) ++ spelled s) ≡ u ∷ s
    escaped i = four u (spelled s) ∙ (ap (λ (x : ℕ). x ∷ unspelled (spelled s)) (hex_back u (spelled s) (ltb-true u 65536 (and_left (unit u) _ h))) ∙ ap (λ (x : List ℕ). u ∷ x) i)

    go : unspelled (spelled s) ≡ s → (stands u ≡ true) ⊎ (stands u ≡ false) → unspelled (spelled_unit u ++ spelled s) ≡ u ∷ s
    go i (inl k) = ap (λ (x : List ℕ). unspelled (x ++ spelled s)) (unit_stands u k) ∙ (stands_says u (spelled s) k ∙ ap (λ (x : List ℕ). u ∷ x) i)
    go i (inr k) = ap (λ (x : List ℕ). unspelled (x ++ spelled s)) (unit_escaped u k) ∙ escaped i

-- over the units of a text
pub form_from : ℕ → List ℕ → Option ℕ
form_from n t = choose (is_spelled t) (Some (n + length (unspelled t))) None

pub form_start : (s : List ℕ) → spelled_form s ≡ form_from 0 s
unfolding spelled_form form_from
form_start s = ap (λ (x : ℕ). choose (is_spelled s) (Some x) None) (let e : length (unspelled s) ≡ 0 + length (unspelled s) = omega arith in e)

form_same : (n : ℕ) (t : List ℕ) (v : ℕ) (r : List ℕ) → is_spelled t ≡ is_spelled r → unspelled t ≡ v ∷ unspelled r → form_from n t ≡ form_from (n + 1) r
unfolding form_from
form_same n t v r e f =
    let k : n + length (unspelled t) ≡ n + 1 + length (unspelled r) = omega (arith, ap length f) in
    λ i. choose (e i) (Some (k i)) None

pub form_stands : {t s : List ℕ} {u : ℕ} (n : ℕ) → t ≡ u ∷ s → stands u ≡ true → form_from n t ≡ form_from (n + 1) s
form_stands {t} {s} {u} n e h = ap (form_from n) e ∙ form_same n (u ∷ s) u s (stands_form u s h) (stands_says u s h)

past : (t : List ℕ) (e : Escape t) → e.rest ≡ drop 5 t
past t e = ap (drop 5) (sym e.is)

pub form_escape : (t : List ℕ) (n : ℕ) → is_escape t ≡ true → form_from n t ≡ form_from (n + 1) (drop 5 t)
form_escape t n h =
    let e = escape_told t h in
    form_same n t _ _ (escape_form t e) (escape_says t e) ∙ ap (form_from (n + 1)) (past t e)

pub escape_within : (t : List ℕ) → is_escape t ≡ true → 5 ≤ length t
escape_within t h = escape_long t (escape_told t h)

pub form_bad : {t s : List ℕ} {u : ℕ} (n : ℕ) → t ≡ u ∷ s → stands u ≡ false → is_escape t ≡ false → None ≡ form_from n t
unfolding form_from
form_bad {t} {s} {u} n e h k =
    sym (choose_no _ _ (refuted (is_spelled t) (λ f. true≢false (sym (must_escape u s (ap is_spelled (sym e) ∙ f) h) ∙ (ap is_escape (sym e) ∙ k)))))

none : (t : List ℕ) → length t ≡ 0 → t ≡ []
none [] h = refl
none (u ∷ t) h = absurd (let z = h in omega arith)

pub form_end : (t : List ℕ) (n : ℕ) → length t ≡ 0 → Some n ≡ form_from n t
unfolding form_from is_spelled same_list spelled
form_end t n h =
    let k : n + length (unspelled []) ≡ n = omega (arith, ap length says_nothing) in
    sym (ap (form_from n) (none t h) ∙ (choose_yes _ _ (ap (λ (x : List ℕ). same_list (spelled x) []) says_nothing) ∙ ap Some k))

-- what a spelling says, unit for unit
module _ {t s : List ℕ} {u : ℕ} (e : t ≡ u ∷ s) (h : is_spelled t ≡ true) where
  pub plain_says : (u ≡ tilde → ⊥) → (is_spelled s ≡ true) × (unspelled t ≡ (u ∷ []) ++ unspelled s)
  plain_says n =
      let f : is_spelled (u ∷ s) ≡ true = ap is_spelled (sym e) ∙ h in
      let k : stands u ≡ true = refuted_no (stands u) (λ g. n (tilde_first u s (must_escape u s f g))) in
      (sym (stands_form u s k) ∙ f, ap unspelled e ∙ stands_says u s k)

  module _ (k : u ≡ tilde) where
    tilde_escape : Escape t
    tilde_escape = escape_told t (ap is_escape e ∙ must_escape u s (ap is_spelled (sym e) ∙ h) (ap stands k ∙ tilde_hides))

    tilde_past : tilde_escape.rest ≡ drop 4 s
    tilde_past = past t tilde_escape ∙ ap (drop 5) e

    pub tilde_says : (is_spelled (drop 4 s) ≡ true) × (unspelled t ≡ (hex_of s ∷ []) ++ unspelled (drop 4 s))
    tilde_says =
        (ap is_spelled (sym tilde_past) ∙ (sym (escape_form t tilde_escape) ∙ h), escape_says t tilde_escape ∙ (λ i. hex_of (drop 1 (e i)) ∷ unspelled (tilde_past i)))

    pub tilde_fits : (4 ≤ length s) × (hex_of s < 65536)
    tilde_fits =
        (omega (arith, escape_long t tilde_escape, ap length e), let f : hex_of (drop 1 t) ≡ hex_of s = ap (λ (x : List ℕ). hex_of (drop 1 x)) e in omega (arith, escape_small t tilde_escape))

pub says_end : (t : List ℕ) → length t ≡ 0 → unspelled t ≡ []
says_end t h = ap unspelled (none t h) ∙ says_nothing

-- the part of a text from place k to its end
pub rest_from : (k : ℕ) (t : List ℕ) → take (length t - k) (drop k t) ≡ drop k t
rest_from k t = take_all (length t - k) (drop k t) (omega (arith, length-drop k t))

-- there is room for one unit more
pub left_one : {goal : List ℕ} {stop : ℕ} {d : List ℕ} {n : ℕ} {rest : List ℕ} (v : ℕ) (q : List ℕ) → Left goal stop d n rest → rest ≡ (v ∷ []) ++ q → n < length d
left_one v q l e = omega (arith, l.fits, ap length e)
