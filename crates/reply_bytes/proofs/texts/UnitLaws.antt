-- Laws of units, spans and texts in bytes.
use Rattle.std.specs.Prelude.{Some, None}
use mathlib.Core.Path.{◌≡◌, refl, sym, ap, ◌∙◌, subst}
use mathlib.Core.Bool.{true, false}
use mathlib.Core.List.{List, [], ◌∷◌}
use mathlib.Core.Logic.{◌⊎◌, inl, inr}
use Prim.Native.Nat.{ℕ, zero, suc, ◌+◌, ◌-◌, ◌*◌, ◌≤◌, ◌<◌}
use native.Mathlib.Nat.{not-suc-le-zero, add-zero}
use native.Mathlib.Numerals.{add-one}
use native.Mathlib.Omega.{arith}
use lib.Dec.{eqb}
use lib.ListN.{length, get_or, take, drop, drop_of_length-le, length-drop, replicate}
use lib.Seq.{drop-cons, get_or-drop}
use borrow.Author.Tests.{eq-eqb, ne_eqb}
use Rattle.laws.specs.Choice.{choose}
use Rattle.laws.proofs.Choices.{choose_yes, choose_no}
use Rattle.laws.specs.Lists.{pasted, roomed}
use Rattle.laws.proofs.Orders.{told, lt_or_le}
use Rattle.laws.proofs.Pasting.{pasted_room, pasted_nil, copied_more}
use Rattle.reply_bytes.specs.texts.Bytes.{u16_at, Text, terminated, unterminated, longer, text, text_from}
use Rattle.reply_bytes.specs.texts.Code.{units_at, spanned, Inside, part_of, text_end}
use Rattle.reply_bytes.specs.declared.texts.Span.{Span}

-- units by their places
pub length_units : (n i : ℕ) (r : List ℕ) → length (units_at n i r) ≡ n
unfolding units_at
length_units zero i r = refl
length_units (suc n) i r = ap suc (length_units n (i + 2) r)

pub unit_of : (n i : ℕ) (r : List ℕ) (k : ℕ) → k < n → get_or (units_at n i r) k 0 ≡ u16_at r (i + 2 * k)
unfolding units_at
unit_of zero i r k h = absurd (not-suc-le-zero h)
unit_of (suc n) i r zero h = ap (u16_at r) (omega arith)
unit_of (suc n) i r (suc k) h = unit_of n (i + 2) r k (omega arith) ∙ ap (u16_at r) (omega arith)

pub drop_units : (k n i : ℕ) (r : List ℕ) → drop k (units_at n i r) ≡ units_at (n - k) (i + 2 * k) r
unfolding units_at
drop_units zero n i r = let a : n ≡ n - 0 = omega arith in let b : i ≡ i + 2 * 0 = omega arith in λ j. units_at (a j) (b j) r
drop_units (suc k) zero i r = let a : 0 ≡ 0 - suc k = omega arith in ap (λ (m : ℕ). units_at m (i + 2 * suc k) r) a
drop_units (suc k) (suc n) i r =
    let a : n - k ≡ suc n - suc k = omega arith in
    let b : i + 2 + 2 * k ≡ i + 2 * suc k = omega arith in
    drop_units k n (i + 2) r ∙ (λ j. units_at (a j) (b j) r)

pub take_units : (k n i : ℕ) (r : List ℕ) → k ≤ n → take k (units_at n i r) ≡ units_at k i r
unfolding units_at
take_units zero n i r h = refl
take_units (suc k) zero i r h = absurd (not-suc-le-zero h)
take_units (suc k) (suc n) i r h = ap (λ (x : List ℕ). u16_at r i ∷ x) (take_units k n (i + 2) r (omega arith))

-- a span
pub length_spanned : (r : List ℕ) (s : Span) → length (spanned r s) ≡ s.units
unfolding spanned
length_spanned r s = length_units s.units s.from r

pub unit_spanned : (r : List ℕ) (s : Span) (k : ℕ) → k < s.units → u16_at r (s.from + 2 * k) ≡ get_or (spanned r s) k 0
unfolding spanned
unit_spanned r s k h = sym (unit_of s.units s.from r k h)

pub part_spanned : (r : List ℕ) (s : Span) (a e : ℕ) → a ≤ e → e ≤ s.units → spanned r (part_of s a e) ≡ take (e - a) (drop a (spanned r s))
unfolding spanned
part_spanned r s a e h k =
    sym (ap (take (e - a)) (drop_units a s.units s.from r) ∙ take_units (e - a) (s.units - a) (s.from + 2 * a) r (omega arith))

pub inside_is : (r : List ℕ) (s t : Span) → s ≡ t → Inside r t → Inside r s
inside_is r s t e h = subst (Inside r) (sym e) h

-- a span's units and then zeros make the room
pub room_spanned : (r : List ℕ) (s : Span) (d : List ℕ) (at n : ℕ) {m o : List ℕ} → m ≡ pasted d at (spanned r s)
    → o ≡ pasted m (at + s.units) (replicate (n - s.units) 0) → s.units ≤ n → at + n ≤ length d → o ≡ pasted d at (roomed n (spanned r s))
room_spanned r s d at n {m} e f h u =
    let l : length (spanned r s) ≡ s.units = length_spanned r s in
    pasted_room d at n (spanned r s) e (f ∙ ap (λ (k : ℕ). pasted m (at + k) (replicate (n - k) 0)) (sym l)) (omega arith) u

-- The text at a place: the ways of its first unit.
two_bytes : (r : List ℕ) (i : ℕ) → i + 1 < length r → drop i r ≡ get_or r i 0 ∷ (get_or r (i + 1) 0 ∷ drop (i + 2) r)
two_bytes r i h =
    let e : suc (i + 1) ≡ i + 2 = omega arith in
    drop-cons r i 0 (omega arith)
    ∙ ap (λ (x : List ℕ). get_or r i 0 ∷ x)
    (ap (λ (j : ℕ). drop j r) (sym (add-one i)) ∙ (drop-cons r (i + 1) 0 h ∙ ap (λ (j : ℕ). get_or r (i + 1) 0 ∷ drop j r) e))

text_longer : (at n u : ℕ) (t : Text) → text_end at n (longer u t) ≡ text_end at (n + 1) t
unfolding text_end longer
text_longer at n u (terminated s) = let q : n + suc (length s) ≡ n + 1 + length s = omega arith in λ j. Some (record { from = at; units = q j })
text_longer at n u unterminated = refl

module _ (r : List ℕ) (at i n : ℕ) where
  text_over : length r ≤ i → None ≡ text_end at n (text_from r i)
  unfolding text_from text text_end
  text_over h = rw (drop_of_length-le r h)

  text_half : i < length r → length r - i < 2 → None ≡ text_end at n (text_from r i)
  unfolding text_from text text_end
  text_half h k = rw (drop-cons r i 0 h, drop_of_length-le r {i = suc i} (omega arith))

  pub text_done : length r < i + 2 → None ≡ text_end at n (text_from r i)
  text_done h = go (lt_or_le i (length r))
    where
      go : (i < length r) ⊎ (length r ≤ i) → None ≡ text_end at n (text_from r i)
      go (inl k) = text_half k (omega arith)
      go (inr k) = text_over k

  pub text_zero : {u : ℕ} → i + 1 < length r → u ≡ u16_at r i → u ≡ 0 → Some (record { from = at; units = n }) ≡ text_end at n (text_from r i)
  unfolding text_from text text_end u16_at choose
  text_zero h e k = rw (two_bytes r i h, eq-eqb _ _ (sym e ∙ k)) (λ j. Some (record { from = at; units = sym (add-zero n) j }))

  pub text_more : {u : ℕ} → i + 1 < length r → u ≡ u16_at r i → (u ≡ 0 → ⊥) → text_end at n (text_from r i) ≡ text_end at (n + 1) (text_from r (i + 2))
  unfolding text_from text u16_at choose
  text_more h e k = rw (two_bytes r i h, ne_eqb _ _ (λ z. k (e ∙ z))) (text_longer at n _ (text (drop (i + 2) r)))

-- A text that is ended is the units before its unit 0, which lies inside the bytes.
unit_drop : (r : List ℕ) (i k : ℕ) → u16_at (drop i r) k ≡ u16_at r (i + k)
unfolding u16_at
unit_drop r i k = rw (get_or-drop i r k 0, get_or-drop i r (k + 1) 0, ← native.Mathlib.Nat.add_assoc i k 1)

units_drop : (n : ℕ) (r : List ℕ) (i k : ℕ) → units_at n k (drop i r) ≡ units_at n (i + k) r
unfolding units_at
units_drop zero r i k = refl
units_drop (suc n) r i k = λ j. unit_drop r i k j ∷ (units_drop n r i (k + 2) ∙ ap (λ (m : ℕ). units_at n m r) (let q : i + (k + 2) ≡ i + k + 2 = omega arith in q)) j

never_ended : (t : List ℕ) → unterminated ≡ terminated t → ⊥
never_ended t h = let z : ◌≡◌ {A = ℕ} 0 1 = cc in omega arith

-- what a list of bytes begins with, if it is ended
record Begins (s t : List ℕ) : Type 0 where
  pub units : t ≡ units_at (length t) 0 s
  pub within : 2 * length t + 2 ≤ length s

units_shift : (n i a b : ℕ) (s : List ℕ) → units_at n (i + 2) (a ∷ (b ∷ s)) ≡ units_at n i s
units_shift n i a b s = let e : 2 + i ≡ i + 2 = omega arith in ap (λ (m : ℕ). units_at n m (a ∷ (b ∷ s))) (sym e) ∙ sym (units_drop n (a ∷ (b ∷ s)) 2 i)

begins_longer : (a b : ℕ) (s t : List ℕ) (x : Text) → ((y : List ℕ) → x ≡ terminated y → Begins s y) → longer (a + 256 * b) x ≡ terminated t → Begins (a ∷ (b ∷ s)) t
unfolding longer units_at u16_at
begins_longer a b s t unterminated f h = absurd (never_ended t h)
begins_longer a b s t (terminated y) f h =
    let p : (a + 256 * b) ∷ y ≡ t = cc in
    let g : Begins s y = f y refl in
    rw (← p)
    (record {
      units = λ j. (a + 256 * b) ∷ (g.units ∙ sym (units_shift (length y) 0 a b s)) j;
      within = omega (arith, g.within);
    })

first : (a b : ℕ) (s t : List ℕ) → ((y : List ℕ) → text s ≡ terminated y → Begins s y) → (eqb (a + 256 * b) 0 ≡ true) ⊎ (eqb (a + 256 * b) 0 ≡ false)
    → choose (eqb (a + 256 * b) 0) (terminated []) (longer (a + 256 * b) (text s)) ≡ terminated t → Begins (a ∷ (b ∷ s)) t
unfolding units_at
first a b s t f (inl e) h =
    let q : terminated [] ≡ terminated t = sym (choose_yes (terminated []) (longer (a + 256 * b) (text s)) e) ∙ h in
    let p : [] ≡ t = cc in
    rw (← p) (record { units = refl; within = omega arith })
first a b s t f (inr e) h =
    begins_longer a b s t (text s) f (sym (choose_no (terminated []) (longer (a + 256 * b) (text s)) e) ∙ h)

begins : (s t : List ℕ) → text s ≡ terminated t → Begins s t
unfolding text
begins [] t h = absurd (never_ended t h)
begins (a ∷ []) t h = absurd (never_ended t h)
begins (a ∷ (b ∷ s)) t h = first a b s t (begins s) (told (eqb (a + 256 * b) 0)) h

unended_text : (i : ℕ) (x : Text) → None ≡ text_end i 0 x → x ≡ unterminated
unfolding text_end
unended_text i unterminated h = refl
unended_text i (terminated s) h = absurd (let z : ◌≡◌ {A = ℕ} 0 1 = cc in omega arith)

pub record EndedAt (r : List ℕ) (i : ℕ) (s : Span) : Type 0 where
  pub is : text_from r i ≡ terminated (spanned r s)
  pub from_is : s.from ≡ i
  pub within : s.from + (2 * s.units + 2) ≤ length r

ended_text : (r : List ℕ) (i : ℕ) (s : Span) (x : Text) → ((y : List ℕ) → x ≡ terminated y → Begins (drop i r) y) → Some s ≡ text_end i 0 x → text_from r i ≡ x → EndedAt r i s
unfolding text_end spanned
ended_text r i s unterminated f h e = absurd (let z : ◌≡◌ {A = ℕ} 0 1 = cc in omega arith)
ended_text r i s (terminated y) f h e =
    let p : s ≡ record { from = i; units = 0 + length y } = cc in
    let a : s.from ≡ i = ap (λ (t : Span). t.from) p in
    let b : s.units ≡ 0 + length y = ap (λ (t : Span). t.units) p in
    let q : length y ≡ s.units = omega arith in
    let g : Begins (drop i r) y = f y refl in
    let w : 2 * s.units + 2 ≤ length (drop i r) = omega (arith, g.within) in
    record {
      is = e ∙ (λ j. terminated ((g.units ∙ (units_drop (length y) r i 0 ∙ (λ k. units_at (q k) ((add-zero i ∙ sym a) k) r))) j));
      from_is = a;
      within = omega (arith, w, length-drop i r);
    }

pub ended_at_lem : (r : List ℕ) (i : ℕ) (s : Span) → Some s ≡ text_end i 0 (text_from r i) → EndedAt r i s
unfolding text_from
ended_at_lem r i s h = ended_text r i s (text (drop i r)) (begins (drop i r)) h refl

pub unended_at : (r : List ℕ) (i : ℕ) → None ≡ text_end i 0 (text_from r i) → text_from r i ≡ unterminated
unended_at r i h = unended_text i (text_from r i) h

-- What the functions of this crate name.
-- a text, unit by unit
pub ruleset text_cases = (text_zero, text_more, text_done)

-- units copied, one by one
pub ruleset copied = (length_spanned, pasted_nil, copied_more)
