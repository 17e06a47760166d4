-- Laws of a walk's texts: units copied within one list, the path tried put and taken, and what stands in the two rooms then.
use Rattle.std.specs.Prelude.{Some, None}
use mathlib.Core.Path.{◌≡◌, refl, sym, ap, ◌∙◌}
use mathlib.Core.List.{List, [], ◌++◌, append-nil}
use mathlib.Core.Logic.{◌⊎◌, inl, inr}
use Prim.Native.Nat.{ℕ, ◌+◌, ◌-◌, ◌≤◌, ◌<◌}
use native.Mathlib.Nat.{zero-add}
use native.Mathlib.Omega.{arith}
use lib.ListN.{length, get_or, take, drop, set, replicate, length-append, length-take, length-drop, length-replicate, drop_of_length-le}
use lib.Seq.{take_all, take-append_seam, take-append-le, take_at, drop_at, drop-append-add, length-take-le}
use borrow.Author.Tests.{le-leb, lt-leb}
use Rattle.laws.specs.Lists.{pasted, part, roomed}
use Rattle.laws.proofs.Choices.{choose_yes, choose_no}
use Rattle.laws.proofs.Orders.{lt_or_le}
use Rattle.laws.proofs.Pasting.{get_d_pasted_low, get_d_pasted_high, get_d_part, length_part, copied_more, copied_all, part_pasted_low, pasted_join, pasted_room, pasted_whole, length_roomed}
use Rattle.laws.proofs.Parts.{part_part}
use Rattle.unc.specs.names.Paths.{replaced}
use Rattle.unc.specs.names.Code.{written_within}
use Rattle.walk_steps.specs.walk_texts.Texts.{texts_of}
use Rattle.walk_steps.specs.walk_texts.Code.{with_tried, Standing}

-- a loop that copies within one list: one unit more, and at its end
module _ (d : List ℕ) (from at count : ℕ) where
  pub within_more : (i : ℕ) {o : List ℕ} → o ≡ pasted d at (take i (part from count d)) → (from + count ≤ at) ⊎ (at + count ≤ from)
      → i < count → from + count ≤ length d → at + count ≤ length d
      → set o (at + i) (get_or o (from + i) 0) ≡ pasted d at (take (i + 1) (part from count d))
  within_more i {o} e apart h u v =
      let l : length (part from count d) ≡ count = length_part from count d u in
      let m : length (take i (part from count d)) ≡ i = length-take-le i (part from count d) (omega arith) in
      let f : at + length (take i (part from count d)) ≤ length d = omega arith in
      ap (set o (at + i)) (ap (λ (x : List ℕ). get_or x (from + i) 0) e ∙ (stays m f apart ∙ sym (get_d_part from count d i 0 h)))
      ∙ copied_more d at (part from count d) i e (omega arith) (omega arith)
    where
      stays : length (take i (part from count d)) ≡ i → at + length (take i (part from count d)) ≤ length d → (from + count ≤ at) ⊎ (at + count ≤ from)
          → get_or (pasted d at (take i (part from count d))) (from + i) 0 ≡ get_or d (from + i) 0
      stays m f (inl a) = get_d_pasted_low d at _ f (from + i) 0 (omega arith)
      stays m f (inr a) = get_d_pasted_high d at _ f (from + i) 0 (omega arith)

  pub within_all : (i : ℕ) {o : List ℕ} → o ≡ pasted d at (take i (part from count d)) → count ≤ i → from + count ≤ length d
      → o ≡ pasted d at (part from count d)
  within_all i e h u =
      let l : length (part from count d) ≡ count = length_part from count d u in
      copied_all d at (part from count d) i e (omega arith)

-- the path, its first k units replaced by the target: its length, and the rest of the path as a part
module _ (target d : List ℕ) (len k : ℕ) where
  pub length_tried : len ≤ length d → length target + (len - k) ≡ length (replaced target k (take len d))
  unfolding replaced
  length_tried h =
      let l : length (take len d) ≡ len = length-take-le len d h in
      simp (length-append, length-drop) (omega arith)

  rest_part : k ≤ len → drop k (take len d) ≡ part k (len - k) d
  unfolding part
  rest_part h =
      sym (take_all (len - k) (drop k (take len d)) (simp (length-drop, length-take) (omega arith)))
      ∙ (part_part k (len - k) 0 len d (omega arith) ∙ ap (λ (x : ℕ). take (len - k) (drop x d)) (zero-add k))

  -- written in three: the target, the rest of the path, zeros
  pub tried_written : (r n : ℕ) {a b o : List ℕ} → a ≡ pasted d r target → b ≡ pasted a (r + length target) (part k (len - k) a)
      → o ≡ pasted b (r + n) (replicate (r - n) 0) → n ≡ length target + (len - k) → k ≤ len → len ≤ r → n ≤ r → r + r ≤ length d
      → o ≡ pasted d r (roomed r (replaced target k (take len d)))
  unfolding replaced
  tried_written r n {a} {b} {o} ea eb eo en hk hl hn hd =
      let m : n ≡ length (target ++ drop k (take len d)) = en ∙ length_tried (omega arith) in
      let p : part k (len - k) a ≡ drop k (take len d) =
      ap (part k (len - k)) ea ∙ (part_pasted_low d r target k (len - k) (omega arith) (omega arith) ∙ sym (rest_part hk)) in
      let q : length (drop k (take len d)) ≡ len - k = simp (length-drop, length-take) (omega arith) in
      let two : b ≡ pasted d r (target ++ drop k (take len d)) =
      eb ∙ ((λ i. pasted (ea i) (r + length target) (p i)) ∙ pasted_join d r target (drop k (take len d)) (omega arith)) in
      pasted_room d r r (target ++ drop k (take len d)) two (eo ∙ ap (λ (x : ℕ). pasted b (r + x) (replicate (r - x) 0)) m) (omega arith) hd

-- the path tried moved over the path, and zeros in its own room
pub tried_moved : (n : ℕ) (d : List ℕ) {a o : List ℕ} → a ≡ pasted d 0 (part n n d) → o ≡ pasted a n (replicate n 0) → n + n ≤ length d
    → o ≡ pasted d 0 (part n n d ++ replicate n 0)
tried_moved n d {a} ea eo h =
    let l : length (part n n d) ≡ n = length_part n n d h in
    let z : length {A = ℕ} (replicate n 0) ≡ n = length-replicate n 0 in
    let s : n ≡ 0 + length (part n n d) = omega arith in
    eo ∙ ((λ i. pasted (ea i) (s i) (replicate n 0)) ∙ pasted_join d 0 (part n n d) (replicate n 0) (omega arith))

-- what a text that fits its room and one that is too long are told, and what they tell
module _ (m : ℕ) (s : List ℕ) where
  pub told_long : m < length s → None ≡ written_within m s
  unfolding written_within
  told_long h = sym (choose_no (Some (length s)) None (lt-leb (length s) m h))

  pub told_fits : {n : ℕ} → n ≡ length s → n ≤ m → Some n ≡ written_within m s
  unfolding written_within
  told_fits e h = sym (choose_yes (Some (length s)) None (le-leb (length s) m (rw (← e) h)) ∙ (λ i. Some (sym e i)))

  pub written_units : (u : ℕ) → written_within m s ≡ Some u → (u ≡ length s) × (length s ≤ m)
  written_units u h = go (lt_or_le m (length s))
    where
      go : (m < length s) ⊎ (length s ≤ m) → (u ≡ length s) × (length s ≤ m)
      go (inl l) =
          let e : None ≡ written_within m s = told_long l in
          absurd (let z : ◌≡◌ {A = ℕ} 0 1 = cc in omega arith)
      go (inr l) =
          let e : Some (length s) ≡ written_within m s = told_fits refl l in
          (cc, l)

  pub written_long : written_within m s ≡ None → m < length s
  written_long h = go (lt_or_le m (length s))
    where
      go : (m < length s) ⊎ (length s ≤ m) → m < length s
      go (inl l) = l
      go (inr l) =
          let e : Some (length s) ≡ written_within m s = told_fits refl l in
          absurd (let z : ◌≡◌ {A = ℕ} 0 1 = cc in omega arith)

-- the texts with a new path tried
module _ (new texts : List ℕ) where
  pub with_tried_long : 256 < length new → with_tried new texts ≡ texts
  unfolding with_tried
  with_tried_long h = choose_no (pasted texts 256 (roomed 256 new)) texts (lt-leb (length new) 256 h)

  pub with_tried_fits : length new ≤ 256 → with_tried new texts ≡ pasted texts 256 (roomed 256 new)
  unfolding with_tried
  with_tried_fits h = choose_yes (pasted texts 256 (roomed 256 new)) texts (le-leb (length new) 256 h)

-- two rooms: the second written over, and the second moved over the first
module _ {ℓ} {A : Type ℓ} (a b c : List A) (n : ℕ) where
  second_pasted : length a ≡ n → length b ≡ length c → pasted (a ++ b) n c ≡ a ++ c
  unfolding pasted
  second_pasted e f =
      let h : length b ≤ length c = omega arith in
      ap (λ (k : ℕ). take k (a ++ b) ++ (c ++ drop (k + length c) (a ++ b))) (sym e)
      ∙ rw (take-append_seam a b, drop-append-add a b (length c), drop_of_length-le b h, append-nil c)

  second_moved : (m : ℕ) → length a ≡ n → length b ≡ m → length c ≡ n → pasted (a ++ b) 0 (part n m (a ++ b) ++ c) ≡ b ++ c
  unfolding part
  second_moved m e f g =
      let p : take m (drop n (a ++ b)) ≡ b = ap (take m) (drop_at a b n e) ∙ take_all m b (omega arith) in
      ap (λ (x : List A). pasted (a ++ b) 0 (x ++ c)) p ∙ pasted_whole (a ++ b) (b ++ c) (simp length-append (omega arith))

-- rooms of any one size, so that 256 zeros are not written out
roomed_none : (n : ℕ) → roomed n [] ≡ replicate n 0
unfolding roomed
roomed_none n = let e : n - 0 ≡ n = omega arith in ap (λ (k : ℕ). replicate k 0) e

module _ (n : ℕ) (p t : List ℕ) where
  rooms_length : length p ≤ n → length t ≤ n → length (roomed n p ++ roomed n t) ≡ n + n
  rooms_length h u = length-append (roomed n p) (roomed n t) ∙ (λ i. length_roomed n p h i + length_roomed n t u i)

  first_text : take (length p) (roomed n p ++ roomed n t) ≡ p
  unfolding roomed
  first_text =
      take-append-le (length p) (p ++ replicate (n - length p) 0) (roomed n t) (simp length-append (omega arith)) ∙ take_at p (replicate (n - length p) 0) (length p) refl

  room_put : (s : List ℕ) → length p ≤ n → length t ≤ n → length s ≤ n → pasted (roomed n p ++ roomed n t) n (roomed n s) ≡ roomed n p ++ roomed n s
  room_put s h u v =
      second_pasted (roomed n p) (roomed n t) (roomed n s) n (length_roomed n p h) (length_roomed n t u ∙ sym (length_roomed n s v))

  room_taken : length p ≤ n → length t ≤ n
      → pasted (roomed n p ++ roomed n t) 0 (part n n (roomed n p ++ roomed n t) ++ replicate n 0) ≡ roomed n t ++ roomed n []
  room_taken h u =
      second_moved (roomed n p) (roomed n t) (replicate n 0) n n (length_roomed n p h) (length_roomed n t u) (length-replicate n 0)
      ∙ ap (λ (x : List ℕ). roomed n t ++ x) (sym (roomed_none n))

pub length_texts : (p t : List ℕ) → length p ≤ 256 → length t ≤ 256 → length (texts_of p t) ≡ 512
unfolding texts_of
length_texts p t h u = rooms_length 256 p t h u

pub path_in_lem : (p t : List ℕ) → take (length p) (texts_of p t) ≡ p
unfolding texts_of
path_in_lem p t = first_text 256 p t

pub tried_put : (p t n : List ℕ) → length p ≤ 256 → length t ≤ 256 → length n ≤ 256 → pasted (texts_of p t) 256 (roomed 256 n) ≡ texts_of p n
unfolding texts_of
tried_put p t n h u v = room_put 256 p t n h u v

pub tried_taken : (p t : List ℕ) → length p ≤ 256 → length t ≤ 256
    → pasted (texts_of p t) 0 (part 256 256 (texts_of p t) ++ replicate 256 0) ≡ texts_of t []
unfolding texts_of
tried_taken p t h u = room_taken 256 p t h u

-- a path tried that fits stands behind the path; one that is too long leaves the texts as they were
pub put_fits : (p n : List ℕ) {texts o : List ℕ} → texts ≡ texts_of p [] → length p ≤ 256 → length n ≤ 256 → o ≡ with_tried n texts → o ≡ texts_of p n
put_fits p n {texts} e h u f =
    f ∙ (with_tried_fits n texts u ∙ (ap (λ (x : List ℕ). pasted x 256 (roomed 256 n)) e ∙ tried_put p [] n h (omega arith) u))

pub put_long : (n : List ℕ) {texts o : List ℕ} → 256 < length n → o ≡ with_tried n texts → o ≡ texts
put_long n {texts} h f = f ∙ with_tried_long n texts h

-- a path alone stands in its room
pub taken_stands : (n : List ℕ) → length n ≤ 256 → Standing (length n) (texts_of n [])
taken_stands n h = record { few = h; stands = ap (λ (x : List ℕ). texts_of x []) (sym (path_in_lem n [])) }
