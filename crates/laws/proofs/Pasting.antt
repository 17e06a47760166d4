-- Laws of a piece written over a list (`pasted`), of a part, and of a text in a room.
use mathlib.Core.Path.{◌≡◌, refl, sym, ap, ◌∙◌}
use mathlib.Core.List.{List, [], ◌∷◌, ◌++◌, append_assoc, append-nil}
use Prim.Native.Nat.{ℕ, ◌+◌, ◌-◌, ◌≤◌, ◌<◌}
use native.Mathlib.Nat.{add-zero, zero-add, add_assoc, add-sub_of_le}
use native.Mathlib.Numerals.{add-one}
use native.Mathlib.Omega.{arith}
use lib.ListN.{length, get_or, take, drop, set, replicate, length-append, length-take, length-drop, length-replicate, take-append-drop, get_or-append}
use lib.Seq.{ext_get_or, get_or-take, get_or-drop, get_or-append-add, set_split, drop-drop}
use borrow.Rule.Slice.PartMut.{put_mid}
use Rattle.laws.specs.Lists.{pasted, part, roomed}
use Rattle.laws.proofs.Orders.{Lies, low, within, high, lies}

module _ {ℓ} {A : Type ℓ} where
  -- an element past the first list of two
  pub get_d_append_past : (l r : List A) (i : ℕ) (z : A) → length l ≤ i → get_or (l ++ r) i z ≡ get_or r (i - length l) z
  get_d_append_past l r i z h = ap (λ (k : ℕ). get_or (l ++ r) k z) (sym (add-sub_of_le h)) ∙ get_or-append-add l r (i - length l) z

  module _ (d : List A) (n : ℕ) (p : List A) (fits : n + length p ≤ length d) where
    pub length_pasted : length (pasted d n p) ≡ length d
    unfolding pasted
    length_pasted = simp (length-append, length-take, length-drop) (omega arith)

    -- outside the piece everything stays
    pub get_d_pasted_low : (i : ℕ) (z : A) → i < n → get_or (pasted d n p) i z ≡ get_or d i z
    unfolding pasted
    get_d_pasted_low i z h =
        get_or-append (take n d) _ z i (simp length-take (omega arith)) ∙ get_or-take n d i z h

    pub get_d_pasted_in : (j : ℕ) (z : A) → j < length p → get_or (pasted d n p) (n + j) z ≡ get_or p j z
    unfolding pasted
    get_d_pasted_in j z h =
        let e : length (take n d) ≡ n = simp length-take (omega arith) in
        ap (λ (k : ℕ). get_or (take n d ++ (p ++ drop (n + length p) d)) (k + j) z) (sym e)
        ∙ (get_or-append-add (take n d) _ j z ∙ get_or-append p _ z j h)

    pub get_d_pasted_high : (i : ℕ) (z : A) → n + length p ≤ i → get_or (pasted d n p) i z ≡ get_or d i z
    unfolding pasted
    get_d_pasted_high i z h =
        let e : length (take n d) ≡ n = simp length-take (omega arith) in
        let k : ℕ = i - (n + length p) in
        let q : length (take n d) + (length p + k) ≡ i = omega arith in
        ap (λ (m : ℕ). get_or (take n d ++ (p ++ drop (n + length p) d)) m z) (sym q)
        ∙ (get_or-append-add (take n d) _ (length p + k) z
        ∙ (get_or-append-add p _ k z
        ∙ (get_or-drop (n + length p) d k z
        ∙ ap (λ (m : ℕ). get_or d m z) (omega arith))))

  -- two lists that agree below a piece, in it and past it are equal
  pub by_parts : (n k : ℕ) (a b : List A) → length a ≡ length b
      → ((i : ℕ) (z : A) → i < n → get_or a i z ≡ get_or b i z)
      → ((j : ℕ) (z : A) → j < k → n + j < length a → get_or a (n + j) z ≡ get_or b (n + j) z)
      → ((i : ℕ) (z : A) → n + k ≤ i → i < length a → get_or a i z ≡ get_or b i z) → a ≡ b
  by_parts n k [] [] e f g h = refl
  by_parts n k [] (y ∷ b) e f g h = absurd (let q : length {A = A} [] ≡ length (y ∷ b) = e in omega arith)
  by_parts n k (x ∷ a) b e f g h = ext_get_or x (x ∷ a) b e (λ i q. at i q (lies n k i))
    where
      at : (i : ℕ) → i < length (x ∷ a) → Lies n k i → get_or (x ∷ a) i x ≡ get_or b i x
      at i q (low u) = f i x u
      at i q (within j u) = g j x u q
      at i q (high u) = h i x u q

  pub pasted_nil : (d : List A) (n : ℕ) → pasted d n [] ≡ d
  unfolding pasted
  pasted_nil d n = rw add-zero (take-append-drop n d)

  -- one element stored
  pub set_pasted : (d : List A) (n : ℕ) (v : A) → n < length d → set d n v ≡ pasted d n (v ∷ [])
  unfolding pasted
  set_pasted d n v h = rw add-one (set_split d n v h)

  -- a second piece over the first
  pub pasted_again : (d : List A) (n : ℕ) (p q : List A) → length p ≡ length q → n + length p ≤ length d → pasted (pasted d n p) n q ≡ pasted d n q
  pasted_again d n p q e h =
      let t : n + length q ≤ length d = omega arith in
      let l : length (pasted d n p) ≡ length d = length_pasted d n p h in
      let u : n + length q ≤ length (pasted d n p) = omega arith in
      by_parts n (length q) (pasted (pasted d n p) n q) (pasted d n q)
      (length_pasted (pasted d n p) n q u ∙ (l ∙ sym (length_pasted d n q t)))
      (λ i z a. get_d_pasted_low _ n q u i z a ∙ (get_d_pasted_low d n p h i z a ∙ sym (get_d_pasted_low d n q t i z a)))
      (λ j z a b. get_d_pasted_in _ n q u j z a ∙ sym (get_d_pasted_in d n q t j z a))
      (λ i z a b. get_d_pasted_high _ n q u i z a ∙ (get_d_pasted_high d n p h i z (omega arith) ∙ sym (get_d_pasted_high d n q t i z a)))

  -- pieces that touch join
  pub pasted_join : (d : List A) (n : ℕ) (p q : List A) → n + (length p + length q) ≤ length d
      → pasted (pasted d n p) (n + length p) q ≡ pasted d n (p ++ q)
  unfolding pasted
  pasted_join d n p q h =
      let e : length (take n d) ≡ n = simp length-take (omega arith) in
      let l : n + length p ≡ length (take n d ++ p) = simp length-append (omega arith) in
      let w : length (take n d ++ p) + length q ≡ n + (length p + length q) = omega arith in
      rw (
        ← append_assoc (take n d) p (drop (n + length p) d),
        l,
        lib.Seq.take-append_seam (take n d ++ p) (drop (length (take n d ++ p)) d),
        lib.Seq.drop-append-add (take n d ++ p) (drop (length (take n d ++ p)) d) (length q),
        drop-drop (length q) (length (take n d ++ p)) d,
        length-append p q,
        append_assoc (take n d) p (q ++ drop (length (take n d ++ p) + length q) d),
        append_assoc p q,
      )
      (ap (λ (k : ℕ). take n d ++ (p ++ (q ++ drop k d))) w)

  -- a loop that stores one element more each turn
  pub pasted_more : (d : List A) (n : ℕ) (p : List A) (v : A) → n + length p < length d
      → set (pasted d n p) (n + length p) v ≡ pasted d n (p ++ (v ∷ []))
  pasted_more d n p v h =
      set_pasted (pasted d n p) (n + length p) v (rw (length_pasted d n p (omega arith)) h)
      ∙ pasted_join d n p (v ∷ []) (omega arith)

  -- what stands in the place of the piece is the piece; put back, the list is as it was
  pub part_pasted : (d : List A) (n : ℕ) (p : List A) → n + length p ≤ length d → part n (length p) (pasted d n p) ≡ p
  unfolding pasted part
  part_pasted d n p h =
      let e : length (take n d) ≡ n = simp length-take (omega arith) in
      ap (take (length p)) (lib.Seq.drop_at (take n d) (p ++ drop (n + length p) d) n e)
      ∙ lib.Seq.take-append_seam p (drop (n + length p) d)

  pub length_part : (n k : ℕ) (d : List A) → n + k ≤ length d → length (part n k d) ≡ k
  unfolding part
  length_part n k d h = simp (length-take, length-drop) (omega arith)

  pub get_d_part : (n k : ℕ) (d : List A) (i : ℕ) (z : A) → i < k → get_or (part n k d) i z ≡ get_or d (n + i) z
  unfolding part
  get_d_part n k d i z h = get_or-take k (drop n d) i z h ∙ get_or-drop n d i z

  pub pasted_part : (n k : ℕ) (d : List A) → n + k ≤ length d → pasted d n (part n k d) ≡ d
  pasted_part n k d h =
      let l : length (part n k d) ≡ k = length_part n k d h in
      let t : n + length (part n k d) ≤ length d = omega arith in
      by_parts n k (pasted d n (part n k d)) d (length_pasted d n (part n k d) t)
      (λ i z a. get_d_pasted_low d n (part n k d) t i z a)
      (λ j z a b. get_d_pasted_in d n (part n k d) t j z (omega arith) ∙ get_d_part n k d j z a)
      (λ i z a b. get_d_pasted_high d n (part n k d) t i z (omega arith))

  -- a part that the piece does not touch stays
  pub part_pasted_low : (d : List A) (n : ℕ) (p : List A) (m k : ℕ) → n + length p ≤ length d → m + k ≤ n → part m k (pasted d n p) ≡ part m k d
  part_pasted_low d n p m k h u =
      let l : length (pasted d n p) ≡ length d = length_pasted d n p h in
      let a : length (part m k (pasted d n p)) ≡ k = length_part m k (pasted d n p) (omega arith) in
      let b : length (part m k d) ≡ k = length_part m k d (omega arith) in
      by_parts 0 k (part m k (pasted d n p)) (part m k d) (a ∙ sym b)
      (λ i z q. absurd (omega arith))
      (λ j z q r. rw zero-add (get_d_part m k _ j z q ∙ (get_d_pasted_low d n p h (m + j) z (omega arith) ∙ sym (get_d_part m k d j z q))))
      (λ i z q r. absurd (omega arith))

  pub part_pasted_high : (d : List A) (n : ℕ) (p : List A) (m k : ℕ) → m + k ≤ length d → n + length p ≤ m → part m k (pasted d n p) ≡ part m k d
  part_pasted_high d n p m k h u =
      let f : n + length p ≤ length d = omega arith in
      let l : length (pasted d n p) ≡ length d = length_pasted d n p f in
      let a : length (part m k (pasted d n p)) ≡ k = length_part m k (pasted d n p) (omega arith) in
      let b : length (part m k d) ≡ k = length_part m k d h in
      by_parts 0 k (part m k (pasted d n p)) (part m k d) (a ∙ sym b)
      (λ i z q. absurd (omega arith))
      (λ j z q r. rw zero-add (get_d_part m k _ j z q ∙ (get_d_pasted_high d n p f (m + j) z (omega arith) ∙ sym (get_d_part m k d j z q))))
      (λ i z q r. absurd (omega arith))

  -- a piece in a part is a piece of the whole
  pub pasted_in_part : (d : List A) (m k n : ℕ) (p : List A) → m + k ≤ length d → n + length p ≤ k
      → pasted d m (pasted (part m k d) n p) ≡ pasted d (m + n) p
  pasted_in_part d m k n p h u =
      let a : length (part m k d) ≡ k = length_part m k d h in
      let f : n + length p ≤ length (part m k d) = omega arith in
      let b : length (pasted (part m k d) n p) ≡ length (part m k d) = length_pasted (part m k d) n p f in
      let g : m + length (pasted (part m k d) n p) ≤ length d = omega arith in
      let t : m + n + length p ≤ length d = omega arith in
      by_parts m k (pasted d m (pasted (part m k d) n p)) (pasted d (m + n) p)
      (length_pasted d m _ g ∙ sym (length_pasted d (m + n) p t))
      (λ i z q. get_d_pasted_low d m _ g i z q ∙ sym (get_d_pasted_low d (m + n) p t i z (omega arith)))
      (λ j z q r. get_d_pasted_in d m _ g j z (omega arith) ∙ at f t j z q (lies n (length p) j))
      (λ i z q r. get_d_pasted_high d m _ g i z (omega arith) ∙ sym (get_d_pasted_high d (m + n) p t i z (omega arith)))
    where
      at : (f : n + length p ≤ length (part m k d)) (t : m + n + length p ≤ length d) (j : ℕ) (z : A) → j < k → Lies n (length p) j
          → get_or (pasted (part m k d) n p) j z ≡ get_or (pasted d (m + n) p) (m + j) z
      at f t j z q (low v) =
          get_d_pasted_low (part m k d) n p f j z v ∙ (get_d_part m k d j z q ∙ sym (get_d_pasted_low d (m + n) p t (m + j) z (omega arith)))
      at f t j z q (within i v) =
          get_d_pasted_in (part m k d) n p f i z v
          ∙ (sym (get_d_pasted_in d (m + n) p t i z v) ∙ ap (λ (x : ℕ). get_or (pasted d (m + n) p) x z) (add_assoc m n i))
      at f t j z q (high v) =
          get_d_pasted_high (part m k d) n p f j z v ∙ (get_d_part m k d j z q ∙ sym (get_d_pasted_high d (m + n) p t (m + j) z (omega arith)))

  -- a piece over the whole
  pub pasted_whole : (d p : List A) → length p ≡ length d → pasted d 0 p ≡ p
  unfolding pasted
  pasted_whole d p e =
      let h : length d ≤ 0 + length p = omega arith in
      ap (λ (x : List A). p ++ x) (lib.ListN.drop_of_length-le d h) ∙ append-nil p

-- a part written whole, as by `copy_from_slice` or `fill`
pub pasted_mid : {A : Type 0} (d : List A) (n k : ℕ) (p : List A) {o : List A} → o ≡ p → k ≡ length p → put_mid n k d o ≡ pasted d n p
unfolding pasted
pasted_mid d n k p e h = rw (e, h, drop-drop (length p) n d) refl

pub pasted_fill : (d : List ℕ) (n k m v : ℕ) {o : List ℕ} → o ≡ replicate (length (take k (drop n d))) v → k ≡ m → n + k ≤ length d
    → put_mid n k d o ≡ pasted d n (replicate m v)
pasted_fill d n k m v e h u =
    let l : length (take k (drop n d)) ≡ m = simp (length-take, length-drop) (omega arith) in
    pasted_mid d n k (replicate m v) (e ∙ ap (λ (i : ℕ). replicate i v) l) (simp length-replicate h)

-- a text in its room
pub length_roomed : (n : ℕ) (s : List ℕ) → length s ≤ n → length (roomed n s) ≡ n
unfolding roomed
length_roomed n s h = simp (length-append, length-replicate) (omega arith)

pub take_roomed : (n : ℕ) (s : List ℕ) → take (length s) (roomed n s) ≡ s
unfolding roomed
take_roomed n s = lib.Seq.take-append_seam s (replicate (n - length s) 0)

-- a text and then zeros make the room
pub pasted_room : (d : List ℕ) (at n : ℕ) (s : List ℕ) {m o : List ℕ} → m ≡ pasted d at s → o ≡ pasted m (at + length s) (replicate (n - length s) 0)
    → length s ≤ n → at + n ≤ length d → o ≡ pasted d at (roomed n s)
unfolding roomed
pasted_room d at n s e f h u =
    f ∙ (ap (λ (x : List ℕ). pasted x (at + length s) (replicate (n - length s) 0)) e
    ∙ pasted_join d at s (replicate (n - length s) 0) (simp length-replicate (omega arith)))

joined_room : (n : ℕ) (a b : List ℕ) → a ++ roomed (n - length a) b ≡ roomed n (a ++ b)
unfolding roomed
joined_room n a b =
    let e : n - length a - length b ≡ n - length (a ++ b) = simp length-append (omega arith) in
    rw e (sym (append_assoc a b (replicate (n - length (a ++ b)) 0)))

-- a room written in two: first a, then b and zeros
pub room_in_two : (d a b : List ℕ) {m o : List ℕ} → m ≡ pasted d 0 a → o ≡ pasted m (length a) (roomed (length d - length a) b)
    → length a + length b ≤ length d → o ≡ roomed (length d) (a ++ b)
room_in_two d a b e f h =
    let l : length (roomed (length d - length a) b) ≡ length d - length a = length_roomed (length d - length a) b (omega arith) in
    f ∙ (ap (λ (x : List ℕ). pasted x (length a) (roomed (length d - length a) b)) e
    ∙ (ap (λ (k : ℕ). pasted (pasted d 0 a) k (roomed (length d - length a) b)) (sym (zero-add (length a)))
    ∙ (pasted_join d 0 a (roomed (length d - length a) b) (omega arith)
    ∙ (pasted_whole d (a ++ roomed (length d - length a) b) (simp length-append (omega arith)) ∙ joined_room (length d) a b))))

-- a loop that copies a list: one element more, and at its end (at its start: `pasted-nil`)
pub copied_more : (d : List ℕ) (at : ℕ) (s : List ℕ) (i : ℕ) {o : List ℕ} → o ≡ pasted d at (take i s) → i < length s → at + i < length d
    → set o (at + i) (get_or s i 0) ≡ pasted d at (take (i + 1) s)
copied_more d at s i {o} e h u =
    let l : length (take i s) ≡ i = simp length-take (omega arith) in
    rw (e, add-one, lib.Seq.take-suc s i 0 h)
    (ap (λ (k : ℕ). set (pasted d at (take i s)) (at + k) (get_or s i 0)) (sym l)
    ∙ pasted_more d at (take i s) (get_or s i 0) (omega arith))

pub copied_all : (d : List ℕ) (at : ℕ) (s : List ℕ) (i : ℕ) {o : List ℕ} → o ≡ pasted d at (take i s) → length s ≤ i → o ≡ pasted d at s
copied_all d at s i e h = e ∙ ap (pasted d at) (lib.Seq.take_all i s h)
