-- Laws of parts of a list: a part of a part, the first elements of a part, parts that touch, parts past a first list.
use mathlib.Core.Path.{◌≡◌, refl, sym, ap, ◌∙◌}
use mathlib.Core.List.{List, [], ◌∷◌, ◌++◌}
use Prim.Native.Nat.{ℕ, zero, suc, ◌+◌, ◌-◌, ◌≤◌, ◌<◌, min}
use native.Mathlib.Nat.{zero-add, suc-add}
use native.Mathlib.Omega.{arith}
use lib.ListN.{length, get_or, take, drop, replicate, length-take, length-replicate, get_or-replicate, get_or-append, get_or-eq_default}
use lib.Seq.{drop-cons, drop-drop, take-add, take_all, take-take, take-nil, drop-append-add, get_or-append-add, ext_get_or, get_or-take, length-take-le}
use Rattle.laws.specs.Lists.{part, roomed}
use Rattle.laws.proofs.Pasting.{get_d_append_past, length_roomed}
use Rattle.laws.proofs.Orders.{lt_or_le}
use mathlib.Core.Logic.{◌⊎◌, inl, inr}

module _ {ℓ} {A : Type ℓ} where
  drop_take : (n r : ℕ) (xs : List A) → drop n (take (n + r) xs) ≡ take r (drop n xs)
  drop_take zero r xs = rw zero-add
  drop_take (suc n) r [] = rw suc-add (sym (take-nil r))
  drop_take (suc n) r (x ∷ xs) = rw suc-add (drop_take n r xs)

  pub part_part : (n k m l : ℕ) (d : List A) → n + k ≤ l → part n k (part m l d) ≡ part (m + n) k d
  unfolding part
  part_part n k m l d h =
      let e : n + (l - n) ≡ l = omega arith in
      ap (λ (x : ℕ). take k (drop n (take x (drop m d)))) (sym e)
      ∙ (ap (take k) (drop_take n (l - n) (drop m d) ∙ ap (take (l - n)) (drop-drop n m d))
      ∙ take-take k (l - n) (drop (m + n) d) (omega arith))

  -- the first u elements of a part of k
  pub take_part : (u n k : ℕ) (d : List A) → take u (part n k d) ≡ part n (min k u) d
  unfolding part
  take_part u n k d = go (lt_or_le u k)
    where
      go : (u < k) ⊎ (k ≤ u) → take u (take k (drop n d)) ≡ take (min k u) (drop n d)
      go (inl h) =
          let e : min k u ≡ u = omega arith in
          rw e (take-take u k (drop n d) (omega arith))
      go (inr h) =
          let e : min k u ≡ k = omega arith in
          rw e (take_all u (take k (drop n d)) (simp length-take (omega arith)))

  -- as a slice from s to e has it
  pub part_slice : (n k : ℕ) (d : List A) (s e : ℕ) → s ≡ n → e ≡ s + k → take (e - s) (drop s d) ≡ part n k d
  unfolding part
  part_slice n k d s e p q =
      let r : e - s ≡ k = omega arith in
      rw (r, p)

  pub part_join : (n a b : ℕ) (d : List A) → part n (a + b) d ≡ part n a d ++ part (n + a) b d
  unfolding part
  part_join n a b d = take-add a b (drop n d) ∙ ap (λ (x : List A). take a (drop n d) ++ take b x) (drop-drop a n d)

  -- a part of one element, or of one more
  pub part_cons : (n k : ℕ) (d : List A) (z : A) → n < length d → part n (suc k) d ≡ get_or d n z ∷ part (suc n) k d
  unfolding part
  part_cons n k d z h = rw (drop-cons d n z h)

  pub part_none : (n : ℕ) (d : List A) → part n 0 d ≡ []
  unfolding part
  part_none n d = refl

  pub part_whole : (d : List A) (n : ℕ) → length d ≡ n → part 0 n d ≡ d
  unfolding part
  part_whole d n e = take_all n d (omega arith)

  -- past the first list
  pub part_past : (l r : List A) (n m k : ℕ) → length l ≡ n → part (n + m) k (l ++ r) ≡ part m k r
  unfolding part
  part_past l r n m k e = rw (← e) (ap (take k) (drop-append-add l r m))

  pub get_d_past : (l r : List A) (n j : ℕ) (z : A) → length l ≡ n → get_or (l ++ r) (n + j) z ≡ get_or r j z
  get_d_past l r n j z e = rw (← e) (get_or-append-add l r j z)

-- a text in its room: zeros stand past it, as they do past the end of any list that is read with 0
get_d_zeros : (n i : ℕ) → ◌≡◌ {A = ℕ} (get_or (replicate n 0) i 0) 0
get_d_zeros n i = go (lt_or_le i n)
  where
    go : (i < n) ⊎ (n ≤ i) → ◌≡◌ {A = ℕ} (get_or (replicate n 0) i 0) 0
    go (inl h) = get_or-replicate n i 0 0 h
    go (inr h) = get_or-eq_default (replicate n 0) 0 {n = i} (simp length-replicate h)

pub get_d_roomed : (n : ℕ) (s : List ℕ) (i : ℕ) → get_or (roomed n s) i 0 ≡ get_or s i 0
unfolding roomed
get_d_roomed n s i = go (lt_or_le i (length s))
  where
    go : (i < length s) ⊎ (length s ≤ i) → get_or (s ++ replicate (n - length s) 0) i 0 ≡ get_or s i 0
    go (inl h) = get_or-append s (replicate (n - length s) 0) 0 i h
    go (inr h) =
        get_d_append_past s (replicate (n - length s) 0) i 0 h
        ∙ (get_d_zeros (n - length s) (i - length s) ∙ sym (get_or-eq_default s 0 {n = i} h))

-- a room whose units past the first u are zero holds the text of u units
pub roomed_take : (n u : ℕ) (d : List ℕ) → length d ≡ n → u ≤ n → ((i : ℕ) → u ≤ i → i < n → get_or d i 0 ≡ 0) → roomed n (take u d) ≡ d
roomed_take n u d e h z =
    let l : length (take u d) ≡ u = length-take-le u d (omega arith) in
    let r : length (roomed n (take u d)) ≡ n = length_roomed n (take u d) (omega arith) in
    ext_get_or 0 (roomed n (take u d)) d (r ∙ sym e) (λ i q. get_d_roomed n (take u d) i ∙ at i (omega arith) l (lt_or_le i u))
  where
    at : (i : ℕ) → i < n → length (take u d) ≡ u → (i < u) ⊎ (u ≤ i) → get_or (take u d) i 0 ≡ get_or d i 0
    at i q l (inl v) = get_or-take u d i 0 v
    at i q l (inr v) = get_or-eq_default (take u d) 0 {n = i} (omega arith) ∙ sym (z i v q)

-- a text of zeros is like none
pub roomed_blank : (n : ℕ) (s : List ℕ) → length s ≤ n → ((i : ℕ) → i < length s → get_or s i 0 ≡ 0) → roomed n s ≡ roomed n []
roomed_blank n s h z =
    let l : length (roomed n s) ≡ n = length_roomed n s h in
    let m : length (roomed n []) ≡ n = length_roomed n [] (omega arith) in
    ext_get_or 0 (roomed n s) (roomed n []) (l ∙ sym m) (λ i q. get_d_roomed n s i ∙ (at i (lt_or_le i (length s)) ∙ sym (get_d_roomed n [] i)))
  where
    at : (i : ℕ) → (i < length s) ⊎ (length s ≤ i) → get_or s i 0 ≡ get_or [] i 0
    at i (inl u) = z i u
    at i (inr u) = get_or-eq_default s 0 {n = i} u
