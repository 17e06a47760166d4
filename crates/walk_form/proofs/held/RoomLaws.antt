-- Laws of the three rooms: a text and the zeros past it are its room, and what the test of the rooms looks at says that the texts are
-- exactly what is lent. They are stated over rooms of any one size, so that 256 zeros are not written out.
use mathlib.Core.Path.{◌≡◌, sym, ap, ◌∙◌}
use mathlib.Core.Bool.{true, ◌&&◌}
use mathlib.Core.List.{List, ◌++◌, append_assoc}
use Prim.Native.Nat.{ℕ, ◌+◌, ◌-◌, ◌≤◌, ◌<◌, min}
use native.Mathlib.Nat.{zero-add}
use native.Mathlib.Omega.{arith}
use lib.ListN.{length, get_or, take, drop, length-append, length-take, length-drop, length-replicate, get_or-eq_default}
use lib.Seq.{take-take, take_at, take_all, drop_at}
use lib.Dec.{leb}
use borrow.Author.Tests.{leb-true, le-leb}
use Rattle.laws.specs.Lists.{part, roomed}
use Rattle.laws.proofs.Choices.{and_left, and_right, and_both}
use Rattle.laws.proofs.Pasting.{length_part, length_roomed, get_d_part}
use Rattle.laws.proofs.Parts.{part_join, part_whole, get_d_roomed, roomed_take}
use Rattle.cache.specs.places.Code.{zeros}
use Rattle.cache.proofs.places.ZeroLaws.{zero_at, zeros_all}
use Rattle.walk_steps.specs.walk_texts.Texts.{texts_of}
use Rattle.walk_form.specs.held.Walks.{lent}
use Rattle.walk_form.specs.held.Code.{room_form, rooms_form}

length_room : (n : ℕ) (s : List ℕ) → length (roomed n s) ≡ length s + (n - length s)
unfolding roomed
length_room n s = length-append s _ ∙ ap (λ (k : ℕ). length s + k) (length-replicate (n - length s) 0)

-- one room of n units, with a text of u units
module _ (n at u : ℕ) (d : List ℕ) (fits : at + n ≤ length d) (short : u ≤ n) where
  text_of : take u (part at n d) ≡ take u (drop at d)
  unfolding part
  text_of = take-take u n (drop at d) short

  room_yes : zeros (part (at + u) (n - u) d) ≡ true → roomed n (take u (drop at d)) ≡ part at n d
  room_yes z =
      ap (roomed n) (sym text_of)
      ∙ roomed_take n u (part at n d) (length_part at n d fits) short
      (λ i a b. get_d_part at n d i 0 b ∙ zero_at d (at + u) (n - u) (at + i) z (omega arith) (omega arith) (omega arith))

  past_text : roomed n (take u (drop at d)) ≡ part at n d → (i : ℕ) → u ≤ i → i < n → get_or d (at + i) 0 ≡ 0
  past_text e i a b =
      let l : length (take u (drop at d)) ≤ u = simp length-take (omega arith) in
      sym (get_d_part at n d i 0 b)
      ∙ (ap (λ (x : List ℕ). get_or x i 0) (sym e)
      ∙ (get_d_roomed n (take u (drop at d)) i ∙ get_or-eq_default (take u (drop at d)) 0 {n = i} (omega arith)))

  room_told : roomed n (take u (drop at d)) ≡ part at n d → zeros (part (at + u) (n - u) d) ≡ true
  room_told e =
      zeros_all d (at + u) (n - u) (omega arith)
      (λ i a b. let k : at + (i - at) ≡ i = omega arith in
      ap (λ (x : ℕ). get_or d x 0) (sym k) ∙ past_text e (i - at) (omega arith) (omega arith))

-- three of them
module _ (n : ℕ) (d : List ℕ) (long : length d ≡ n + n + n) where
  three : (part 0 n d ++ part n n d) ++ part (n + n) n d ≡ d
  three =
      (λ i. (part 0 n d ++ part (sym (zero-add n) i) n d) ++ part (sym (zero-add (n + n)) i) n d)
      ∙ (ap (λ (x : List ℕ). x ++ part (0 + (n + n)) n d) (sym (part_join 0 n n d))
      ∙ (sym (part_join 0 (n + n) n d) ∙ part_whole d (n + n + n) long))

  module _ (a b c : List ℕ) (la : length a ≡ n) (lb : length b ≡ n) (lc : length c ≡ n) (e : (a ++ b) ++ c ≡ d) where
    first : a ≡ part 0 n d
    unfolding part
    first = sym (ap (take n) (sym e ∙ append_assoc a b c) ∙ take_at a (b ++ c) n la)

    second : b ≡ part n n d
    unfolding part
    second =
        sym (ap (λ (x : List ℕ). take n (drop n x)) (sym e ∙ append_assoc a b c)
        ∙ (ap (take n) (drop_at a (b ++ c) n la) ∙ take_at b c n lb))

    third : c ≡ part (n + n) n d
    unfolding part
    third =
        let l : length (a ++ b) ≡ n + n = simp length-append (omega arith) in
        sym (ap (λ (x : List ℕ). take n (drop (n + n) x)) (sym e) ∙ (ap (take n) (drop_at (a ++ b) c (n + n) l) ∙ take_all n c (omega arith)))

  module _ (p t b : ℕ) where
    pub three_yes : p ≤ n → t ≤ n → b ≤ n → zeros (part (0 + p) (n - p) d) ≡ true → zeros (part (n + t) (n - t) d) ≡ true
        → zeros (part (n + n + b) (n - b) d) ≡ true
        → (roomed n (take p d) ++ roomed n (take t (drop n d))) ++ roomed n (take b (drop (n + n) d)) ≡ d
    three_yes hp ht hb zp zt zb =
        (λ i. (room_yes n 0 p d (omega arith) hp zp i ++ room_yes n n t d (omega arith) ht zt i) ++ room_yes n (n + n) b d (omega arith) hb zb i)
        ∙ three

    module _ (some : 0 < n) (e : (roomed n (take p d) ++ roomed n (take t (drop n d))) ++ roomed n (take b (drop (n + n) d)) ≡ d) where
      fit : (p ≤ n) × (t ≤ n)
      fit =
          let lp : length (take p d) ≡ min p (length d) = length-take p d in
          let lt : length (take t (drop n d)) ≡ min t (length d - n) = simp (length-take, length-drop) in
          let rp : length (roomed n (take p d)) ≡ length (take p d) + (n - length (take p d)) = length_room n (take p d) in
          let rt : length (roomed n (take t (drop n d))) ≡ length (take t (drop n d)) + (n - length (take t (drop n d))) = length_room n (take t (drop n d)) in
          let rb : length (roomed n (take b (drop (n + n) d))) ≡ length (take b (drop (n + n) d)) + (n - length (take b (drop (n + n) d))) =
          length_room n (take b (drop (n + n) d)) in
          let w : length (roomed n (take p d)) + length (roomed n (take t (drop n d))) + length (roomed n (take b (drop (n + n) d))) ≡ length d =
          simp length-append at (ap length e) in
          (omega arith, omega arith)

      pub path_fits : p ≤ n
      path_fits = fit.0

      pub tried_fits : t ≤ n
      tried_fits = fit.1

      module _ (hb : b ≤ n) where
        path_room : length (roomed n (take p d)) ≡ n
        path_room = length_roomed n (take p d) (let l : length (take p d) ≡ min p (length d) = length-take p d in omega (arith, fit))

        tried_room_lem : length (roomed n (take t (drop n d))) ≡ n
        tried_room_lem =
            length_roomed n (take t (drop n d)) (let l : length (take t (drop n d)) ≡ min t (length d - n) = simp (length-take, length-drop) in omega (arith, fit))

        boot_room : length (roomed n (take b (drop (n + n) d))) ≡ n
        boot_room = length_roomed n (take b (drop (n + n) d)) (simp length-take (omega arith))

        pub path_zeros : zeros (part (0 + p) (n - p) d) ≡ true
        path_zeros =
            room_told n 0 p d (omega arith) path_fits
            (first (roomed n (take p d)) (roomed n (take t (drop n d))) (roomed n (take b (drop (n + n) d))) path_room tried_room_lem boot_room e)

        pub tried_zeros : zeros (part (n + t) (n - t) d) ≡ true
        tried_zeros =
            room_told n n t d (omega arith) tried_fits
            (second (roomed n (take p d)) (roomed n (take t (drop n d))) (roomed n (take b (drop (n + n) d))) path_room tried_room_lem boot_room e)

        pub boot_zeros : zeros (part (n + n + b) (n - b) d) ≡ true
        boot_zeros =
            room_told n (n + n) b d (omega arith) hb
            (third (roomed n (take p d)) (roomed n (take t (drop n d))) (roomed n (take b (drop (n + n) d))) path_room tried_room_lem boot_room e)

-- the texts are what is lent exactly where the rooms pass their tests
module _ (texts : List ℕ) (long : length texts ≡ 768) (p t b : ℕ) where
  pub lent_yes : rooms_form p t b texts ≡ true → lent (take p texts) (take t (drop 256 texts)) (take b (drop 512 texts)) ≡ texts
  unfolding lent texts_of rooms_form room_form
  lent_yes h =
      let hp : room_form 0 p texts ≡ true = and_left _ _ h in
      let hr : (room_form 256 t texts && room_form 512 b texts) ≡ true = and_right (room_form 0 p texts) _ h in
      let ht : room_form 256 t texts ≡ true = and_left _ _ hr in
      let hb : room_form 512 b texts ≡ true = and_right (room_form 256 t texts) _ hr in
      three_yes 256 texts long p t b
      (leb-true p 256 (and_left _ _ hp))
      (leb-true t 256 (and_left _ _ ht))
      (leb-true b 256 (and_left _ _ hb))
      (and_right (leb p 256) _ hp)
      (and_right (leb t 256) _ ht)
      (and_right (leb b 256) _ hb)

  module _ (e : lent (take p texts) (take t (drop 256 texts)) (take b (drop 512 texts)) ≡ texts) where
    pub lent_path : p ≤ 256
    unfolding lent texts_of
    lent_path = path_fits 256 texts long p t b (omega arith) e

    pub lent_tried : t ≤ 256
    unfolding lent texts_of
    lent_tried = tried_fits 256 texts long p t b (omega arith) e

    pub lent_told : b ≤ 256 → rooms_form p t b texts ≡ true
    unfolding lent texts_of rooms_form room_form
    lent_told hb =
        and_both
        (and_both (le-leb p 256 lent_path) (path_zeros 256 texts long p t b (omega arith) e hb))
        (and_both
        (and_both (le-leb t 256 lent_tried) (tried_zeros 256 texts long p t b (omega arith) e hb))
        (and_both (le-leb b 256 hb) (boot_zeros 256 texts long p t b (omega arith) e hb)))
