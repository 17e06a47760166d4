-- Laws of writing into a written place: what stands there afterwards is written too, with one text, mark or setting more, or another hint.
use mathlib.Core.Path.{◌≡◌, refl, sym, ap, ◌∙◌}
use mathlib.Core.List.{List, [], ◌∷◌, ◌++◌, flatten}
use mathlib.Core.Logic.{◌≢◌, ◌⊎◌, inl, inr}
use Prim.Native.Nat.{ℕ, zero, suc, ◌+◌, ◌-◌, ◌*◌, ◌≤◌, ◌<◌}
use native.Mathlib.Omega.{arith}
use lib.ListN.{length, get_or, replicate, length-append, length-replicate, get_or-replicate, get_or-append, get_or-eq_default}
use lib.Seq.{get_or-append_seam, ext_get_or}
use Rattle.laws.specs.Lists.{pasted, part, roomed}
use Rattle.laws.specs.Listed.{listed}
use Rattle.laws.proofs.Orders.{lt_or_le}
use Rattle.laws.proofs.Tests.{eq_or_ne}
use Rattle.laws.proofs.Pasting.{get_d_pasted_low, get_d_pasted_in, get_d_pasted_high, length_pasted, part_pasted_low, part_pasted_high, part_pasted, get_d_part, length_part, length_roomed}
use Rattle.laws.proofs.Parts.{get_d_roomed}
use Rattle.cache.specs.places.Layout.{unit_at, room_at, blank, head_of, rooms_of, written, count_unit, hint_unit, mark_units, root_unit, head_units}
use Rattle.cache.specs.places.Code.{put_unit, put_text, put_settings, key_only}
use Rattle.cache.proofs.places.WriterLaws.{length_put_unit}
use Rattle.cache.proofs.places.WrittenLaws.{HeadUnit, a_length, the_count, the_hint, a_mark, a_setting, same_place, Shaped, length_written, written_length, written_count, written_hint, written_mark, written_setting, written_room}

module _ (j v : ℕ) (piece : List ℕ) (whole : length piece ≡ 2336) (fits : j < 32) where
  pub put_same : unit_at j (put_unit j v piece) ≡ v
  unfolding put_unit
  put_same =
      let e : j + 0 ≡ j = omega arith in
      ap (λ (i : ℕ). get_or (pasted piece j (v ∷ [])) i 0) (sym e) ∙ get_d_pasted_in piece j (v ∷ []) (omega arith) 0 0 (omega arith)

  pub put_other : (i : ℕ) → i ≢ j → unit_at i (put_unit j v piece) ≡ unit_at i piece
  unfolding put_unit
  put_other i n = go (lt_or_le i j)
    where
      go : (i < j) ⊎ (j ≤ i) → get_or (pasted piece j (v ∷ [])) i 0 ≡ get_or piece i 0
      go (inl h) = get_d_pasted_low piece j (v ∷ []) (omega arith) i 0 h
      go (inr h) = get_d_pasted_high piece j (v ∷ []) (omega arith) i 0 (omega arith)

  pub put_rooms : (r : ℕ) → r < 9 → room_at r (put_unit j v piece) ≡ room_at r piece
  unfolding put_unit room_at
  put_rooms r h = part_pasted_high piece j (v ∷ []) (32 + r * 256) 256 (omega arith) (omega arith)

  -- a place that differs in that unit alone
  pub put_is : (other : List ℕ) → length other ≡ 2336 → ((i : ℕ) → HeadUnit i → i ≢ j → unit_at i piece ≡ unit_at i other) → unit_at j other ≡ v
      → ((r : ℕ) → r < 9 → room_at r piece ≡ room_at r other) → put_unit j v piece ≡ other
  put_is other w f e g =
      same_place (put_unit j v piece) other (length_put_unit j v piece whole (omega arith)) w
      (λ i u. at i u (eq_or_ne i j))
      (λ r h. put_rooms r h ∙ g r h)
    where
      at : (i : ℕ) → HeadUnit i → (i ≡ j) ⊎ (i ≡ j → ⊥) → unit_at i (put_unit j v piece) ≡ unit_at i other
      at i u (inl q) = rw q (put_same ∙ sym e)
      at i u (inr q) = put_other i q ∙ f i u q

-- one element more at the end of a list
module _ {ℓ} {A : Type ℓ} (xs : List A) (x : A) where
  more_at : (z : A) → get_or (xs ++ (x ∷ [])) (length xs) z ≡ x
  more_at z = get_or-append_seam xs x [] z

  more_other : (i : ℕ) (z : A) → i ≢ length xs → get_or (xs ++ (x ∷ [])) i z ≡ get_or xs i z
  more_other i z n = go (lt_or_le i (length xs))
    where
      go : (i < length xs) ⊎ (length xs ≤ i) → get_or (xs ++ (x ∷ [])) i z ≡ get_or xs i z
      go (inl h) = get_or-append xs (x ∷ []) z i h
      go (inr h) =
          get_or-eq_default (xs ++ (x ∷ [])) z {n = i} (simp length-append (omega arith))
          ∙ sym (get_or-eq_default xs z {n = i} h)

  length_more : length (xs ++ (x ∷ [])) ≡ length xs + 1
  length_more = simp length-append

-- a unit written into a written place: it is another written place where the two agree in all other units
module _ {ts ts' : List (List ℕ)} {marks settings marks' settings' : List ℕ} (hint hint' : ℕ) (s : Shaped ts marks settings) (s' : Shaped ts' marks' settings')
    (j v : ℕ) (fits : j < 32) where
  pub put_written : ((i : ℕ) → i < 9 → i ≢ j → length (get_or ts i []) ≡ length (get_or ts' i [])) → (count_unit ≢ j → length ts - 1 ≡ length ts' - 1)
      → (hint_unit ≢ j → hint ≡ hint') → ((i : ℕ) → i < 8 → mark_units + i ≢ j → get_or marks i 0 ≡ get_or marks' i 0)
      → ((i : ℕ) → i < head_units - root_unit → root_unit + i ≢ j → get_or settings i 0 ≡ get_or settings' i 0) → unit_at j (written ts' hint' marks' settings') ≡ v
      → ((i : ℕ) → i < 9 → get_or ts i [] ≡ get_or ts' i [])
      → put_unit j v (written ts hint marks settings) ≡ written ts' hint' marks' settings'
  put_written a b c d e f g =
      put_is j v (written ts hint marks settings) (length_written _ _ _ _ s) fits (written ts' hint' marks' settings') (length_written _ _ _ _ s')
      other f
      (λ r u. written_room _ _ _ _ s r u ∙ (ap (roomed 256) (g r u) ∙ sym (written_room _ _ _ _ s' r u)))
    where
      other : (i : ℕ) → HeadUnit i → i ≢ j → unit_at i (written ts hint marks settings) ≡ unit_at i (written ts' hint' marks' settings')
      other i (a_length u) n = written_length _ _ _ _ s i u ∙ (a i u n ∙ sym (written_length _ _ _ _ s' i u))
      other i the_count n = written_count _ _ _ _ s ∙ (b n ∙ sym (written_count _ _ _ _ s'))
      other i the_hint n = written_hint _ _ _ _ s ∙ (c n ∙ sym (written_hint _ _ _ _ s'))
      other i (a_mark k u) n = written_mark _ _ _ _ s k u ∙ (d k u n ∙ sym (written_mark _ _ _ _ s' k u))
      other i (a_setting k u) n = written_setting _ _ _ _ s k u ∙ (e k u n ∙ sym (written_setting _ _ _ _ s' k u))

module _ (ts : List (List ℕ)) (hint : ℕ) (marks settings : List ℕ) (shape : Shaped ts marks settings) where
  pub put_hint : (h : ℕ) → put_unit hint_unit h (written ts hint marks settings) ≡ written ts h marks settings
  put_hint h =
      put_written hint h shape shape hint_unit h (omega arith)
      (λ i u n. refl) (λ n. refl) (λ n. absurd (n refl)) (λ i u n. refl) (λ i u n. refl)
      (written_hint ts h marks settings shape) (λ i u. refl)

  pub shape_mark : (m : ℕ) → length marks < 8 → Shaped ts (marks ++ (m ∷ [])) settings
  shape_mark m u = record {
    few_texts = shape.few_texts;
    short = shape.short;
    few_marks = rw (length_more marks m) (omega arith);
    few_settings = shape.few_settings;
  }

  -- one mark more
  pub put_mark : (m : ℕ) → length marks < 8 → put_unit (mark_units + length marks) m (written ts hint marks settings) ≡ written ts hint (marks ++ (m ∷ [])) settings
  put_mark m u =
      put_written hint hint shape (shape_mark m u) (mark_units + length marks) m (omega arith)
      (λ i v n. refl) (λ n. refl) (λ n. refl)
      (λ i v n. sym (more_other marks m i 0 (λ e. n (ap (λ (x : ℕ). mark_units + x) e))))
      (λ i v n. refl)
      (written_mark ts hint (marks ++ (m ∷ [])) settings (shape_mark m u) (length marks) u ∙ more_at marks m 0)
      (λ i v. refl)

  pub shape_text : (t : List ℕ) → length ts < 9 → length t ≤ 256 → Shaped (ts ++ (t ∷ [])) marks settings
  shape_text t u h = record {
    few_texts = rw (length_more ts t) (omega arith);
    short = λ j. at j (eq_or_ne j (length ts));
    few_marks = shape.few_marks;
    few_settings = shape.few_settings;
  }
    where
      at : (j : ℕ) → (j ≡ length ts) ⊎ (j ≡ length ts → ⊥) → length (get_or (ts ++ (t ∷ [])) j []) ≤ 256
      at j (inl e) = rw (e, more_at ts t []) h
      at j (inr n) = rw (more_other ts t j [] n) (shape.short j)

  -- one text more: its length and its room, and the number of texts
  module _ (t : List ℕ) (room : length ts < 9) (fits : length t ≤ 256) where
    old : List ℕ
    old = written ts hint marks settings

    new : List ℕ
    new = written (ts ++ (t ∷ [])) hint marks settings

    shaped : Shaped (ts ++ (t ∷ [])) marks settings
    shaped = shape_text t room fits

    -- the place with the length alone
    sized : List ℕ
    sized = put_unit (length ts) (length t) old

    length_sized : length sized ≡ 2336
    unfolding sized old
    length_sized = length_put_unit (length ts) (length t) old (length_written ts hint marks settings shape) (omega arith)

    roomy : length (roomed 256 t) ≡ 256
    roomy = length_roomed 256 t fits

    -- and with the room
    texted : List ℕ
    texted = pasted sized (32 + length ts * 256) (roomed 256 t)

    inside : 32 + length ts * 256 + length (roomed 256 t) ≤ length sized
    inside = omega (arith, roomy, length_sized)

    text_units : (i : ℕ) → i < 32 → i ≢ length ts → unit_at i texted ≡ unit_at i old
    unfolding texted sized old
    text_units i u n =
        get_d_pasted_low sized (32 + length ts * 256) (roomed 256 t) inside i 0 (omega arith)
        ∙ put_other (length ts) (length t) old (length_written ts hint marks settings shape) (omega arith) i n

    text_length : unit_at (length ts) texted ≡ length t
    unfolding texted sized old
    text_length =
        get_d_pasted_low sized (32 + length ts * 256) (roomed 256 t) inside (length ts) 0 (omega arith)
        ∙ put_same (length ts) (length t) old (length_written ts hint marks settings shape) (omega arith)

    text_room : (r : ℕ) → r < 9 → room_at r texted ≡ roomed 256 (get_or (ts ++ (t ∷ [])) r [])
    unfolding texted room_at
    text_room r h = go (eq_or_ne r (length ts)) (lt_or_le r (length ts))
      where
        kept : (r ≡ length ts → ⊥) → part (32 + r * 256) 256 sized ≡ roomed 256 (get_or (ts ++ (t ∷ [])) r [])
        kept n =
            unfold sized old room_at in put_rooms (length ts) (length t) old (length_written ts hint marks settings shape) (omega arith) r h
            ∙ (written_room ts hint marks settings shape r h ∙ ap (roomed 256) (sym (more_other ts t r [] n)))

        go : (r ≡ length ts) ⊎ (r ≡ length ts → ⊥) → (r < length ts) ⊎ (length ts ≤ r)
            → part (32 + r * 256) 256 (pasted sized (32 + length ts * 256) (roomed 256 t)) ≡ roomed 256 (get_or (ts ++ (t ∷ [])) r [])
        go (inl e) u =
            rw (e, more_at ts t [])
            (ap (λ (n : ℕ). part (32 + length ts * 256) n (pasted sized (32 + length ts * 256) (roomed 256 t))) (sym roomy)
            ∙ part_pasted sized (32 + length ts * 256) (roomed 256 t) inside)
        go (inr n) (inl u) = part_pasted_low sized (32 + length ts * 256) (roomed 256 t) (32 + r * 256) 256 inside (omega arith) ∙ kept n
        go (inr n) (inr u) =
            part_pasted_high sized (32 + length ts * 256) (roomed 256 t) (32 + r * 256) 256 (omega (arith, length_sized)) (omega (arith, roomy)) ∙ kept n

    text_other : (i : ℕ) → HeadUnit i → i ≢ count_unit → unit_at i texted ≡ unit_at i new
    unfolding new old
    text_other i (a_length u) n = go (eq_or_ne i (length ts))
      where
        go : (i ≡ length ts) ⊎ (i ≡ length ts → ⊥) → unit_at i texted ≡ unit_at i new
        go (inl e) = rw e (text_length ∙ sym (written_length (ts ++ (t ∷ [])) hint marks settings shaped (length ts) room ∙ ap length (more_at ts t [])))
        go (inr e) =
            text_units i (omega arith) e
            ∙ (written_length ts hint marks settings shape i u
            ∙ (ap length (sym (more_other ts t i [] e)) ∙ sym (written_length (ts ++ (t ∷ [])) hint marks settings shaped i u)))
    text_other i the_count n = absurd (n refl)
    text_other i the_hint n =
        text_units hint_unit (omega arith) (λ e. omega arith)
        ∙ (written_hint ts hint marks settings shape ∙ sym (written_hint (ts ++ (t ∷ [])) hint marks settings shaped))
    text_other i (a_mark j u) n =
        text_units (mark_units + j) (omega arith) (λ e. omega arith)
        ∙ (written_mark ts hint marks settings shape j u ∙ sym (written_mark (ts ++ (t ∷ [])) hint marks settings shaped j u))
    text_other i (a_setting j u) n =
        text_units (root_unit + j) (omega arith) (λ e. omega arith)
        ∙ (written_setting ts hint marks settings shape j u ∙ sym (written_setting (ts ++ (t ∷ [])) hint marks settings shaped j u))

    pub put_text_lem : put_unit count_unit (length ts) (put_text (length ts) t (written ts hint marks settings)) ≡ written (ts ++ (t ∷ [])) hint marks settings
    unfolding put_text texted sized old new
    put_text_lem =
        put_is count_unit (length ts) texted (length_pasted sized (32 + length ts * 256) (roomed 256 t) inside ∙ length_sized) (omega arith)
        new (length_written (ts ++ (t ∷ [])) hint marks settings shaped) text_other
        (written_count (ts ++ (t ∷ [])) hint marks settings shaped ∙ rw (length_more ts t) (omega arith))
        (λ r h. text_room r h ∙ sym (written_room (ts ++ (t ∷ [])) hint marks settings shaped r h))

-- a cleared place is that of no text
pub blank_written : blank ≡ written [] 0 [] []
unfolding blank written head_of rooms_of listed flatten roomed
blank_written = refl

-- a piece of the head written over, from unit n on: units outside it and the rooms stay
module _ (piece : List ℕ) (n : ℕ) (p : List ℕ) (whole : length piece ≡ 2336) (fits : n + length p ≤ 32) where
  head_in : (j : ℕ) → j < length p → unit_at (n + j) (pasted piece n p) ≡ get_or p j 0
  head_in j h = get_d_pasted_in piece n p (omega arith) j 0 h

  head_out : (i : ℕ) → (i < n) ⊎ (n + length p ≤ i) → unit_at i (pasted piece n p) ≡ unit_at i piece
  head_out i (inl h) = get_d_pasted_low piece n p (omega arith) i 0 h
  head_out i (inr h) = get_d_pasted_high piece n p (omega arith) i 0 h

  head_rooms : (r : ℕ) → r < 9 → room_at r (pasted piece n p) ≡ room_at r piece
  unfolding room_at
  head_rooms r h = part_pasted_high piece n p (32 + r * 256) 256 (omega arith) (omega arith)

-- settings written over those of a place, which are no more
module _ (ts : List (List ℕ)) (hint : ℕ) (marks settings settings' : List ℕ) (s : Shaped ts marks settings) (s' : Shaped ts marks settings')
    (more : length settings ≤ length settings') where
  pub put_settings_lem : put_settings settings' (written ts hint marks settings) ≡ written ts hint marks settings'
  unfolding put_settings
  put_settings_lem =
      same_place (pasted old root_unit settings') (written ts hint marks settings')
      (length_pasted old root_unit settings' (omega (arith, whole, s'.few_settings)) ∙ whole)
      (length_written _ _ _ _ s')
      unit
      (λ r h. head_rooms old root_unit settings' whole (omega (arith, s'.few_settings)) r h ∙ (written_room _ _ _ _ s r h ∙ sym (written_room _ _ _ _ s' r h)))
    where
      old : List ℕ
      old = written ts hint marks settings

      whole : length old ≡ 2336
      whole = length_written _ _ _ _ s

      below : (i : ℕ) → i < root_unit → unit_at i (pasted old root_unit settings') ≡ unit_at i old
      below i h = head_out old root_unit settings' whole (omega (arith, s'.few_settings)) i (inl h)

      setting : (j : ℕ) → j < head_units - root_unit → (j < length settings') ⊎ (length settings' ≤ j) → unit_at (root_unit + j) (pasted old root_unit settings') ≡ get_or settings' j 0
      setting j h (inl u) = head_in old root_unit settings' whole (omega (arith, s'.few_settings)) j u
      setting j h (inr u) =
          head_out old root_unit settings' whole (omega (arith, s'.few_settings)) (root_unit + j) (inr (omega arith))
          ∙ (written_setting _ _ _ _ s j h
          ∙ (get_or-eq_default settings 0 {n = j} (omega arith) ∙ sym (get_or-eq_default settings' 0 {n = j} u)))

      unit : (i : ℕ) → HeadUnit i → unit_at i (pasted old root_unit settings') ≡ unit_at i (written ts hint marks settings')
      unit i (a_length u) = below i (omega arith) ∙ (written_length _ _ _ _ s i u ∙ sym (written_length _ _ _ _ s' i u))
      unit i the_count = below count_unit (omega arith) ∙ (written_count _ _ _ _ s ∙ sym (written_count _ _ _ _ s'))
      unit i the_hint = below hint_unit (omega arith) ∙ (written_hint _ _ _ _ s ∙ sym (written_hint _ _ _ _ s'))
      unit i (a_mark j u) = below (mark_units + j) (omega arith) ∙ (written_mark _ _ _ _ s j u ∙ sym (written_mark _ _ _ _ s' j u))
      unit i (a_setting j u) = setting j u (lt_or_le j (length settings')) ∙ sym (written_setting _ _ _ _ s' j u)

-- a part of zeros
zero_part : (d : List ℕ) (n k m : ℕ) → n + k ≤ length d → n ≤ m → m + 256 ≤ n + k → part m 256 (pasted d n (replicate k 0)) ≡ roomed 256 []
zero_part d n k m h u v =
    let z : length (replicate {A = ℕ} k 0) ≡ k = length-replicate k 0 in
    let l : length (pasted d n (replicate k 0)) ≡ length d = length_pasted d n (replicate k 0) (omega arith) in
    let a : length (part m 256 (pasted d n (replicate k 0))) ≡ 256 = length_part m 256 (pasted d n (replicate k 0)) (omega arith) in
    let b : length (roomed 256 []) ≡ 256 = length_roomed 256 [] (omega arith) in
    ext_get_or 0 (part m 256 (pasted d n (replicate k 0))) (roomed 256 []) (a ∙ sym b)
    (λ i q. get_d_part m 256 (pasted d n (replicate k 0)) i 0 (omega arith) ∙ (at (m + i) (omega arith) (omega arith) z ∙ sym (get_d_roomed 256 [] i)))
  where
    at : (i : ℕ) → n ≤ i → i < n + k → length (replicate {A = ℕ} k 0) ≡ k → get_or (pasted d n (replicate k 0)) i 0 ≡ 0
    at i a b z =
        let e : n + (i - n) ≡ i = omega arith in
        ap (λ (x : ℕ). get_or (pasted d n (replicate k 0)) x 0) (sym e)
        ∙ (get_d_pasted_in d n (replicate k 0) (omega arith) (i - n) 0 (omega arith) ∙ get_or-replicate k (i - n) 0 0 (omega arith))

-- rooms beside and under zeros
low_room : (d : List ℕ) (k : ℕ) → 288 + k ≤ length d → room_at 0 (pasted d 288 (replicate k 0)) ≡ room_at 0 d
unfolding room_at
low_room d k h = let z : length (replicate {A = ℕ} k 0) ≡ k = length-replicate k 0 in part_pasted_low d 288 (replicate k 0) 32 256 (omega arith) (omega arith)

past_room : (d : List ℕ) (n : ℕ) → (n ≤ 31) × (288 ≤ length d) → room_at 0 (pasted d 1 (replicate n 0)) ≡ room_at 0 d
unfolding room_at
past_room d n h =
    let z : length (replicate {A = ℕ} n 0) ≡ n = length-replicate n 0 in
    let a : n ≤ 31 = h.0 in
    let b : 288 ≤ length d = h.1 in
    part_pasted_high d 1 (replicate n 0) 32 256 (omega arith) (omega arith)

high_room : (d : List ℕ) (k r : ℕ) → 288 + k ≤ length d → 1 ≤ r → 32 + r * 256 + 256 ≤ 288 + k → room_at r (pasted d 288 (replicate k 0)) ≡ roomed 256 []
unfolding room_at
high_room d k r h u v = zero_part d 288 k (32 + r * 256) h (omega arith) v

-- all but the key cleared
module _ (key : List ℕ) (list : List (List ℕ)) (hint : ℕ) (marks settings : List ℕ) (s : Shaped (key ∷ list) marks settings) where
  pub shape_key : Shaped (key ∷ []) [] []
  shape_key = record {
    few_texts = omega arith;
    short = at;
    few_marks = omega arith;
    few_settings = omega arith;
  }
    where
      at : (j : ℕ) → length (get_or (key ∷ []) j []) ≤ 256
      at zero = s.short 0
      at (suc j) = omega arith

  -- with the numbers of zeros as variables
  cleared : (n k : ℕ) → n ≡ 31 → k ≡ 2048 → pasted (pasted (written (key ∷ list) hint marks settings) 1 (replicate n 0)) 288 (replicate k 0) ≡ written (key ∷ []) 0 [] []
  cleared n k p q =
      same_place (pasted (pasted old 1 (replicate n 0)) 288 (replicate k 0)) (written (key ∷ []) 0 [] [])
      (length_pasted (pasted old 1 (replicate n 0)) 288 (replicate k 0) (omega (arith, zn, zk, first)) ∙ first)
      (length_written _ _ _ _ shape_key)
      (λ i u. below i (omega (arith, bound i u)) ∙ unit i u)
      (λ r h. room r h (eq_or_ne r 0))
    where
      old : List ℕ
      old = written (key ∷ list) hint marks settings

      whole : length old ≡ 2336
      whole = length_written _ _ _ _ s

      zn : length (replicate {A = ℕ} n 0) ≡ n
      zn = length-replicate n 0

      zk : length (replicate {A = ℕ} k 0) ≡ k
      zk = length-replicate k 0

      first : length (pasted old 1 (replicate n 0)) ≡ 2336
      first = length_pasted old 1 (replicate n 0) (omega (arith, zn, whole)) ∙ whole

      bound : (i : ℕ) → HeadUnit i → i < 32
      bound i (a_length u) = omega arith
      bound i the_count = omega arith
      bound i the_hint = omega arith
      bound i (a_mark j u) = omega arith
      bound i (a_setting j u) = omega arith

      below : (i : ℕ) → i < 288 → unit_at i (pasted (pasted old 1 (replicate n 0)) 288 (replicate k 0)) ≡ unit_at i (pasted old 1 (replicate n 0))
      below i h = get_d_pasted_low (pasted old 1 (replicate n 0)) 288 (replicate k 0) (omega (arith, zk, first)) i 0 h

      -- past the first unit all is zero
      nought : (i : ℕ) → i < 31 → unit_at (1 + i) (pasted old 1 (replicate n 0)) ≡ 0
      nought i h =
          get_d_pasted_in old 1 (replicate n 0) (omega (arith, zn, whole)) i 0 (omega (arith, zn)) ∙ get_or-replicate n i 0 0 (omega arith)

      zero_at : (i : ℕ) → 1 ≤ i → i < 32 → unit_at i (pasted old 1 (replicate n 0)) ≡ 0
      zero_at i a b = let e : 1 + (i - 1) ≡ i = omega arith in ap (λ (x : ℕ). unit_at x (pasted old 1 (replicate n 0))) (sym e) ∙ nought (i - 1) (omega arith)

      unit : (i : ℕ) → HeadUnit i → unit_at i (pasted old 1 (replicate n 0)) ≡ unit_at i (written (key ∷ []) 0 [] [])
      unit i (a_length u) = go i u
        where
          go : (j : ℕ) → j < 9 → unit_at j (pasted old 1 (replicate n 0)) ≡ unit_at j (written (key ∷ []) 0 [] [])
          go zero v =
              get_d_pasted_low old 1 (replicate n 0) (omega (arith, zn, whole)) 0 0 (omega arith)
              ∙ (written_length _ _ _ _ s 0 (omega arith) ∙ sym (written_length _ _ _ _ shape_key 0 (omega arith)))
          go (suc j) v = zero_at (suc j) (omega arith) (omega arith) ∙ sym (written_length _ _ _ _ shape_key (suc j) v)
      unit i the_count = zero_at count_unit (omega arith) (omega arith) ∙ sym (written_count _ _ _ _ shape_key)
      unit i the_hint = zero_at hint_unit (omega arith) (omega arith) ∙ sym (written_hint _ _ _ _ shape_key)
      unit i (a_mark j u) = zero_at (mark_units + j) (omega arith) (omega arith) ∙ sym (written_mark _ _ _ _ shape_key j u)
      unit i (a_setting j u) = zero_at (root_unit + j) (omega arith) (omega arith) ∙ sym (written_setting _ _ _ _ shape_key j u)

      room : (r : ℕ) → r < 9 → (r ≡ 0) ⊎ (r ≡ 0 → ⊥) → room_at r (pasted (pasted old 1 (replicate n 0)) 288 (replicate k 0)) ≡ room_at r (written (key ∷ []) 0 [] [])
      room r h (inl e) =
          rw e
          (low_room (pasted old 1 (replicate n 0)) k (omega (arith, first))
          ∙ (past_room old n (omega (arith, whole))
          ∙ (written_room _ _ _ _ s 0 (omega arith) ∙ sym (written_room _ _ _ _ shape_key 0 (omega arith)))))
      room r h (inr e) =
          high_room (pasted old 1 (replicate n 0)) k r (omega (arith, first)) (omega arith) (omega arith)
          ∙ (ap (roomed 256) (sym (get_or-eq_default (key ∷ []) [] {n = r} (omega arith))) ∙ sym (written_room _ _ _ _ shape_key r h))

  pub key_only_lem : key_only (written (key ∷ list) hint marks settings) ≡ written (key ∷ []) 0 [] []
  unfolding key_only
  key_only_lem = cleared 31 2048 refl refl
