-- Laws of a written place: what stands in each unit and room of it, and that two places with equal heads and rooms are equal.
use mathlib.Core.Path.{◌≡◌, refl, sym, ap, ◌∙◌, subst}
use mathlib.Core.List.{List, [], ◌∷◌, ◌++◌, flatten}
use mathlib.Core.Logic.{◌⊎◌, inl, inr}
use Prim.Native.Nat.{ℕ, ◌+◌, ◌-◌, ◌*◌, ◌≤◌, ◌<◌}
use native.Mathlib.Nat.{zero-add}
use native.Mathlib.Omega.{arith}
use lib.ListN.{length, get_or, take, length-append, get_or-append}
use lib.Seq.{ext_get_or}
use Rattle.laws.specs.Lists.{part, roomed}
use Rattle.laws.specs.Listed.{listed}
use Rattle.laws.proofs.Orders.{lt_or_le}
use Rattle.laws.proofs.Pasting.{get_d_part, length_part, length_roomed, take_roomed}
use Rattle.laws.proofs.Parts.{part_whole, part_join, part_past, get_d_past, get_d_roomed}
use Rattle.laws.proofs.Listed.{length_listed, get_d_listed, listed_same, flatten_parts, length_flatten, part_flatten}
use Rattle.cache.specs.places.Layout.{unit_at, room_at, text_at, head_of, rooms_of, written, count_unit, hint_unit, mark_units, root_unit, head_units}

-- what each unit of a head is for
pub data HeadUnit : ℕ → Type 0 where
  a_length : {j : ℕ} → j < 9 → HeadUnit j
  the_count : HeadUnit count_unit
  the_hint : HeadUnit hint_unit
  a_mark : (j : ℕ) → j < 8 → HeadUnit (mark_units + j)
  a_setting : (j : ℕ) → j < head_units - root_unit → HeadUnit (root_unit + j)

pub head_unit : (i : ℕ) → i < 32 → HeadUnit i
head_unit i h = go (lt_or_le i count_unit) (lt_or_le i hint_unit) (lt_or_le i mark_units) (lt_or_le i root_unit)
  where
    is : (k : ℕ) → k ≡ i → HeadUnit k → HeadUnit i
    is k e u = subst HeadUnit e u

    go : (i < count_unit) ⊎ (count_unit ≤ i) → (i < hint_unit) ⊎ (hint_unit ≤ i) → (i < mark_units) ⊎ (mark_units ≤ i) → (i < root_unit) ⊎ (root_unit ≤ i) → HeadUnit i
    go (inl a) b c d = a_length a
    go (inr a) (inl b) c d = is count_unit (omega arith) the_count
    go (inr a) (inr b) (inl c) d = is hint_unit (omega arith) the_hint
    go (inr a) (inr b) (inr c) (inl d) = is (mark_units + (i - mark_units)) (omega arith) (a_mark (i - mark_units) (omega arith))
    go (inr a) (inr b) (inr c) (inr d) = is (root_unit + (i - root_unit)) (omega arith) (a_setting (i - root_unit) (omega arith))

-- two places with equal heads and equal rooms
pub same_place : (a b : List ℕ) → length a ≡ 2336 → length b ≡ 2336
    → ((i : ℕ) → HeadUnit i → unit_at i a ≡ unit_at i b) → ((j : ℕ) → j < 9 → room_at j a ≡ room_at j b) → a ≡ b
unfolding room_at
same_place a b p q f g = sym (whole a p) ∙ ((λ i. head i ++ rooms i) ∙ whole b q)
  where
    whole : (d : List ℕ) → length d ≡ 2336 → part 0 32 d ++ part 32 2304 d ≡ d
    whole d e = sym (part_join 0 32 2304 d) ∙ part_whole d 2336 e

    head : part 0 32 a ≡ part 0 32 b
    head =
        let l : length (part 0 32 a) ≡ 32 = length_part 0 32 a (omega arith) in
        let m : length (part 0 32 b) ≡ 32 = length_part 0 32 b (omega arith) in
        ext_get_or 0 (part 0 32 a) (part 0 32 b) (l ∙ sym m)
        (λ i h. get_d_part 0 32 a i 0 (omega arith)
        ∙ (rw (zero-add i) (f i (head_unit i (omega arith))) ∙ sym (get_d_part 0 32 b i 0 (omega arith))))

    rooms : part 32 2304 a ≡ part 32 2304 b
    rooms = sym (flatten_parts 9 256 32 a) ∙ (ap flatten (listed_same 9 _ _ g) ∙ flatten_parts 9 256 32 b)

-- what can be written: nine texts at most, each of 256 units at most, and what the head has room for
pub record Shaped (ts : List (List ℕ)) (marks settings : List ℕ) : Type 0 where
  pub few_texts : length ts ≤ 9
  pub short : (j : ℕ) → length (get_or ts j []) ≤ 256
  pub few_marks : length marks ≤ 8
  pub few_settings : length settings ≤ head_units - root_unit

-- only their rooms in the head count of marks and settings
pub same_written : (ts : List (List ℕ)) (hint : ℕ) (ms ss ms' ss' : List ℕ) → roomed 8 ms ≡ roomed 8 ms' → roomed (head_units - root_unit) ss ≡ roomed (head_units - root_unit) ss'
    → written ts hint ms ss ≡ written ts hint ms' ss'
unfolding written head_of
same_written ts hint ms ss ms' ss' p q =
    λ i. (listed 9 (λ j. length (get_or ts j [])) ++ (((length ts - 1) ∷ hint ∷ []) ++ (p i ++ q i))) ++ rooms_of ts

module _ (ts : List (List ℕ)) (hint : ℕ) (marks settings : List ℕ) (shape : Shaped ts marks settings) where
  length_marks : length (roomed 8 marks) ≡ 8
  length_marks = length_roomed 8 marks shape.few_marks

  length_settings : length (roomed (head_units - root_unit) settings) ≡ head_units - root_unit
  length_settings = length_roomed (head_units - root_unit) settings shape.few_settings

  length_lengths : length (listed 9 (λ j. length (get_or ts j []))) ≡ 9
  length_lengths = length_listed 9 (λ j. length (get_or ts j []))

  length_head : length (head_of ts hint marks settings) ≡ 32
  unfolding head_of
  length_head = simp (length-append, length_lengths, length_marks, length_settings)

  length_rooms : length (rooms_of ts) ≡ 2304
  unfolding rooms_of
  length_rooms =
      length_flatten 256 (listed 9 (λ j. roomed 256 (get_or ts j [])))
      (λ j h. ap length (get_d_listed 9 _ j [] (simp length_listed at h)) ∙ length_roomed 256 (get_or ts j []) (shape.short j))
      ∙ simp length_listed

  pub length_written : length (written ts hint marks settings) ≡ 2336
  unfolding written
  length_written = simp (length-append, length_head, length_rooms)

  in_head : (i z : ℕ) → i < 32 → get_or (written ts hint marks settings) i z ≡ get_or (head_of ts hint marks settings) i z
  unfolding written
  in_head i z h = get_or-append (head_of ts hint marks settings) (rooms_of ts) z i (rw length_head h)

  pub written_length : (j : ℕ) → j < 9 → unit_at j (written ts hint marks settings) ≡ length (get_or ts j [])
  unfolding head_of
  written_length j h =
      in_head j 0 (omega arith)
      ∙ (get_or-append (listed 9 (λ k. length (get_or ts k []))) _ 0 j (rw length_lengths h)
      ∙ get_d_listed 9 (λ k. length (get_or ts k [])) j 0 h)

  past_lengths : (i z : ℕ) → 9 + i < 32
      → get_or (written ts hint marks settings) (9 + i) z ≡ get_or (((length ts - 1) ∷ hint ∷ []) ++ (roomed 8 marks ++ roomed (head_units - root_unit) settings)) i z
  unfolding head_of
  past_lengths i z h = in_head (9 + i) z h ∙ get_d_past (listed 9 (λ k. length (get_or ts k []))) _ 9 i z length_lengths

  pub written_count : unit_at count_unit (written ts hint marks settings) ≡ length ts - 1
  written_count = past_lengths 0 0 (omega arith)

  pub written_hint : unit_at hint_unit (written ts hint marks settings) ≡ hint
  written_hint = past_lengths 1 0 (omega arith)

  past_hint : (i z : ℕ) → mark_units + i < 32 → get_or (written ts hint marks settings) (mark_units + i) z ≡ get_or (roomed 8 marks ++ roomed (head_units - root_unit) settings) i z
  past_hint i z h =
      let e : mark_units + i ≡ 9 + (2 + i) = omega arith in
      rw e (past_lengths (2 + i) z (omega arith)
      ∙ get_d_past ((length ts - 1) ∷ hint ∷ []) (roomed 8 marks ++ roomed (head_units - root_unit) settings) 2 i z refl)

  pub written_mark : (j : ℕ) → j < 8 → unit_at (mark_units + j) (written ts hint marks settings) ≡ get_or marks j 0
  written_mark j h =
      past_hint j 0 (omega arith)
      ∙ (get_or-append (roomed 8 marks) (roomed (head_units - root_unit) settings) 0 j (rw length_marks h) ∙ get_d_roomed 8 marks j)

  pub written_setting : (j : ℕ) → j < head_units - root_unit → unit_at (root_unit + j) (written ts hint marks settings) ≡ get_or settings j 0
  written_setting j h =
      let e : root_unit + j ≡ mark_units + (8 + j) = omega arith in
      rw e (past_hint (8 + j) 0 (omega arith)
      ∙ (get_d_past (roomed 8 marks) (roomed (head_units - root_unit) settings) 8 j 0 length_marks ∙ get_d_roomed (head_units - root_unit) settings j))

  pub written_room : (j : ℕ) → j < 9 → room_at j (written ts hint marks settings) ≡ roomed 256 (get_or ts j [])
  unfolding room_at written rooms_of
  written_room j h =
      part_past (head_of ts hint marks settings) (rooms_of ts) 32 (j * 256) 256 length_head
      ∙ (part_flatten 256 (listed 9 (λ k. roomed 256 (get_or ts k [])))
      (λ k q. ap length (get_d_listed 9 _ k [] (simp length_listed at q)) ∙ length_roomed 256 (get_or ts k []) (shape.short k))
      j (simp length_listed h)
      ∙ get_d_listed 9 (λ k. roomed 256 (get_or ts k [])) j [] h)

  pub written_text : (j : ℕ) → j < 9 → text_at j (written ts hint marks settings) ≡ get_or ts j []
  unfolding text_at
  written_text j h =
      (λ i. take (written_length j h i) (written_room j h i)) ∙ take_roomed 256 (get_or ts j [])
