-- Laws of the test for unused room: what it looks at says that the place is exactly what its texts, hint, marks and settings write.
use mathlib.Core.Path.{◌≡◌, refl, sym, ap, ◌∙◌}
use mathlib.Core.Bool.{Bool, true, ◌&&◌}
use mathlib.Core.List.{List, []}
use mathlib.Core.Logic.{◌⊎◌, inl, inr}
use Prim.Native.Nat.{ℕ, ◌+◌, ◌-◌, ◌*◌, ◌≤◌, ◌<◌}
use native.Mathlib.Nat.{add-sub_of_le}
use native.Mathlib.Omega.{arith}
use lib.ListN.{length, get_or, take, length-take, get_or-eq_default}
use lib.Dec.{leb}
use borrow.Author.Tests.{leb-true, le-leb}
use Rattle.std.specs.List.{list_all, range_with_len}
use Rattle.laws.specs.Lists.{part, roomed}
use Rattle.laws.proofs.Orders.{lt_or_le}
use Rattle.laws.proofs.Choices.{and_left, and_right, and_both}
use Rattle.laws.proofs.Tests.{both_ways}
use Rattle.laws.proofs.Pasting.{get_d_part, length_part}
use Rattle.laws.proofs.Parts.{get_d_roomed, roomed_take}
use Rattle.laws.proofs.Listed.{length_listed, get_d_listed, range_every, every_listed, listed_every, same_list_true, same_same_list}
use Rattle.cache.specs.places.Layout.{unit_at, room_at, text_at, list_count, written, count_unit, hint_unit, mark_units, root_unit, head_units}
use Rattle.cache.specs.places.Code.{place_texts, marks_of, settings_of, tidy, zeros, tidy_room, tidy_rooms, free_units}
use Rattle.cache.proofs.places.ZeroLaws.{zero_at, zeros_all}
use Rattle.cache.proofs.places.WrittenLaws.{HeadUnit, a_length, the_count, the_hint, a_mark, a_setting, same_place, Shaped, length_written, written_length, written_count, written_hint, written_mark, written_setting, written_room}

-- what the test looks at
pub record Tidy (piece : List ℕ) : Type 0 where
  pub few : unit_at count_unit piece ≤ 8
  pub lengths : zeros (part (1 + unit_at count_unit piece) (9 - (1 + unit_at count_unit piece)) piece) ≡ true
  pub marks : zeros (part (mark_units + unit_at count_unit piece) (root_unit - (mark_units + unit_at count_unit piece)) piece) ≡ true
  pub rest : zeros (part free_units (head_units - free_units) piece) ≡ true
  pub rooms : tidy_rooms piece ≡ true

-- one room
pub room_tested : (piece : List ℕ) (j : ℕ)
    → tidy_room piece j ≡ (leb (unit_at j piece) 256 && zeros (part (32 + j * 256 + unit_at j piece) (32 + j * 256 + 256 - (32 + j * 256 + unit_at j piece)) piece))
unfolding tidy_room
room_tested piece j =
    let k : 256 - unit_at j piece ≡ 32 + j * 256 + 256 - (32 + j * 256 + unit_at j piece) = omega arith in
    ap (λ (n : ℕ). leb (unit_at j piece) 256 && zeros (part (32 + j * 256 + unit_at j piece) n piece)) k

-- all of them
pub rooms_all : (piece : List ℕ) {r : Bool} → r ≡ list_all (tidy_room piece) (range_with_len 0 9) → r ≡ tidy_rooms piece
unfolding tidy_rooms
rooms_all piece e = e ∙ range_every (tidy_room piece) 9 (λ j. j) 0 9 refl

module _ (piece : List ℕ) (whole : length piece ≡ 2336) where
  pub length_texts_of : length (place_texts piece) ≡ 1 + list_count piece
  unfolding place_texts
  length_texts_of = length_listed (1 + list_count piece) (λ j. text_at j piece)

  pub texts_of_at : (j : ℕ) → j ≤ list_count piece → get_or (place_texts piece) j [] ≡ text_at j piece
  unfolding place_texts
  texts_of_at j h = get_d_listed (1 + list_count piece) (λ k. text_at k piece) j [] (omega arith)

  texts_of_past : (j : ℕ) → list_count piece < j → get_or (place_texts piece) j [] ≡ []
  texts_of_past j h = get_or-eq_default (place_texts piece) [] {n = j} (rw length_texts_of (omega arith))

  length_text : (j : ℕ) → length (text_at j piece) ≤ 256
  unfolding text_at room_at part
  length_text j = simp length-take (omega arith)

  pub shape_of : Shaped (place_texts piece) (marks_of piece) (settings_of piece)
  unfolding marks_of settings_of
  shape_of = record {
    few_texts = rw length_texts_of (omega arith);
    short = λ j. at j (lt_or_le (list_count piece) j);
    few_marks = simp length_listed (omega arith);
    few_settings = simp length_listed (omega arith);
  }
    where
      at : (j : ℕ) → (list_count piece < j) ⊎ (j ≤ list_count piece) → length (get_or (place_texts piece) j []) ≤ 256
      at j (inl h) = rw (texts_of_past j h) (omega arith)
      at j (inr h) = rw (texts_of_at j h) (length_text j)

  marks_of_at : (j : ℕ) → j < list_count piece → get_or (marks_of piece) j 0 ≡ unit_at (mark_units + j) piece
  unfolding marks_of
  marks_of_at j h = get_d_listed (list_count piece) (λ k. unit_at (mark_units + k) piece) j 0 h

  marks_of_past : (j : ℕ) → list_count piece ≤ j → get_or (marks_of piece) j 0 ≡ 0
  unfolding marks_of
  marks_of_past j h = get_or-eq_default (marks_of piece) 0 {n = j} (simp length_listed h)

  settings_of_at : (j : ℕ) → j < free_units - root_unit → get_or (settings_of piece) j 0 ≡ unit_at (root_unit + j) piece
  unfolding settings_of
  settings_of_at j h = get_d_listed (free_units - root_unit) (λ k. unit_at (root_unit + k) piece) j 0 h

  settings_of_past : (j : ℕ) → free_units - root_unit ≤ j → get_or (settings_of piece) j 0 ≡ 0
  unfolding settings_of
  settings_of_past j h = get_or-eq_default (settings_of piece) 0 {n = j} (simp length_listed h)

  room_unit : (j o : ℕ) → o < 256 → get_or (room_at j piece) o 0 ≡ get_or piece (32 + j * 256 + o) 0
  unfolding room_at
  room_unit j o h = get_d_part (32 + j * 256) 256 piece o 0 h

  length_room : (j : ℕ) → j < 9 → length (room_at j piece) ≡ 256
  unfolding room_at
  length_room j h = length_part (32 + j * 256) 256 piece (omega arith)

  module _ (t : Tidy piece) where
    length_at : (j : ℕ) → j < 9 → unit_at j piece ≤ 256
    unfolding tidy_rooms tidy_room
    length_at j h = leb-true _ _ (and_left _ _ (every_listed (tidy_room piece) 9 (λ k. k) t.rooms j h))

    past_at : (j : ℕ) → j < 9 → zeros (part (32 + j * 256 + unit_at j piece) (256 - unit_at j piece) piece) ≡ true
    unfolding tidy_rooms tidy_room
    past_at j h = and_right (leb (unit_at j piece) 256) _ (every_listed (tidy_room piece) 9 (λ k. k) t.rooms j h)

    -- past the list the lengths are 0, and the texts are empty
    none_past : (j : ℕ) → list_count piece < j → j < 9 → unit_at j piece ≡ 0
    none_past j h u =
        let f : unit_at count_unit piece ≤ 8 = t.few in
        zero_at piece (1 + unit_at count_unit piece) (9 - (1 + unit_at count_unit piece)) j t.lengths (omega arith) (omega arith) (omega arith)

    text_of : (j : ℕ) → j < 9 → get_or (place_texts piece) j [] ≡ text_at j piece
    unfolding text_at
    text_of j h = go (lt_or_le (list_count piece) j)
      where
        go : (list_count piece < j) ⊎ (j ≤ list_count piece) → get_or (place_texts piece) j [] ≡ take (unit_at j piece) (room_at j piece)
        go (inl u) = texts_of_past j u ∙ ap (λ (x : ℕ). take x (room_at j piece)) (sym (none_past j u h))
        go (inr u) = texts_of_at j u

    length_of : (j : ℕ) → j < 9 → length (text_at j piece) ≡ unit_at j piece
    unfolding text_at
    length_of j h =
        let u : unit_at j piece ≤ 256 = length_at j h in
        let l : length (room_at j piece) ≡ 256 = length_room j h in
        simp length-take (omega arith)

    room_of : (j : ℕ) → j < 9 → roomed 256 (text_at j piece) ≡ room_at j piece
    unfolding text_at
    room_of j h =
        let n : unit_at j piece ≤ 256 = length_at j h in
        roomed_take 256 (unit_at j piece) (room_at j piece) (length_room j h) n
        (λ o a b. room_unit j o b
        ∙ zero_at piece (32 + j * 256 + unit_at j piece) (256 - unit_at j piece) (32 + j * 256 + o) (past_at j h) (omega arith) (omega arith) (omega arith))

    head_of : (i : ℕ) → HeadUnit i → unit_at i (written (place_texts piece) (unit_at hint_unit piece) (marks_of piece) (settings_of piece)) ≡ unit_at i piece
    head_of j (a_length h) = written_length _ _ _ _ shape_of j h ∙ (ap length (text_of j h) ∙ length_of j h)
    head_of i the_count =
        let f : unit_at count_unit piece ≤ 8 = t.few in
        written_count _ _ _ _ shape_of ∙ rw length_texts_of (omega arith)
    head_of i the_hint = written_hint _ _ _ _ shape_of
    head_of i (a_mark j h) = written_mark _ _ _ _ shape_of j h ∙ go (lt_or_le j (list_count piece))
      where
        go : (j < list_count piece) ⊎ (list_count piece ≤ j) → get_or (marks_of piece) j 0 ≡ unit_at (mark_units + j) piece
        go (inl u) = marks_of_at j u
        go (inr u) =
            let f : unit_at count_unit piece ≤ 8 = t.few in
            marks_of_past j u
            ∙ sym (zero_at piece (mark_units + unit_at count_unit piece) (root_unit - (mark_units + unit_at count_unit piece)) (mark_units + j) t.marks (omega arith) (omega arith) (omega arith))
    head_of i (a_setting j h) = written_setting _ _ _ _ shape_of j h ∙ go (lt_or_le j (free_units - root_unit))
      where
        go : (j < free_units - root_unit) ⊎ (free_units - root_unit ≤ j) → get_or (settings_of piece) j 0 ≡ unit_at (root_unit + j) piece
        go (inl u) = settings_of_at j u
        go (inr u) = settings_of_past j u ∙ sym (zero_at piece free_units (head_units - free_units) (root_unit + j) t.rest (omega arith) (omega arith) (omega arith))

    pub tidy_yes : tidy piece ≡ true
    unfolding tidy
    tidy_yes =
        same_same_list _ piece
        (same_place _ piece (length_written _ _ _ _ shape_of) whole head_of
        (λ j h. written_room _ _ _ _ shape_of j h ∙ (ap (roomed 256) (text_of j h) ∙ room_of j h)))

  -- and the other way: a place that is what it writes passes each test
  module _ (t : tidy piece ≡ true) where
    pub tidy_written : written (place_texts piece) (unit_at hint_unit piece) (marks_of piece) (settings_of piece) ≡ piece
    unfolding tidy
    tidy_written = same_list_true _ piece t

    shifted : (s i : ℕ) → get_or piece (s + (i - s)) 0 ≡ 0 → s ≤ i → get_or piece i 0 ≡ 0
    shifted s i e u = rw (add-sub_of_le u) at e

    length_told : (j : ℕ) → j < 9 → unit_at j piece ≡ length (get_or (place_texts piece) j [])
    length_told j h = ap (unit_at j) (sym tidy_written) ∙ written_length _ _ _ _ shape_of j h

    past_told : (j o : ℕ) → j < 9 → unit_at j piece ≤ o → o < 256 → get_or piece (32 + j * 256 + o) 0 ≡ 0
    past_told j o h a b =
        let n : unit_at j piece ≡ length (get_or (place_texts piece) j []) = length_told j h in
        sym (room_unit j o b)
        ∙ (ap (λ (x : List ℕ). get_or (room_at j x) o 0) (sym tidy_written)
        ∙ (ap (λ (x : List ℕ). get_or x o 0) (written_room _ _ _ _ shape_of j h)
        ∙ (get_d_roomed 256 (get_or (place_texts piece) j []) o ∙ get_or-eq_default (get_or (place_texts piece) j []) 0 {n = o} (omega arith))))

    few_told : unit_at count_unit piece ≤ 8
    few_told =
        let e : unit_at count_unit piece ≡ length (place_texts piece) - 1 = ap (unit_at count_unit) (sym tidy_written) ∙ written_count _ _ _ _ shape_of in
        let l : length (place_texts piece) ≡ 1 + list_count piece = length_texts_of in
        omega arith

    mark_told : (j : ℕ) → j < 8 → unit_at count_unit piece ≤ j → unit_at (mark_units + j) piece ≡ 0
    mark_told j h u = ap (unit_at (mark_units + j)) (sym tidy_written) ∙ (written_mark _ _ _ _ shape_of j h ∙ marks_of_past j (omega arith))

    rest_told : (j : ℕ) → j < head_units - root_unit → free_units - root_unit ≤ j → unit_at (root_unit + j) piece ≡ 0
    rest_told j h u = ap (unit_at (root_unit + j)) (sym tidy_written) ∙ (written_setting _ _ _ _ shape_of j h ∙ settings_of_past j u)

    room_told : (j : ℕ) → j < 9 → tidy_room piece j ≡ true
    unfolding tidy_room
    room_told j h =
        let n : unit_at j piece ≡ length (get_or (place_texts piece) j []) = length_told j h in
        let m : length (get_or (place_texts piece) j []) ≤ 256 = shape_of.short j in
        and_both (le-leb (unit_at j piece) 256 (omega arith))
        (zeros_all piece (32 + j * 256 + unit_at j piece) (256 - unit_at j piece) (omega arith)
        (λ i a b. shifted (32 + j * 256) i (past_told j (i - (32 + j * 256)) h (omega arith) (omega arith)) (omega arith)))

    pub tidy_told : Tidy piece
    unfolding tidy_rooms
    tidy_told = record {
      few = few_told;
      lengths = zeros_all piece (1 + unit_at count_unit piece) (9 - (1 + unit_at count_unit piece)) (omega (arith, few_told))
          (λ i a b. length_told i (omega (arith, few_told)) ∙ ap length (texts_of_past i (omega (arith, few_told))));
      marks = zeros_all piece (mark_units + unit_at count_unit piece) (root_unit - (mark_units + unit_at count_unit piece)) (omega (arith, few_told))
          (λ i a b. shifted mark_units i (mark_told (i - mark_units) (omega (arith, few_told)) (omega (arith, few_told))) (omega (arith, few_told)));
      rest = zeros_all piece free_units (head_units - free_units) (omega arith) (λ i a b. shifted root_unit i (rest_told (i - root_unit) (omega arith) (omega arith)) (omega arith));
      rooms = listed_every (tidy_room piece) 9 (λ k. k) room_told;
    }

  -- the tests one after another
  pub tidy_tests : tidy piece ≡ (leb (unit_at count_unit piece) 8
      && zeros (part (1 + unit_at count_unit piece) (9 - (1 + unit_at count_unit piece)) piece)
      && zeros (part (mark_units + unit_at count_unit piece) (root_unit - (mark_units + unit_at count_unit piece)) piece)
      && zeros (part free_units (head_units - free_units) piece)
      && tidy_rooms piece)
  tidy_tests =
      both_ways _ _
      (λ t. let s = tidy_told t in and_both (and_both (and_both (and_both (le-leb _ _ s.few) s.lengths) s.marks) s.rest) s.rooms)
      (λ h. tidy_yes (record {
        few = leb-true _ _ (and_left _ _ (and_left _ _ (and_left _ _ (and_left _ _ h))));
        lengths = and_right _ _ (and_left _ _ (and_left _ _ (and_left _ _ h)));
        marks = and_right _ _ (and_left _ _ (and_left _ _ h));
        rest = and_right _ _ (and_left _ _ h);
        rooms = and_right _ _ h;
      }))
