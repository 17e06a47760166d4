-- Laws of the layout: reading a place of the memory, changing one place, and reading what `written` wrote.
use mathlib.Core.Path.{◌≡◌, refl, sym, ap, ◌∙◌}
use mathlib.Core.List.{List}
use Prim.Native.Nat.{ℕ, ◌+◌, ◌-◌, ◌*◌, ◌≤◌, ◌<◌, min}
use native.Mathlib.Nat.{add_assoc}
use native.Mathlib.Omega.{arith}
use lib.ListN.{length, get_or, take, drop}
use mathlib.Core.Logic.{◌≢◌, ◌⊎◌, inl, inr}
use Rattle.laws.specs.Lists.{pasted, part}
use Rattle.laws.proofs.Orders.{lt_or_le}
use Rattle.laws.proofs.Pasting.{get_d_part, length_part, length_pasted, part_pasted, part_pasted_low, part_pasted_high, pasted_in_part, pasted_again, pasted_part}
use Rattle.laws.proofs.Parts.{part_part, take_part, part_slice}
use Rattle.cache.specs.places.Layout.{place_count, place_at, unit_at, wide_at, room_at, text_at}
use Rattle.cache.specs.places.Code.{changed}

-- a place of the memory
module _ (raw : List ℕ) (i : ℕ) (fits : i < place_count raw) where
  pub length_place : length (place_at i raw) ≡ 2336
  unfolding place_at
  length_place = length_part (i * 2336) 2336 raw (omega arith)

  pub place_part : (n k : ℕ) → n + k ≤ 2336 → part n k (place_at i raw) ≡ part (i * 2336 + n) k raw
  unfolding place_at
  place_part n k h = part_part n k (i * 2336) 2336 raw h

  pub place_unit : (j : ℕ) → j < 2336 → get_or raw (i * 2336 + j) 0 ≡ unit_at j (place_at i raw)
  unfolding place_at
  place_unit j h = sym (get_d_part (i * 2336) 2336 raw j 0 h)

  pub place_wide : (j : ℕ) → j + 1 < 2336 → get_or raw (i * 2336 + j) 0 + 65536 * get_or raw (i * 2336 + j + 1) 0 ≡ wide_at j (place_at i raw)
  unfolding wide_at
  place_wide j h =
      let a : get_or raw (i * 2336 + j) 0 ≡ unit_at j (place_at i raw) = place_unit j (omega arith) in
      let b : get_or raw (i * 2336 + (j + 1)) 0 ≡ unit_at (j + 1) (place_at i raw) = place_unit (j + 1) h in
      rw (add_assoc (i * 2336) j 1, a, b)

  -- a room, as a slice
  pub place_room : (j : ℕ) → j < 9
      → take (i * 2336 + 32 + j * 256 + 256 - (i * 2336 + 32 + j * 256)) (drop (i * 2336 + 32 + j * 256) raw) ≡ room_at j (place_at i raw)
  unfolding room_at
  place_room j h = part_slice (i * 2336 + (32 + j * 256)) 256 raw (i * 2336 + 32 + j * 256) (i * 2336 + 32 + j * 256 + 256) (omega arith) refl ∙ sym (place_part (32 + j * 256) 256 (omega arith))

  pub length_room : (j : ℕ) → j < 9 → length (room_at j (place_at i raw)) ≡ 256
  unfolding room_at
  length_room j h = let z : length (place_at i raw) ≡ 2336 = length_place in length_part (32 + j * 256) 256 (place_at i raw) (omega arith)

  pub place_room_units : (j : ℕ) → j < 9
      → length (take (i * 2336 + 32 + j * 256 + 256 - (i * 2336 + 32 + j * 256)) (drop (i * 2336 + 32 + j * 256) raw)) ≡ 256
  place_room_units j h = ap length (place_room j h) ∙ length_room j h

  -- a text, as the slice of n units from s on
  pub place_text : (j s n : ℕ) → j < 9 → s ≡ i * 2336 + (32 + j * 256) → n ≡ min 256 (get_or raw (i * 2336 + j) 0)
      → take (s + n - s) (drop s raw) ≡ text_at j (place_at i raw)
  unfolding text_at room_at
  place_text j s n h p q =
      part_slice (i * 2336 + (32 + j * 256)) n raw s (s + n) p refl
      ∙ (ap (λ (u : ℕ). part (i * 2336 + (32 + j * 256)) u raw) q
      ∙ (ap (λ (u : ℕ). part (i * 2336 + (32 + j * 256)) (min 256 u) raw) (place_unit j (omega arith))
      ∙ (sym (take_part (unit_at j (place_at i raw)) (i * 2336 + (32 + j * 256)) 256 raw)
      ∙ ap (take (unit_at j (place_at i raw))) (sym (place_part (32 + j * 256) 256 (omega arith))))))

  -- a piece written over the memory inside the place
  pub changed_pasted : (n j : ℕ) (p : List ℕ) → n ≡ i * 2336 + j → j + length p ≤ 2336 → pasted raw n p ≡ changed i (λ q. pasted q j p) raw
  unfolding changed place_at
  changed_pasted n j p e h = rw e (sym (pasted_in_part raw (i * 2336) 2336 j p (omega arith) h))

  pub changed_none : changed i (λ q. place_at i raw) raw ≡ raw
  unfolding changed place_at
  changed_none = pasted_part (i * 2336) 2336 raw (omega arith)

  -- the place changed, and changed again, and put back
  module _ (f : List ℕ → List ℕ) (whole : length (f (place_at i raw)) ≡ 2336) where
    pub length_changed : length (changed i f raw) ≡ length raw
    unfolding changed
    length_changed = length_pasted raw (i * 2336) (f (place_at i raw)) (omega arith)

    pub place_changed : place_at i (changed i f raw) ≡ f (place_at i raw)
    unfolding changed place_at
    place_changed =
        ap (λ (k : ℕ). part (i * 2336) k (pasted raw (i * 2336) (f (part (i * 2336) 2336 raw)))) (sym whole)
        ∙ part_pasted raw (i * 2336) (f (part (i * 2336) 2336 raw)) (omega arith)

    -- every other place stays as it was
    pub place_kept : (j : ℕ) → j < place_count raw → (j ≡ i → ⊥) → place_at j (changed i f raw) ≡ place_at j raw
    unfolding changed place_at
    place_kept j h e = go (lt_or_le j i)
      where
        go : (j < i) ⊎ (i ≤ j) → part (j * 2336) 2336 (pasted raw (i * 2336) (f (part (i * 2336) 2336 raw))) ≡ part (j * 2336) 2336 raw
        go (inl u) = part_pasted_low raw (i * 2336) _ (j * 2336) 2336 (omega arith) (omega arith)
        go (inr u) = part_pasted_high raw (i * 2336) _ (j * 2336) 2336 (omega arith) (let v : i ≢ j = λ q. e (sym q) in omega arith)

    pub changed_again : (g : List ℕ → List ℕ) → length (g (f (place_at i raw))) ≡ 2336 → changed i g (changed i f raw) ≡ changed i (λ q. g (f q)) raw
    unfolding changed
    changed_again g w =
        ap (λ (q : List ℕ). pasted (changed i f raw) (i * 2336) (g q)) place_changed
        ∙ pasted_again raw (i * 2336) (f (place_at i raw)) (g (f (place_at i raw))) (omega arith) (omega arith)

    -- two writers of the place, one after the other
    pub changed_then : (g : List ℕ → List ℕ) {m o : List ℕ} → m ≡ changed i f raw → o ≡ changed i g m → length (g (f (place_at i raw))) ≡ 2336
        → o ≡ changed i (λ q. g (f q)) raw
    changed_then g e h w = h ∙ (ap (changed i g) e ∙ changed_again g w)

  -- the place holds w, and a writer makes it w'
  pub changed_step : (w w' : List ℕ) (g : List ℕ → List ℕ) {m o : List ℕ} → m ≡ changed i (λ q. w) raw → o ≡ changed i g m → g w ≡ w'
      → length w ≡ 2336 → length w' ≡ 2336 → o ≡ changed i (λ q. w') raw
  changed_step w w' g e h q u v =
      changed_then (λ x. w) u g e h (ap length q ∙ v) ∙ ap (λ (x : List ℕ). changed i (λ p. x) raw) q

  -- the place as it stands holds what it holds
  pub changed_start : (w : List ℕ) → place_at i raw ≡ w → raw ≡ changed i (λ q. w) raw
  changed_start w e = sym changed_none ∙ ap (λ (x : List ℕ). changed i (λ q. x) raw) e
