-- Laws of the writers of a place: what each wrote is a change of that place alone.
use mathlib.Core.Path.{◌≡◌, refl, ap, ◌∙◌}
use mathlib.Core.List.{List, [], ◌∷◌, ◌++◌, append-nil}
use Prim.Native.Nat.{ℕ, ◌+◌, ◌-◌, ◌*◌, ◌/◌, ◌%◌, ◌≤◌, ◌<◌}
use native.Mathlib.Nat.{zero-add}
use native.Mathlib.Omega.{arith}
use lib.ListN.{length, take, drop, replicate, drop_of_length-le, length-replicate}
use Rattle.laws.specs.Lists.{pasted, roomed}
use Rattle.laws.proofs.Pasting.{length_pasted, pasted_join, length_roomed}
use Rattle.laws.proofs.Parts.{part_slice}
use Rattle.cache.specs.places.Layout.{place_count, place_at, wide_units, blank, root_unit, interlink_unit, failback_unit, ttl_unit, taken_unit}
use Rattle.cache.specs.places.Code.{changed, put_unit, put_wide, put_text, put_settings, key_only}
use Rattle.cache.proofs.places.LayoutLaws.{length_place, changed_pasted, changed_then}

pub length_put_unit : (j v : ℕ) (piece : List ℕ) → length piece ≡ 2336 → j < 2336 → length (put_unit j v piece) ≡ 2336
unfolding put_unit
length_put_unit j v piece e h = length_pasted piece j (v ∷ []) (omega arith) ∙ e

-- a piece as long as what it is written over
pasted_over : (d p : List ℕ) → length d ≡ length p → pasted d 0 p ≡ p
unfolding pasted
pasted_over d p h =
    rw (zero-add (length p)) (ap (λ (x : List ℕ). p ++ x) (drop_of_length-le d {i = length p} (omega arith)) ∙ append-nil p)

module _ (raw : List ℕ) (i : ℕ) (fits : i < place_count raw) where
  pub unit_put : (j v : ℕ) {m : List ℕ} → m ≡ pasted raw (i * 2336 + j) (v ∷ []) → j < 2336 → m ≡ changed i (put_unit j v) raw
  unfolding put_unit
  unit_put j v e h = e ∙ changed_pasted raw i fits (i * 2336 + j) j (v ∷ []) refl (omega arith)

  pub wide_put : (j v : ℕ) {m o : List ℕ} → m ≡ pasted raw (i * 2336 + j) (v % 65536 ∷ []) → o ≡ pasted m (i * 2336 + j + 1) (v / 65536 ∷ [])
      → j + 1 < 2336 → o ≡ changed i (put_wide j v) raw
  unfolding put_wide
  wide_put j v e f h =
      f ∙ (ap (λ (x : List ℕ). pasted x (i * 2336 + j + 1) (v / 65536 ∷ [])) e
      ∙ (pasted_join raw (i * 2336 + j) (v % 65536 ∷ []) (v / 65536 ∷ []) (omega arith)
      ∙ changed_pasted raw i fits (i * 2336 + j) j (wide_units v) refl (omega arith)))

  pub place_put : (p : List ℕ) {m : List ℕ} → m ≡ pasted raw (i * 2336) p → m ≡ changed i (λ q. p) raw
  unfolding changed
  place_put p e = e

  pub place_cleared : (n : ℕ) {m : List ℕ} → m ≡ pasted raw (i * 2336) (replicate n 0) → n ≡ 2336 → m ≡ changed i (λ q. blank) raw
  unfolding changed blank
  place_cleared n e h = e ∙ ap (λ (k : ℕ). pasted raw (i * 2336) (replicate k 0)) h

  -- the slice that is place i
  pub slice_place : take (i * 2336 + 2336 - i * 2336) (drop (i * 2336) raw) ≡ place_at i raw
  unfolding place_at
  slice_place = part_slice (i * 2336) 2336 raw (i * 2336) (i * 2336 + 2336) refl refl

  pub place_saved : (d : List ℕ) {m : List ℕ} → m ≡ pasted d 0 (take (i * 2336 + 2336 - i * 2336) (drop (i * 2336) raw)) → length d ≡ 2336 → m ≡ place_at i raw
  place_saved d e h =
      let l : length (place_at i raw) ≡ 2336 = length_place raw i fits in
      e ∙ (ap (λ (p : List ℕ). pasted d 0 p) slice_place ∙ pasted_over d (place_at i raw) (omega arith))

  -- two pieces written into the place
  two_pieces : (j : ℕ) (p : List ℕ) (k : ℕ) (r : List ℕ) {m o : List ℕ} → m ≡ changed i (λ q. pasted q j p) raw → o ≡ changed i (λ q. pasted q k r) m
      → j + length p ≤ 2336 → k + length r ≤ 2336 → o ≡ changed i (λ q. pasted (pasted q j p) k r) raw
  two_pieces j p k r e f h u =
      let w : length (place_at i raw) ≡ 2336 = length_place raw i fits in
      let v : length (pasted (place_at i raw) j p) ≡ 2336 = length_pasted (place_at i raw) j p (omega arith) ∙ w in
      changed_then raw i fits (λ q. pasted q j p) v (λ q. pasted q k r) e f (length_pasted (pasted (place_at i raw) j p) k r (omega arith) ∙ v)

  -- that touch
  touching : (j : ℕ) (p : List ℕ) (k : ℕ) (r : List ℕ) {m o : List ℕ} → m ≡ changed i (λ q. pasted q j p) raw → o ≡ changed i (λ q. pasted q k r) m
      → k ≡ j + length p → k + length r ≤ 2336 → o ≡ changed i (λ q. pasted q j (p ++ r)) raw
  unfolding changed
  touching j p k r e f h u =
      let w : length (place_at i raw) ≡ 2336 = length_place raw i fits in
      two_pieces j p k r e f (omega arith) u
      ∙ ap (λ (q : List ℕ). pasted raw (i * 2336) q)
      (ap (λ (x : ℕ). pasted (pasted (place_at i raw) j p) x r) h ∙ pasted_join (place_at i raw) j p r (omega arith))

  -- two pieces written over the memory inside the place
  raw_pieces : (j : ℕ) (p : List ℕ) (k n : ℕ) (r : List ℕ) {m o : List ℕ} → m ≡ pasted raw (i * 2336 + j) p → o ≡ pasted m n r → n ≡ i * 2336 + k
      → j + length p ≤ 2336 → k + length r ≤ 2336 → o ≡ changed i (λ q. pasted (pasted q j p) k r) raw
  raw_pieces j p k n r {m} e f h u v =
      let l : length m ≡ length raw = ap length e ∙ length_pasted raw (i * 2336 + j) p (omega arith) in
      two_pieces j p k r
      (e ∙ changed_pasted raw i fits (i * 2336 + j) j p refl u)
      (f ∙ changed_pasted m i (omega arith) n k r h v)
      u v

  pub text_put : (j : ℕ) (t : List ℕ) {m o : List ℕ} → m ≡ pasted raw (i * 2336 + j) (length t ∷ [])
      → o ≡ pasted m (i * 2336 + 32 + j * 256) (roomed 256 t) → length t ≤ 256 → j < 9 → o ≡ changed i (put_text j t) raw
  unfolding put_text put_unit
  text_put j t e f u h =
      let l : length (roomed 256 t) ≡ 256 = length_roomed 256 t u in
      raw_pieces j (length t ∷ []) (32 + j * 256) (i * 2336 + 32 + j * 256) (roomed 256 t) e f (omega arith) (omega arith) (omega arith)

  -- all but the key made zero
  pub key_kept : (n k : ℕ) {m o : List ℕ} → m ≡ pasted raw (i * 2336 + 1) (replicate n 0) → o ≡ pasted m (i * 2336 + 32 + 256) (replicate k 0)
      → n ≡ 31 → k ≡ 2048 → o ≡ changed i key_only raw
  unfolding key_only
  key_kept n k e f p q =
      let a : length (replicate {A = ℕ} n 0) ≡ n = length-replicate n 0 in
      let b : length (replicate {A = ℕ} k 0) ≡ k = length-replicate k 0 in
      raw_pieces 1 (replicate n 0) 288 (i * 2336 + 32 + 256) (replicate k 0) e f (omega arith) (omega arith) (omega arith)
      ∙ (λ j. changed i (λ x. pasted (pasted x 1 (replicate (p j) 0)) 288 (replicate (q j) 0)) raw)

  -- settings, one after the other
  pub settings_put : (a b c d e : ℕ) {m₁ m₂ m₃ m₄ o : List ℕ} → m₁ ≡ changed i (put_unit root_unit a) raw → m₂ ≡ changed i (put_unit interlink_unit b) m₁
      → m₃ ≡ changed i (put_unit failback_unit c) m₂ → m₄ ≡ changed i (put_wide ttl_unit d) m₃ → o ≡ changed i (put_wide taken_unit e) m₄
      → o ≡ changed i (put_settings (a ∷ b ∷ c ∷ (wide_units d ++ wide_units e))) raw
  unfolding put_unit put_wide put_settings
  settings_put a b c d e h₁ h₂ h₃ h₄ h =
      touching root_unit (a ∷ b ∷ c ∷ wide_units d) taken_unit (wide_units e)
      (touching root_unit (a ∷ b ∷ c ∷ []) ttl_unit (wide_units d)
      (touching root_unit (a ∷ b ∷ []) failback_unit (c ∷ []) (touching root_unit (a ∷ []) interlink_unit (b ∷ []) h₁ h₂ refl (omega arith)) h₃ refl (omega arith))
      h₄ refl (omega arith))
      h refl (omega arith)
