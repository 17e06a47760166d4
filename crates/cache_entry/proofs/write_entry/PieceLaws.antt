-- Laws of the writers on one place: what they write is `written` of the texts, hint, boundaries and settings of an entry.
use mathlib.Core.Path.{◌≡◌, refl, ap, ◌∙◌}
use mathlib.Core.Bool.{true}
use mathlib.Core.List.{List, [], ◌∷◌, ◌++◌, map, append_assoc, append-nil}
use Prim.Native.Nat.{ℕ, ◌+◌, ◌≤◌, ◌<◌}
use native.Mathlib.Omega.{arith}
use lib.ListN.{length, length-append}
use borrow.Author.Tests.{leb-true}
use Rattle.laws.specs.Lists.{every}
use Rattle.laws.proofs.Choices.{and_left, and_right}
use Rattle.cache.specs.places.Layout.{written, flag_unit, count_unit, mark_units}
use Rattle.cache.specs.places.Code.{put_unit, put_text}
use Rattle.cache.proofs.places.WrittenLaws.{Shaped}
use Rattle.cache.proofs.places.PutLaws.{put_text_lem, put_mark, shape_text, shape_mark, blank_written}
use Rattle.unc.specs.names.Paths.{Target}
use Rattle.cache_entry.specs.write_entry.Code.{add_text, add_target, add_dc, add_all, begun}
use Rattle.cache_entry.proofs.write_entry.WritingLaws.{short, short_name}

-- the paths of targets, and their boundaries as units
abbrev pub paths_of : List Target → List (List ℕ)
paths_of ts = map (λ t. t.path) ts

abbrev pub marks_of : List Target → List ℕ
marks_of ts = map (λ t. flag_unit t.opens) ts

module _ (key : List ℕ) (ps : List (List ℕ)) (hint : ℕ) (ms ss : List ℕ) (n : ℕ) (t : Target) (h : Shaped (key ∷ ps) ms ss)
    (lp : length ps ≡ n) (lm : length ms ≡ n) (few : n < 8) (k : length t.path ≤ 256) where
  target_shape : Shaped (key ∷ (ps ++ (t.path ∷ []))) (ms ++ (flag_unit t.opens ∷ [])) ss
  target_shape = shape_mark (key ∷ (ps ++ (t.path ∷ []))) hint ms ss (shape_text (key ∷ ps) hint ms ss h t.path (omega arith) k) (flag_unit t.opens) (omega arith)

  target_written : add_target n t (written (key ∷ ps) hint ms ss) ≡ written (key ∷ (ps ++ (t.path ∷ []))) hint (ms ++ (flag_unit t.opens ∷ [])) ss
  unfolding add_target add_text
  target_written =
      let e : 1 + n ≡ length (key ∷ ps) = omega arith in
      let f : mark_units + n ≡ mark_units + length ms = omega arith in
      ap (λ (x : ℕ). put_unit (mark_units + n) (flag_unit t.opens) (put_unit count_unit x (put_text x t.path (written (key ∷ ps) hint ms ss)))) e
      ∙ (ap (put_unit (mark_units + n) (flag_unit t.opens)) (put_text_lem (key ∷ ps) hint ms ss h t.path (omega arith) k)
      ∙ (ap (λ (x : ℕ). put_unit x (flag_unit t.opens) (written (key ∷ (ps ++ (t.path ∷ []))) hint ms ss)) f
      ∙ put_mark (key ∷ (ps ++ (t.path ∷ []))) hint ms ss (shape_text (key ∷ ps) hint ms ss h t.path (omega arith) k) (flag_unit t.opens) (omega arith)))

pub targets_written : (key : List ℕ) (ps : List (List ℕ)) (hint : ℕ) (ms ss : List ℕ) (n : ℕ) (ts : List Target) → Shaped (key ∷ ps) ms ss
    → length ps ≡ n → length ms ≡ n → n + length ts ≤ 8 → every short ts ≡ true
    → (add_all add_target n ts (written (key ∷ ps) hint ms ss) ≡ written (key ∷ (ps ++ paths_of ts)) hint (ms ++ marks_of ts) ss)
    × Shaped (key ∷ (ps ++ paths_of ts)) (ms ++ marks_of ts) ss
unfolding add_all every
targets_written key ps hint ms ss n [] h lp lm few k = rw (append-nil ps, append-nil ms) (refl, h)
targets_written key ps hint ms ss n (t ∷ ts) h lp lm few k =
    let s : length t.path ≤ 256 = leb-true _ _ (and_left (short t) _ k) in
    let r = targets_written key (ps ++ (t.path ∷ [])) hint (ms ++ (flag_unit t.opens ∷ [])) ss (n + 1) ts
    (target_shape key ps hint ms ss n t h lp lm (omega arith) s)
    (simp length-append (omega arith)) (simp length-append (omega arith)) (omega arith) (and_right (short t) _ k) in
    let a = append_assoc ps (t.path ∷ []) (paths_of ts) in
    let b = append_assoc ms (flag_unit t.opens ∷ []) (marks_of ts) in (
      ap (add_all add_target (n + 1) ts) (target_written key ps hint ms ss n t h lp lm (omega arith) s) ∙ (r.0 ∙ (λ i. written (key ∷ a i) hint (b i) ss)),
      rw (← a, ← b) r.1,
    )

-- DCs into a place without marks and settings
pub dcs_written : (key : List ℕ) (ps : List (List ℕ)) (hint n : ℕ) (ts : List (List ℕ)) → Shaped (key ∷ ps) [] [] → length ps ≡ n → n + length ts ≤ 8
    → every short_name ts ≡ true → add_all add_dc n ts (written (key ∷ ps) hint [] []) ≡ written (key ∷ (ps ++ ts)) hint [] []
unfolding add_all add_dc add_text every
dcs_written key ps hint n [] h l few k = rw (append-nil ps)
dcs_written key ps hint n (t ∷ ts) h l few k =
    let s : length t ≤ 256 = leb-true _ _ (and_left (short_name t) _ k) in
    let e : 1 + n ≡ length (key ∷ ps) = omega arith in
    ap (add_all add_dc (n + 1) ts)
    (ap (λ (x : ℕ). put_unit count_unit x (put_text x t (written (key ∷ ps) hint [] []))) e ∙ put_text_lem (key ∷ ps) hint [] [] h t (omega arith) s)
    ∙ (dcs_written key (ps ++ (t ∷ [])) hint (n + 1) ts (shape_text (key ∷ ps) hint [] [] h t (omega arith) s)
    (simp length-append (omega arith)) (omega arith) (and_right (short_name t) _ k)
    ∙ ap (λ (x : List (List ℕ)). written (key ∷ x) hint [] []) (append_assoc ps (t ∷ []) ts))

-- a place with its key alone
pub key_shape_lem : (key : List ℕ) → length key ≤ 256 → Shaped (key ∷ []) [] []
key_shape_lem key h = shape_text [] 0 [] [] (record { few_texts = omega arith; short = λ j. omega arith; few_marks = omega arith; few_settings = omega arith }) key (omega arith) h

pub begun_written : (key q : List ℕ) → length key ≤ 256 → begun key q ≡ written (key ∷ []) 0 [] []
unfolding begun add_text
begun_written key q h =
    ap (λ (x : List ℕ). put_unit count_unit 0 (put_text 0 key x)) blank_written
    ∙ put_text_lem [] 0 [] [] (record { few_texts = omega arith; short = λ j. omega arith; few_marks = omega arith; few_settings = omega arith }) key (omega arith) h
