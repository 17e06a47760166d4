-- Laws of writing an entry into its place.
use mathlib.Core.Path.{◌≡◌, refl, sym, ap, ◌∙◌}
use mathlib.Core.Bool.{Bool, true, false}
use mathlib.Core.List.{List, [], ◌∷◌, ◌++◌, map}
use Prim.Native.Nat.{ℕ, ◌+◌, ◌-◌, ◌*◌, ◌≤◌, ◌<◌}
use native.Mathlib.Omega.{arith}
use lib.ListN.{length, get_or, drop, length-drop, drop_of_length-le}
use lib.Seq.{drop-cons}
use lib.Dec.{leb}
use borrow.Author.Tests.{leb-true, le-leb}
use native.Mathlib.Numerals.{add-one}
use mir.Val.{bool_byte}
use Rattle.cache.specs.order.Memory.{settings_units}
use Rattle.laws.specs.Choice.{choose}
use Rattle.laws.specs.Lists.{pasted, roomed, every}
use Rattle.laws.proofs.Choices.{and_left, and_right, and_both}
use Rattle.laws.proofs.Every.{every_drop, every_at}
use Rattle.laws.proofs.Pasting.{length_pasted, length_roomed}
use Rattle.reply_bytes.specs.texts.Code.{spanned, Inside}
use Rattle.reply_bytes.proofs.texts.UnitLaws.{length_spanned}
use Rattle.unc.specs.names.Paths.{Target}
use Rattle.cache.proofs.order.MemoryLaws.{length_blank}
use Rattle.reply_read.specs.declared.referral.Kept.{Kept}
use Rattle.cache.specs.places.Layout.{place_count, place_at, flag_unit, wide_units, blank, count_unit, mark_units}
use Rattle.cache.specs.places.Code.{changed, put_unit, put_text, put_settings}
use Rattle.cache.proofs.places.LayoutLaws.{length_place, changed_again, changed_none}
use Rattle.cache.proofs.places.WriterLaws.{length_put_unit, text_put}
use Rattle.reply_read.specs.referral.Code.{target_shown}
use Rattle.cache_entry.specs.write_entry.Code.{add_text, add_target, add_dc, add_all, begun, kept_fits, settings}

-- a flag as a number is its unit
pub flag_is : (b : Bool) {v : ℕ} → v ≡ bool_byte b → v ≡ flag_unit b
unfolding flag_unit choose
flag_is true e = e
flag_is false e = e

-- a change that leaves a place as long as it was
abbrev pub Keeps : (List ℕ → List ℕ) → Type 0
Keeps f = (q : List ℕ) → length q ≡ 2336 → length (f q) ≡ 2336

pub keeps_pasted : (j : ℕ) (p : List ℕ) → j + length p ≤ 2336 → Keeps (λ q. pasted q j p)
keeps_pasted j p h q e = length_pasted q j p (omega arith) ∙ e

pub keeps_unit : (j v : ℕ) → j < 2336 → Keeps (put_unit j v)
keeps_unit j v h q e = length_put_unit j v q e h

pub keeps_text : (n : ℕ) (t : List ℕ) → n < 9 → length t ≤ 256 → Keeps (put_text n t)
unfolding put_text
keeps_text n t h k q e =
    let l : length (roomed 256 t) ≡ 256 = length_roomed 256 t k in
    keeps_pasted (32 + n * 256) (roomed 256 t) (omega arith) (put_unit n (length t) q) (keeps_unit n (length t) (omega arith) q e)

pub keeps_both : (f g : List ℕ → List ℕ) → Keeps f → Keeps g → Keeps (λ q. g (f q))
keeps_both f g a b q e = b (f q) (a q e)

pub keeps_blank : Keeps (λ q. blank)
keeps_blank q e = length_blank

pub keeps_added : (n : ℕ) (t : List ℕ) → n < 9 → length t ≤ 256 → Keeps (add_text n t)
unfolding add_text
keeps_added n t h k = keeps_both (put_text n t) (put_unit count_unit n) (keeps_text n t h k) (keeps_unit count_unit n (omega arith))

-- a path, and a name, that fits its room
abbrev pub short : Target → Bool
short t = leb (length t.path) 256

abbrev pub short_name : List ℕ → Bool
short_name t = leb (length t) 256

pub keeps_target : (n : ℕ) (t : Target) → n < 8 → short t ≡ true → Keeps (add_target n t)
unfolding add_target
keeps_target n t h k =
    keeps_both (add_text (1 + n) t.path) (put_unit (mark_units + n) (flag_unit t.opens)) (keeps_added (1 + n) t.path (omega arith) (leb-true _ _ k)) (keeps_unit (mark_units + n) _ (omega arith))

pub keeps_dc : (n : ℕ) (t : List ℕ) → n < 8 → short_name t ≡ true → Keeps (add_dc n t)
unfolding add_dc
keeps_dc n t h k = keeps_added (1 + n) t (omega arith) (leb-true _ _ k)

-- kept targets
pub kept_inside_lem : (r : List ℕ) (k : Kept) → kept_fits r k ≡ true → Inside r k.path
unfolding kept_fits
kept_inside_lem r k h = leb-true _ _ (and_left (leb (k.path.from + 2 * k.path.units) (length r)) _ h)

pub kept_short : (r : List ℕ) (k : Kept) → kept_fits r k ≡ true → k.path.units ≤ 256
unfolding kept_fits
kept_short r k h = leb-true _ _ (and_right (leb (k.path.from + 2 * k.path.units) (length r)) _ h)

held_short : (r : List ℕ) (k : Kept) → kept_fits r k ≡ true → short (target_shown r k) ≡ true
unfolding target_shown
held_short r k h = le-leb (length (spanned r k.path)) 256 (rw (length_spanned r k.path) (kept_short r k h))

pub all_short : (r : List ℕ) (ks : List Kept) → every (kept_fits r) ks ≡ true → every short (map (target_shown r) ks) ≡ true
unfolding every
all_short r [] h = refl
all_short r (k ∷ ks) h = and_both (held_short r k (and_left (kept_fits r k) _ h)) (all_short r ks (and_right (kept_fits r k) _ h))

module _ (raw : List ℕ) (i : ℕ) (fits : i < place_count raw) where
  pub whole : (f : List ℕ → List ℕ) → Keeps f → length (f (place_at i raw)) ≡ 2336
  whole f a = a (place_at i raw) (length_place raw i fits)

  -- one change after another
  pub then_changed : (f g : List ℕ → List ℕ) → Keeps f → Keeps g → {m o : List ℕ} → m ≡ changed i f raw → o ≡ changed i g m → o ≡ changed i (λ q. g (f q)) raw
  then_changed f g a b e h =
      h ∙ (ap (changed i g) e ∙ changed_again raw i fits f (whole f a) g (whole (λ q. g (f q)) (keeps_both f g a b)))

  -- only what the change makes of the place counts
  pub changed_same : (f g : List ℕ → List ℕ) → f (place_at i raw) ≡ g (place_at i raw) → changed i f raw ≡ changed i g raw
  unfolding changed
  changed_same f g e = ap (pasted raw (i * 2336)) e

  pub text_added : (n units : ℕ) (t : List ℕ) {l m o : List ℕ} → units ≡ length t → l ≡ pasted raw (i * 2336 + n) (units ∷ [])
      → m ≡ pasted l (i * 2336 + 32 + n * 256) (roomed 256 t) → o ≡ changed i (put_unit count_unit n) m → n < 9 → length t ≤ 256 → o ≡ changed i (add_text n t) raw
  unfolding add_text
  text_added n units t u a b c h k =
      then_changed (put_text n t) (put_unit count_unit n) (keeps_text n t h k) (keeps_unit count_unit n (omega arith))
      (text_put raw i fits n t (a ∙ ap (λ (x : ℕ). pasted raw (i * 2336 + n) (x ∷ [])) u) b k h) c

  pub settings_written : (root interlink failback : Bool) (a b c x y : ℕ) {o : List ℕ} → a ≡ flag_unit root → b ≡ flag_unit interlink → c ≡ flag_unit failback
      → o ≡ changed i (put_settings (a ∷ b ∷ c ∷ (wide_units x ++ wide_units y))) raw → o ≡ changed i (put_settings (settings root interlink failback x y)) raw
  unfolding settings settings_units
  settings_written root interlink failback a b c x y u v w h = h ∙ (λ j. changed i (put_settings (u j ∷ v j ∷ w j ∷ (wide_units x ++ wide_units y))) raw)

  pub target_added : (n v : ℕ) (r : List ℕ) (k : Kept) {m o : List ℕ} → kept_fits r k ≡ true → n < 8 → v ≡ flag_unit k.opens
      → m ≡ changed i (add_text (1 + n) (spanned r k.path)) raw → o ≡ changed i (put_unit (mark_units + n) v) m → o ≡ changed i (add_target n (target_shown r k)) raw
  unfolding add_target target_shown
  target_added n v r k {m} f h e a c =
      then_changed (add_text (1 + n) (spanned r k.path)) (put_unit (mark_units + n) (flag_unit k.opens))
      (keeps_added (1 + n) (spanned r k.path) (omega arith) (rw (length_spanned r k.path) (kept_short r k f)))
      (keeps_unit (mark_units + n) (flag_unit k.opens) (omega arith)) a (c ∙ ap (λ (x : ℕ). changed i (put_unit (mark_units + n) x) m) e)

  pub entry_begun : (t : List ℕ) {m o : List ℕ} → m ≡ changed i (λ q. blank) raw → o ≡ changed i (add_text 0 t) m → length t ≤ 256 → o ≡ changed i (begun t) raw
  unfolding begun
  entry_begun t a c h = then_changed (λ q. blank) (add_text 0 t) keeps_blank (keeps_added 0 t (omega arith) h) a c

-- additions one after another, where one that fits keeps the place whole: a loop that makes them, and its end
module _ {A : Type 0} (add : ℕ → A → List ℕ → List ℕ) (fit : A → Bool) (keeps : (n : ℕ) (a : A) → n < 8 → fit a ≡ true → Keeps (add n a)) where
  pub keeps_all : (n : ℕ) (l : List A) → n + length l ≤ 8 → every fit l ≡ true → Keeps (add_all add n l)
  unfolding add_all every
  keeps_all n [] h k q e = e
  keeps_all n (a ∷ l) h k q e =
      keeps_all (n + 1) l (omega arith) (and_right (fit a) _ k) (add n a q) (keeps n a (omega arith) (and_left (fit a) _ k) q e)

  module _ (raw : List ℕ) (i : ℕ) (fits : i < place_count raw) where
    pub all_more : (all : List A) (n : ℕ) (a : A) {o : List ℕ} → n < length all → length all ≤ 8 → every fit all ≡ true
        → get_or all n a ≡ a → o ≡ changed i (add n a) raw
        → changed i (add_all add n (drop n all)) raw ≡ changed i (add_all add (n + 1) (drop (n + 1) all)) o
    unfolding add_all
    all_more all n a h u k e c =
        let d : drop n all ≡ a ∷ drop (n + 1) all = drop-cons all n a h ∙ rw (e, add-one n) in
        let l : length (drop (n + 1) all) ≡ length all - (n + 1) = length-drop (n + 1) all in
        let w : Keeps (add n a) = keeps n a (omega arith) (ap fit (sym e) ∙ every_at fit all k n a h) in
        rw d
        (sym (changed_again raw i fits (add n a) (whole raw i fits (add n a) w) (add_all add (n + 1) (drop (n + 1) all))
        (keeps_all (n + 1) (drop (n + 1) all) (omega arith) (every_drop fit (n + 1) all k) (add n a (place_at i raw)) (whole raw i fits (add n a) w)))
        ∙ ap (changed i (add_all add (n + 1) (drop (n + 1) all))) (sym c))

    pub all_done : (n : ℕ) (all : List A) {m : List ℕ} → m ≡ changed i (add_all add n (drop n all)) raw → length all ≤ n → raw ≡ m
    unfolding add_all
    all_done n all e h =
        sym
        (e ∙ (ap (λ (x : List A). changed i (add_all add n x) raw) (drop_of_length-le all h)
        ∙ (changed_same raw i fits (λ q. q) (λ q. place_at i raw) refl ∙ changed_none raw i fits)))
