-- Laws of pieces, and of the loops over a path's text.
use mathlib.Core.Path.{◌≡◌, refl, sym, ap, ap₂, ◌∙◌, subst}
use mathlib.Core.Bool.{Bool, true, false, not, true≢false}
use mathlib.Core.List.{List, [], ◌∷◌, ◌++◌}
use mathlib.Core.Logic.{◌⊎◌, inl, inr, ⊎_elim}
use Prim.Native.Nat.{ℕ, zero, suc, ◌+◌, ◌-◌, ◌≤◌, ◌<◌, zero-le}
use native.Mathlib.Nat.{not-suc-le-zero, zero-add}
use native.Mathlib.Numerals.{add-one}
use native.Mathlib.Omega.{arith}
use lib.Dec.{leb, eqb}
use lib.ListN.{length, get_or, take, drop, drop_of_length-le, length-drop}
use lib.Seq.{drop-cons, get_or-drop, take_all, drop-drop}
use borrow.Author.Tests.{eqb-true, eqb-false, eq-eqb, ne_eqb, le-leb, lt-leb}
use Rattle.laws.specs.Choice.{choose}
use Rattle.laws.specs.Lists.{every}
use Rattle.laws.proofs.Choices.{choose_yes, choose_no, and_left, and_right, and_no_left, and_no_right}
use Rattle.laws.proofs.Orders.{lt_or_le, told}
use Rattle.unc.specs.names.Names.{plain, nothing_or_dots, good_component, good_name, backslash}
use Rattle.unc.specs.names.Paths.{before, pieces, joined, components, component_count, first_of}
use Rattle.unc.specs.names.Code.{plain_length, good_count}
use Rattle.unc.proofs.names.NameLaws.{dots_none}

-- A text's pieces are never none: the first, and the others.
pub first_piece : List ℕ → List ℕ
first_piece s = get_or (pieces s) 0 []

pub more_pieces : List ℕ → List (List ℕ)
more_pieces s = drop 1 (pieces s)

before_some : (b : Bool) (u : ℕ) (ps : List (List ℕ)) → before b u ps ≡ get_or (before b u ps) 0 [] ∷ drop 1 (before b u ps)
unfolding before
before_some true u ps = refl
before_some false u [] = refl
before_some false u (p ∷ ps) = refl

pub pieces_some : (s : List ℕ) → pieces s ≡ first_piece s ∷ more_pieces s
unfolding pieces first_piece more_pieces
pieces_some [] = refl
pieces_some (u ∷ s) = before_some (eqb u backslash) u (pieces s)

pub pieces_nil : pieces [] ≡ [] ∷ []
unfolding pieces
pieces_nil = refl

-- the two ways of a unit more
pub pieces_parted : (u : ℕ) (s : List ℕ) → u ≡ 92 → pieces (u ∷ s) ≡ [] ∷ pieces s
unfolding pieces before
pieces_parted u s h = rw (eq-eqb u 92 h)

pub pieces_longer : (u : ℕ) (s : List ℕ) → (u ≡ 92 → ⊥) → pieces (u ∷ s) ≡ (u ∷ first_piece s) ∷ more_pieces s
unfolding pieces before
pieces_longer u s h = ap (λ (b : Bool). before b u (pieces s)) (ne_eqb u 92 h) ∙ ap (before false u) (pieces_some s)

pub first_longer : (u : ℕ) (s : List ℕ) → (u ≡ 92 → ⊥) → first_piece (u ∷ s) ≡ u ∷ first_piece s
unfolding first_piece
first_longer u s h = ap (λ (ps : List (List ℕ)). get_or ps 0 []) (pieces_longer u s h)

-- a unit is a backslash or it is not
pub parts : (u : ℕ) → (u ≡ 92) ⊎ (u ≡ 92 → ⊥)
parts u = ⊎_elim (λ e. inl (eqb-true u 92 e)) (λ e. inr (eqb-false u 92 e)) (told (eqb u 92))

-- a backslash parts the pieces of what stands before it from those of what stands after it
pieces_append_step : (u : ℕ) (s t : List ℕ) → pieces (s ++ (92 ∷ t)) ≡ pieces s ++ pieces t → (u ≡ 92) ⊎ (u ≡ 92 → ⊥)
    → pieces (u ∷ (s ++ (92 ∷ t))) ≡ pieces (u ∷ s) ++ pieces t
unfolding first_piece more_pieces
pieces_append_step u s t h (inl e) = rw (pieces_parted u (s ++ (92 ∷ t)) e, pieces_parted u s e, h)
pieces_append_step u s t h (inr e) = rw (pieces_longer u (s ++ (92 ∷ t)) e, pieces_longer u s e, h, pieces_some s)

pub pieces_append : (s t : List ℕ) → pieces (s ++ (92 ∷ t)) ≡ pieces s ++ pieces t
pieces_append [] t = rw (pieces_parted 92 t refl, pieces_nil)
pieces_append (u ∷ s) t = pieces_append_step u s t (pieces_append s t) (parts u)

-- a plain unit is no backslash, and what is neither plain nor a backslash is in no good component
pub plain_parts : (u : ℕ) → plain u ≡ true → u ≡ 92 → ⊥
unfolding plain
plain_parts u h e = true≢false (sym h ∙ rw (eq-eqb u 92 e))

-- a text without a backslash is one piece
pub pieces_plain : (s : List ℕ) → every plain s ≡ true → pieces s ≡ s ∷ []
unfolding every first_piece more_pieces
pieces_plain [] h = pieces_nil
pieces_plain (u ∷ s) h =
    pieces_longer u s (plain_parts u (and_left (plain u) _ h)) ∙ rw (pieces_plain s (and_right (plain u) _ h))

-- Scanning a component: the units before the first that may not stand in one.
scan_yes : (u : ℕ) (s : List ℕ) → plain u ≡ true → plain_length (u ∷ s) ≡ suc (plain_length s)
unfolding plain_length
scan_yes u s h = choose_yes (suc (plain_length s)) 0 h

scan_no : (u : ℕ) (s : List ℕ) → plain u ≡ false → plain_length (u ∷ s) ≡ 0
unfolding plain_length
scan_no u s h = choose_no (suc (plain_length s)) 0 h

scan_nil : plain_length [] ≡ 0
unfolding plain_length
scan_nil = refl

module _ (s : List ℕ) (i : ℕ) where
  pub plain_hit : {r : Bool} → i < length s → r ≡ plain (get_or s i 0) → r ≡ true → i + plain_length (drop i s) ≡ i + 1 + plain_length (drop (i + 1) s)
  plain_hit h e k = rw (add-one i, drop-cons s i 0 h, scan_yes (get_or s i 0) (drop (suc i) s) (sym e ∙ k)) (omega arith)

  pub plain_miss : {r : Bool} → i < length s → r ≡ plain (get_or s i 0) → r ≡ false → i + plain_length (drop i s) ≡ i
  plain_miss h e k = rw (drop-cons s i 0 h, scan_no (get_or s i 0) (drop (suc i) s) (sym e ∙ k)) (omega arith)

  pub plain_over : length s ≤ i → i + plain_length (drop i s) ≡ i
  plain_over h = rw (drop_of_length-le s h, scan_nil) (omega arith)

plain_length_le : (t : List ℕ) → plain_length t ≤ length t
plain_length_le [] = rw scan_nil zero-le
plain_length_le (u ∷ t) = go (told (plain u)) (plain_length_le t)
  where
    go : (plain u ≡ true) ⊎ (plain u ≡ false) → plain_length t ≤ length t → plain_length (u ∷ t) ≤ suc (length t)
    go (inl h) k = rw (scan_yes u t h) (omega arith)
    go (inr h) k = rw (scan_no u t h) zero-le

scanned_plain : (t : List ℕ) → every plain (take (plain_length t) t) ≡ true
unfolding every
scanned_plain [] = rw scan_nil
scanned_plain (u ∷ t) = go (told (plain u)) (scanned_plain t)
  where
    go : (plain u ≡ true) ⊎ (plain u ≡ false) → every plain (take (plain_length t) t) ≡ true → every plain (take (plain_length (u ∷ t)) (u ∷ t)) ≡ true
    go (inl h) k = rw (scan_yes u t h, h, k)
    go (inr h) k = rw (scan_no u t h)

scanned_whole : (t : List ℕ) → length t ≤ plain_length t → every plain t ≡ true
scanned_whole t h = ap (every plain) (sym (take_all (plain_length t) t h)) ∙ scanned_plain t

scanned_parted : (t : List ℕ) → plain_length t < length t → get_or t (plain_length t) 0 ≡ 92
    → pieces t ≡ take (plain_length t) t ∷ pieces (drop (suc (plain_length t)) t)
scanned_parted t h e =
    ap pieces (lib.Seq.split_at t (plain_length t) 0 h)
    ∙ (ap (λ (u : ℕ). pieces (take (plain_length t) t ++ (u ∷ drop (suc (plain_length t)) t))) e
    ∙ (pieces_append (take (plain_length t) t) (drop (suc (plain_length t)) t)
    ∙ ap (λ (x : List (List ℕ)). x ++ pieces (drop (suc (plain_length t)) t)) (pieces_plain _ (scanned_plain t))))

-- a unit that is neither plain nor a backslash spoils the first piece
scanned_spoilt : (t : List ℕ) → plain_length t < length t → (get_or t (plain_length t) 0 ≡ 92 → ⊥) → every plain (first_piece t) ≡ false
unfolding every
scanned_spoilt [] h e = absurd (not-suc-le-zero h)
scanned_spoilt (u ∷ t) h e = go (told (plain u)) (scanned_spoilt t)
  where
    go : (plain u ≡ true) ⊎ (plain u ≡ false)
        → (plain_length t < length t → (get_or t (plain_length t) 0 ≡ 92 → ⊥) → every plain (first_piece t) ≡ false)
        → every plain (first_piece (u ∷ t)) ≡ false
    go (inl p) k =
        let q : plain_length (u ∷ t) ≡ suc (plain_length t) = scan_yes u t p in
        rw (first_longer u t (plain_parts u p))
        (and_no_right (plain u) (k (omega arith) (λ z. e (ap (λ (n : ℕ). get_or (u ∷ t) n 0) q ∙ z))))
    go (inr p) k =
        rw (first_longer u t (λ z. e (ap (λ (n : ℕ). get_or (u ∷ t) n 0) (scan_no u t p) ∙ z)))
        (and_no_left (every plain (first_piece t)) p)

scanned_all : (t : List ℕ) → every plain t ≡ true → plain_length t ≡ length t
unfolding every
scanned_all [] h = scan_nil
scanned_all (u ∷ t) h = scan_yes u t (and_left (plain u) _ h) ∙ ap suc (scanned_all t (and_right (plain u) _ h))

scanned_not : (t : List ℕ) → every plain t ≡ false → plain_length t < length t
scanned_not t h = go (lt_or_le (plain_length t) (length t))
  where
    go : (plain_length t < length t) ⊎ (length t ≤ plain_length t) → plain_length t < length t
    go (inl k) = k
    go (inr k) = absurd (true≢false (sym (scanned_whole t k) ∙ h))

pub scanned_test : (t : List ℕ) (e : ℕ) → e ≡ plain_length t → leb (length t) e ≡ every plain t
scanned_test t e f = go (told (every plain t))
  where
    go : (every plain t ≡ true) ⊎ (every plain t ≡ false) → leb (length t) e ≡ every plain t
    go (inl h) = le-leb (length t) e (omega (arith, scanned_all t h)) ∙ sym h
    go (inr h) = lt-leb (length t) e (omega (arith, scanned_not t h)) ∙ sym h

-- a good component, and two that are none
pub good_of : (c : List ℕ) → nothing_or_dots c ≡ false → every plain c ≡ true → good_component c ≡ true
unfolding good_component
good_of c h k = rw (h, k)

pub bad_dots : (c : List ℕ) → nothing_or_dots c ≡ true → good_component c ≡ false
unfolding good_component
bad_dots c h = rw h

pub bad_units : (c : List ℕ) → every plain c ≡ false → good_component c ≡ false
unfolding good_component
bad_units c h = and_no_right (not (nothing_or_dots c)) h

-- a component by its scan from the start
pub component_dots : (c : List ℕ) {r : Bool} → r ≡ nothing_or_dots c → r ≡ true → false ≡ good_component c
component_dots c e h = sym (bad_dots c (sym e ∙ h))

pub component_scan : (c : List ℕ) {r : Bool} (e : ℕ) → r ≡ nothing_or_dots c → r ≡ false → e ≡ 0 + plain_length (drop 0 c) → leb (length c) e ≡ good_component c
unfolding good_component
component_scan c e f h g = scanned_test c e (g ∙ zero-add (plain_length c)) ∙ rw (← f, h)

pub name_long : (c : List ℕ) → 255 < length c → false ≡ good_name c
unfolding good_name
name_long c h = rw (lt-leb (length c) 255 h)

pub name_fits_lem : (c : List ℕ) {r : Bool} → length c ≤ 255 → r ≡ good_component c → r ≡ good_name c
unfolding good_name
name_fits_lem c h e = rw (le-leb (length c) 255 h) e

-- counting over pieces that are known
good_first : (n : ℕ) (s t : List ℕ) {c : List ℕ} → pieces s ≡ c ∷ pieces t → good_component c ≡ true → good_count n s ≡ good_count (n + 1) t
unfolding good_count every
good_first n s t e h = rw (e, h, add-one n) (ap (λ (m : ℕ). choose (every good_component (pieces t)) m 0) (omega arith))

good_only : (n : ℕ) (s : List ℕ) {c : List ℕ} → pieces s ≡ c ∷ [] → good_component c ≡ true → good_count n s ≡ n + 1
unfolding good_count every choose
good_only n s e h = rw (e, h)

bad_first : (n : ℕ) (s : List ℕ) {c : List ℕ} {ps : List (List ℕ)} → pieces s ≡ c ∷ ps → good_component c ≡ false → good_count n s ≡ 0
unfolding good_count every choose
bad_first n s e h = rw (e, h)

-- a first piece that is no good component
spoilt : (t : List ℕ) → good_component (first_piece t) ≡ false → every good_component (pieces t) ≡ false
unfolding every
spoilt t h = rw pieces_some (and_no_left _ h)

-- Counting good components, one scan at a time: from `from` to `to`.
module _ (s : List ℕ) (from to n : ℕ) (k : from ≤ length s) (e : to ≡ from + plain_length (drop from s)) where
  scanned_to : to - from ≡ plain_length (drop from s)
  scanned_to = omega arith

  pub scan_within : to ≤ length s
  scan_within = omega (arith, plain_length_le (drop from s), length-drop from s)

  -- a piece that is not empty
  pub scan_some : {r : Bool} → r ≡ nothing_or_dots (take (to - from) (drop from s)) → r ≡ false → from < to
  scan_some f g = go (lt_or_le from to)
    where
      go : (from < to) ⊎ (to ≤ from) → from < to
      go (inl h) = h
      go (inr h) =
          let z : to - from ≡ 0 = omega arith in
          absurd (true≢false (dots_none (take (to - from) (drop from s)) (ap (λ (n : ℕ). length (take n (drop from s))) z) ∙ (sym f ∙ g)))

  scan_over : length s ≤ to → length (drop from s) ≤ plain_length (drop from s)
  scan_over h = simp length-drop (omega arith)

  scan_under : to < length s → plain_length (drop from s) < length (drop from s)
  scan_under h = simp length-drop (omega arith)

  scan_unit : get_or (drop from s) (plain_length (drop from s)) 0 ≡ get_or s to 0
  scan_unit = get_or-drop from s (plain_length (drop from s)) 0 ∙ ap (λ (i : ℕ). get_or s i 0) (sym e)

  pub count_bad : to < length s → (get_or s to 0 ≡ 92 → ⊥) → good_count n (drop from s) ≡ 0
  unfolding good_count
  count_bad h x =
      choose_no (n + length (pieces (drop from s))) 0
      (spoilt (drop from s) (bad_units _ (scanned_spoilt (drop from s) (scan_under h) (λ z. x (sym scan_unit ∙ z)))))

  pub count_next : {r : Bool} → r ≡ nothing_or_dots (take (to - from) (drop from s)) → r ≡ false → to < length s → get_or s to 0 ≡ 92
      → good_count n (drop from s) ≡ good_count (n + 1) (drop (to + 1) s)
  count_next f g h x =
      let t : pieces (drop from s) ≡ take (to - from) (drop from s) ∷ pieces (drop (to + 1) s) =
      let j : from + suc (plain_length (drop from s)) ≡ to + 1 = omega arith in
      scanned_parted (drop from s) (scan_under h) (scan_unit ∙ x)
      ∙ ap₂ {C = List (List ℕ)} (λ (a : ℕ) (b : List ℕ). take a (drop from s) ∷ pieces b) (sym scanned_to)
      (drop-drop (suc (plain_length (drop from s))) from s ∙ ap (λ (i : ℕ). drop i s) j) in
      good_first n _ _ t (good_of _ (sym f ∙ g) (subst (λ (a : ℕ). every plain (take a (drop from s)) ≡ true) (sym scanned_to) (scanned_plain (drop from s))))

  pub count_last : {r : Bool} → r ≡ nothing_or_dots (take (to - from) (drop from s)) → r ≡ false → length s ≤ to → good_count n (drop from s) ≡ n + 1
  count_last f g h =
      let p : every plain (drop from s) ≡ true = scanned_whole (drop from s) (scan_over h) in
      let q : take (to - from) (drop from s) ≡ drop from s = take_all (to - from) (drop from s) (simp length-drop (omega arith)) in
      good_only n _ (pieces_plain (drop from s) p) (good_of _ (ap nothing_or_dots (sym q) ∙ (sym f ∙ g)) p)

  pub count_dots : {r : Bool} → r ≡ nothing_or_dots (take (to - from) (drop from s)) → r ≡ true → good_count n (drop from s) ≡ 0
  count_dots f g = go (lt_or_le to (length s)) (parts (get_or s to 0))
    where
      go : (to < length s) ⊎ (length s ≤ to) → (get_or s to 0 ≡ 92) ⊎ (get_or s to 0 ≡ 92 → ⊥) → good_count n (drop from s) ≡ 0
      go (inl h) (inl x) =
          let t : pieces (drop from s) ≡ take (to - from) (drop from s) ∷ pieces (drop (suc (plain_length (drop from s))) (drop from s)) =
          scanned_parted (drop from s) (scan_under h) (scan_unit ∙ x)
          ∙ ap {B = List (List ℕ)} (λ (a : ℕ). take a (drop from s) ∷ pieces (drop (suc (plain_length (drop from s))) (drop from s))) (sym scanned_to) in
          bad_first n _ t (bad_dots _ (sym f ∙ g))
      go (inl h) (inr x) = count_bad h x
      go (inr h) x =
          let p : every plain (drop from s) ≡ true = scanned_whole (drop from s) (scan_over h) in
          let q : take (to - from) (drop from s) ≡ drop from s = take_all (to - from) (drop from s) (simp length-drop (omega arith)) in
          bad_first n _ (pieces_plain (drop from s) p) (bad_dots _ (ap nothing_or_dots (sym q) ∙ (sym f ∙ g)))

-- Counting components: a backslash opens one.
pub length_pieces : (s : List ℕ) → length (pieces s) ≡ suc (component_count s)
unfolding component_count components more_pieces
length_pieces s = ap length (pieces_some s)

pub count_backslash : (u : ℕ) (s : List ℕ) → u ≡ 92 → component_count (u ∷ s) ≡ suc (component_count s)
unfolding component_count components
count_backslash u s h = ap (λ (ps : List (List ℕ)). length (drop 1 ps)) (pieces_parted u s h) ∙ length_pieces s

pub count_other : (u : ℕ) (s : List ℕ) → (u ≡ 92 → ⊥) → component_count (u ∷ s) ≡ component_count s
unfolding component_count components more_pieces
count_other u s h = ap (λ (ps : List (List ℕ)). length (drop 1 ps)) (pieces_longer u s h)

pub count_nil : component_count [] ≡ 0
unfolding component_count components
count_nil = ap (λ (ps : List (List ℕ)). length (drop 1 ps)) pieces_nil

-- The first k components as a text: unit by unit.
joined_some : (p : List ℕ) (s : List ℕ) (k : ℕ) → joined (p ∷ take (suc k) (pieces s)) ≡ p ++ (92 ∷ joined (take (suc k) (pieces s)))
unfolding joined
joined_some p s k = rw (pieces_some s)

joined_longer : (u : ℕ) (p : List ℕ) (ps : List (List ℕ)) → joined ((u ∷ p) ∷ ps) ≡ u ∷ joined (p ∷ ps)
unfolding joined
joined_longer u p [] = refl
joined_longer u p (q ∷ ps) = refl

first_nil : (k : ℕ) → first_of k [] ≡ []
unfolding first_of joined
first_nil k = rw (add-one k, pieces_nil) (ap (λ (ps : List (List ℕ)). joined ([] ∷ ps)) (lib.Seq.take-nil k))

first_stop : (u : ℕ) (s : List ℕ) → u ≡ 92 → first_of 0 (u ∷ s) ≡ []
unfolding first_of joined
first_stop u s h = rw (pieces_parted u s h)

first_part : (k u : ℕ) (s : List ℕ) → u ≡ 92 → first_of (suc k) (u ∷ s) ≡ u ∷ first_of k s
unfolding first_of
first_part k u s h =
    rw (add-one (suc k), add-one k, pieces_parted u s h) (joined_some [] s k ∙ ap (λ (v : ℕ). v ∷ joined (take (suc k) (pieces s))) (sym h))

first_unit : (k u : ℕ) (s : List ℕ) → (u ≡ 92 → ⊥) → first_of k (u ∷ s) ≡ u ∷ first_of k s
unfolding first_of
first_unit k u s h = rw (add-one k, pieces_longer u s h, pieces_some s) (joined_longer u (first_piece s) (take k (more_pieces s)))

module _ (k : ℕ) (s : List ℕ) (i : ℕ) where
  pub first_hit : i < length s → get_or s i 0 ≡ 92 → (0 < k) → i + length (first_of k (drop i s)) ≡ i + 1 + length (first_of (k - 1) (drop (i + 1) s))
  first_hit h e f =
      let q : k ≡ suc (k - 1) = omega arith in
      rw (add-one i, drop-cons s i 0 h)
      (ap (λ (j : ℕ). i + length (first_of j (get_or s i 0 ∷ drop (suc i) s))) q
      ∙ (ap (λ (x : List ℕ). i + length x) (first_part (k - 1) (get_or s i 0) (drop (suc i) s) e) ∙ omega arith))

  pub first_miss : i < length s → (get_or s i 0 ≡ 92 → ⊥) → i + length (first_of k (drop i s)) ≡ i + 1 + length (first_of k (drop (i + 1) s))
  first_miss h e =
      rw (add-one i, drop-cons s i 0 h, first_unit k (get_or s i 0) (drop (suc i) s) e) (omega arith)

  pub first_end : length s ≤ i → i + length (first_of k (drop i s)) ≡ i
  first_end h = rw (drop_of_length-le s h, first_nil k) (omega arith)

pub first_over : (k : ℕ) (s : List ℕ) (i : ℕ) → k ≡ 0 → i < length s → get_or s i 0 ≡ 92 → i + length (first_of k (drop i s)) ≡ i
first_over k s i z h e = rw (z, drop-cons s i 0 h, first_stop (get_or s i 0) (drop (suc i) s) e) (omega arith)

-- The first k components are a beginning of the text, and component k + 1 is what follows them, up to where it ends.
pub record Spans (k : ℕ) (s : List ℕ) : Type 0 where
  pub begin : take (length (first_of k s)) s ≡ first_of k s
  pub inside : length (first_of k s) ≤ length s
  pub none : length s ≤ length (first_of k s) → get_or (pieces s) (suc k) [] ≡ []
  pub some : length (first_of k s) < length s → length (first_of k s) + 1 ≤ length (first_of (suc k) s)
  pub next : length (first_of k s) < length s
      → get_or (pieces s) (suc k) [] ≡ take (length (first_of (suc k) s) - (length (first_of k s) + 1)) (drop (length (first_of k s) + 1) s)

-- the first piece, up to the first backslash
first_zero : (s : List ℕ) → first_of 0 s ≡ first_piece s
unfolding first_of joined
first_zero s = rw (pieces_some s)

spans_nil : (k : ℕ) → Spans k []
spans_nil k =
    let e : length (first_of k []) ≡ 0 = ap length (first_nil k) in
    record {
      begin = rw (first_nil k);
      inside = omega arith;
      none = λ h. rw (pieces_nil);
      some = λ h. absurd (omega arith);
      next = λ h. absurd (omega arith);
    }

-- one unit more in front
spans_shift : (k j u : ℕ) (s : List ℕ) → first_of k (u ∷ s) ≡ u ∷ first_of j s → first_of (suc k) (u ∷ s) ≡ u ∷ first_of (suc j) s
    → get_or (pieces (u ∷ s)) (suc k) [] ≡ get_or (pieces s) (suc j) [] → Spans j s → Spans k (u ∷ s)
spans_shift k j u s a b e h =
    let m : length (first_of k (u ∷ s)) ≡ suc (length (first_of j s)) = ap length a in
    let n : length (first_of (suc k) (u ∷ s)) ≡ suc (length (first_of (suc j) s)) = ap length b in
    record {
      begin = rw a (ap {B = List ℕ} (λ (x : List ℕ). u ∷ x) h.begin);
      inside = omega (arith, h.inside);
      none = λ q. e ∙ h.none (omega arith);
      some = λ q. let r : length (first_of j s) + 1 ≤ length (first_of (suc j) s) = h.some (omega arith) in omega arith;
      next =
          λ q.
          let x : length (first_of (suc k) (u ∷ s)) - (length (first_of k (u ∷ s)) + 1)
          ≡ length (first_of (suc j) s) - (length (first_of j s) + 1) = omega arith in
          let y : length (first_of k (u ∷ s)) + 1 ≡ suc (length (first_of j s) + 1) = omega arith in
          e ∙ (h.next (omega arith) ∙ rw (x, y));
    }

spans_zero : (u : ℕ) (s : List ℕ) → u ≡ 92 → Spans 0 s → Spans 0 (u ∷ s)
unfolding first_piece
spans_zero u s e h =
    let m : length (first_of 0 (u ∷ s)) ≡ 0 = ap length (first_stop u s e) in
    let n : length (first_of 1 (u ∷ s)) ≡ suc (length (first_of 0 s)) = ap length (first_part 0 u s e) in
    record {
      begin = rw (first_stop u s e);
      inside = omega arith;
      none = λ q. absurd (omega arith);
      some = λ q. omega arith;
      next =
          λ q.
          let x : length (first_of 1 (u ∷ s)) - (length (first_of 0 (u ∷ s)) + 1) ≡ length (first_of 0 s) = omega arith in
          let y : length (first_of 0 (u ∷ s)) + 1 ≡ 1 = omega arith in
          ap (λ (ps : List (List ℕ)). get_or ps 1 []) (pieces_parted u s e) ∙ (sym (first_zero s) ∙ (sym h.begin ∙ rw (x, y)));
    }

spans_step : (k u : ℕ) (s : List ℕ) → ((j : ℕ) → Spans j s) → (u ≡ 92) ⊎ (u ≡ 92 → ⊥) → Spans k (u ∷ s)
unfolding more_pieces
spans_step zero u s h (inl e) = spans_zero u s e (h 0)
spans_step (suc k) u s h (inl e) =
    spans_shift (suc k) k u s (first_part k u s e) (first_part (suc k) u s e)
    (ap (λ (ps : List (List ℕ)). get_or ps (suc (suc k)) []) (pieces_parted u s e)) (h k)
spans_step k u s h (inr e) =
    spans_shift k k u s (first_unit k u s e) (first_unit (suc k) u s e)
    (ap (λ (ps : List (List ℕ)). get_or ps (suc k) []) (pieces_longer u s e) ∙ ap (λ (ps : List (List ℕ)). get_or ps (suc k) []) (sym (pieces_some s))) (h k)

pub spans : (k : ℕ) (s : List ℕ) → Spans k s
spans k [] = spans_nil k
spans k (u ∷ s) = spans_step k u s (λ j. spans j s) (parts u)

-- What the functions of this crate name.
-- a scan for the first unit that may not stand in a component
pub ruleset scan = (plain_hit, plain_miss, plain_over)

-- a component by its scan
pub ruleset component = (component_dots, component_scan)

-- a name by its length
pub ruleset name_of_length = (name_long, name_fits_lem)

-- counting good components
pub ruleset count = (scan_within, scan_some, count_bad, count_next, count_last, count_dots)

-- the first components
pub ruleset first = (first_hit, first_miss, first_end, first_over)
