-- Laws of normalised paths: normalising, prefix match by components, and the replaced path.
use mathlib.Core.Path.{◌≡◌, refl, sym, ap, ◌∙◌}
use mathlib.Core.Bool.{true, not, true≢false}
use mathlib.Core.List.{List, [], ◌∷◌, ◌++◌, append-nil}
use mathlib.Core.Logic.{◌⊎◌, inl, inr}
use Prim.Native.Nat.{ℕ, suc, ◌+◌, ◌-◌, ◌≤◌, ◌<◌}
use native.Mathlib.Omega.{arith}
use lib.Dec.{eqb}
use lib.ListN.{length, get_or, take, drop, take-append-drop}
use lib.Seq.{drop-cons, split_at, drop-length, drop-drop}
use borrow.Author.Tests.{eqb-true}
use Rattle.laws.specs.Lists.{every}
use Rattle.laws.proofs.Choices.{and_left, and_right}
use Rattle.laws.proofs.Orders.{lt_or_le}
use Rattle.laws.proofs.Every.{every_append}
use Rattle.unc.specs.names.Names.{good_component, same_name}
use Rattle.unc.specs.names.Paths.{pieces, components, component_count, leads, without_trail, body, good_path, normalised, is_normalised, begins, matches, replaced}
use Rattle.unc.proofs.names.PieceLaws.{pieces_nil, pieces_parted, pieces_append, count_backslash, count_other, count_nil, bad_dots, parts}
use Rattle.unc.proofs.names.NameLaws.{dots_none}
use Rattle.unc.proofs.names.MatchLaws.{at_end_lem, matches_end}
use Rattle.laws.proofs.Choices.{choose_no}
use borrow.Author.Tests.{ne_eqb}
use Rattle.unc.proofs.names.FormLaws.{leads_one, past_end}

-- a good path, normalised, is a normalised path
pub normalised_is : (s : List ℕ) → good_path s ≡ true → is_normalised (normalised s) ≡ true
unfolding is_normalised normalised good_path
normalised_is s h = and_right (not (eqb (leads s) 0)) _ h

-- no component is empty
no_empty : (ps qs : List (List ℕ)) → every good_component (ps ++ ([] ∷ qs)) ≡ true → ⊥
unfolding every
no_empty ps qs h =
    true≢false
    (sym (and_left (good_component []) _ (and_right (every good_component ps) _ (sym (every_append good_component ps ([] ∷ qs)) ∙ h)))
    ∙ bad_dots [] (sym (dots_none [] refl)))

module _ (s : List ℕ) (h : is_normalised s ≡ true) where
  pub led : get_or s 0 0 ≡ 92
  unfolding is_normalised
  led = eqb-true (get_or s 0 0) 92 (and_left (eqb (get_or s 0 0) 92) _ h)

  pub whole : 0 < length s
  whole = go (lt_or_le 0 (length s))
    where
      go : (0 < length s) ⊎ (length s ≤ 0) → 0 < length s
      go (inl a) = a
      go (inr a) = absurd (past_end s 0 a led)

  pub opened : s ≡ 92 ∷ drop 1 s
  opened = drop-cons s 0 0 whole ∙ ap (λ (u : ℕ). u ∷ drop 1 s) led

  pub all_good : every good_component (pieces (drop 1 s)) ≡ true
  unfolding is_normalised
  all_good = and_right (eqb (get_or s 0 0) 92) _ h

  -- its components are the pieces after the leading backslash
  pub components_of : components s ≡ pieces (drop 1 s)
  unfolding components
  components_of = ap (λ (x : List ℕ). drop 1 (pieces x)) opened ∙ ap (drop 1) (pieces_parted 92 (drop 1 s) refl)

  -- what follows a backslash in it is good too
  pub rest_good : (a b : List ℕ) → drop 1 s ≡ a ++ (92 ∷ b) → every good_component (pieces b) ≡ true
  rest_good a b e =
      and_right (every good_component (pieces a)) _
      (sym (every_append good_component (pieces a) (pieces b)) ∙ (ap (every good_component) (sym (pieces_append a b) ∙ ap pieces (sym e)) ∙ all_good))

  -- one leading backslash, and none trailing
  one_lead : get_or s 1 0 ≡ 92 → ⊥
  one_lead e = go (lt_or_le 1 (length s))
    where
      go : (1 < length s) ⊎ (length s ≤ 1) → ⊥
      go (inl a) =
          no_empty [] (pieces (drop 2 s))
          (ap (every good_component) (sym (ap pieces (drop-cons s 1 0 a) ∙ pieces_parted (get_or s 1 0) (drop 2 s) e)) ∙ all_good)
      go (inr a) = past_end s 1 a e

  no_trail : get_or (drop 1 s) (length (drop 1 s) - 1) 0 ≡ 92 → ⊥
  no_trail e = go (lt_or_le 0 (length (drop 1 s)))
    where
      go : (0 < length (drop 1 s)) ⊎ (length (drop 1 s) ≤ 0) → ⊥
      go (inl a) =
          let f : suc (length (drop 1 s) - 1) ≡ length (drop 1 s) = omega arith in
          no_empty (pieces (take (length (drop 1 s) - 1) (drop 1 s))) []
          (ap (every good_component)
          (sym
          (ap pieces (split_at (drop 1 s) (length (drop 1 s) - 1) 0 (omega arith))
          ∙ (rw (e, f, drop-length (drop 1 s)) (pieces_append (take (length (drop 1 s) - 1) (drop 1 s)) [] ∙ rw pieces_nil))))
          ∙ all_good)
      go (inr a) = past_end (drop 1 s) (length (drop 1 s) - 1) (omega arith) e

  body_of : body s ≡ drop 1 s
  unfolding body without_trail
  body_of = rw (leads_one s led one_lead) (choose_no (take (length (drop 1 s) - 1) (drop 1 s)) (drop 1 s) (ne_eqb _ _ no_trail))

  -- a normalised path is good, and normalising leaves it as it is
  pub normalised_good : good_path s ≡ true
  unfolding good_path
  normalised_good = rw (leads_one s led one_lead, body_of) all_good

  pub normalised_stays : normalised s ≡ s
  unfolding normalised
  normalised_stays = ap (λ (x : List ℕ). 92 ∷ x) body_of ∙ sym opened

-- prefix match of normalised paths is by whole components
pub matches_components : (p s : List ℕ) → is_normalised p ≡ true → is_normalised s ≡ true → matches p s ≡ begins (components p) (components s)
unfolding matches begins same_name
matches_components p s h k =
    rw (components_of p h, components_of s k)
    (ap (λ (x : List ℕ). begins (pieces x) (pieces s)) (opened p h)
    ∙ (ap (λ (x : List ℕ). begins (pieces (92 ∷ drop 1 p)) (pieces x)) (opened s k)
    ∙ rw (pieces_parted 92 (drop 1 p) refl, pieces_parted 92 (drop 1 s) refl)))

-- a normalised path and then a backslash and good components
extended : (t b : List ℕ) → is_normalised t ≡ true → every good_component (pieces b) ≡ true → is_normalised (t ++ (92 ∷ b)) ≡ true
unfolding is_normalised
extended t b h k =
    let e : t ++ (92 ∷ b) ≡ 92 ∷ (drop 1 t ++ (92 ∷ b)) = ap (λ (x : List ℕ). x ++ (92 ∷ b)) (opened t h) in
    rw (e, pieces_append (drop 1 t) b, every_append good_component (pieces (drop 1 t)) (pieces b), all_good t h, k)

-- The replaced path: what follows a matching prefix is nothing, or a backslash and good components.
module _ (target p s : List ℕ) (ht : is_normalised target ≡ true) (hs : is_normalised s ≡ true) (hm : matches p s ≡ true) (hp : 0 < length p) where
  pub replaced_normalised : is_normalised (replaced target (length p) s) ≡ true
  unfolding replaced at_end_lem
  replaced_normalised = go (drop (length p) s) refl (matches_end p s hm)
    where
      go : (r : List ℕ) → drop (length p) s ≡ r → at_end_lem r ≡ true → is_normalised (target ++ r) ≡ true
      go [] e h = ap is_normalised (append-nil target) ∙ ht
      go (u ∷ b) e h =
          let v : u ≡ 92 = eqb-true u 92 h in
          let n : 1 + (length p - 1) ≡ length p = omega arith in
          let f : drop 1 s ≡ take (length p - 1) (drop 1 s) ++ (92 ∷ b) =
          sym (take-append-drop (length p - 1) (drop 1 s))
          ∙ ap (λ (x : List ℕ). take (length p - 1) (drop 1 s) ++ x)
          (drop-drop (length p - 1) 1 s ∙ (ap (λ (k : ℕ). drop k s) n ∙ (e ∙ ap (λ (x : ℕ). x ∷ b) v))) in
          rw v (extended target b ht (rest_good s hs (take (length p - 1) (drop 1 s)) b f))

-- components add up
pub count_append : (a b : List ℕ) → component_count (a ++ b) ≡ component_count a + component_count b
count_append [] b = rw count_nil (omega arith)
count_append (u ∷ a) b = go (parts u) (count_append a b)
  where
    go : (u ≡ 92) ⊎ (u ≡ 92 → ⊥) → component_count (a ++ b) ≡ component_count a + component_count b
        → component_count (u ∷ (a ++ b)) ≡ component_count (u ∷ a) + component_count b
    go (inl e) h = rw (count_backslash u (a ++ b) e, count_backslash u a e) (omega arith)
    go (inr e) h = rw (count_other u (a ++ b) e, count_other u a e) h

-- the replaced path has at least the target's components
pub replaced_count : (target : List ℕ) (k : ℕ) (s : List ℕ) → component_count target ≤ component_count (replaced target k s)
unfolding replaced
replaced_count target k s = omega (arith, count_append target (drop k s))
