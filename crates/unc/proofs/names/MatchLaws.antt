-- Laws of prefix match.
use mathlib.Core.Path.{◌≡◌, refl, sym, ap, ◌∙◌}
use mathlib.Core.Bool.{Bool, true, false, ◌&&◌, and_assoc, and-true}
use mathlib.Core.List.{List, [], ◌∷◌}
use mathlib.Core.Logic.{◌⊎◌, inl, inr}
use Prim.Native.Nat.{ℕ, ◌≤◌, ◌<◌}
use native.Mathlib.Omega.{arith}
use lib.Dec.{eqb}
use lib.ListN.{length, get_or, take, drop, length-take}
use lib.Seq.{drop-cons, take-length, drop-length}
use borrow.Author.Tests.{eq-eqb, ne_eqb}
use Rattle.laws.proofs.Choices.{and_left, and_right, and_no_left, and_no_right}
use Rattle.laws.proofs.Orders.{told}
use Rattle.unc.specs.names.Names.{same_unit, same_name}
use Rattle.unc.specs.names.Paths.{pieces, begins, matches}
use Rattle.unc.proofs.names.NameLaws.{alone_backslash, same_unit_refl, same_unit_sym, same_name_refl, same_name_sym, same_name_trans, same_name_length, same_name_unlike}
use Rattle.unc.proofs.names.PieceLaws.{first_piece, more_pieces, pieces_some, pieces_nil, pieces_parted, pieces_longer, parts}

-- A prefix matches exactly where its units are equal to the path's first ones and the path ends there or goes on with a backslash.
unfoldable pub at_end_lem : List ℕ → Bool
at_end_lem [] = true
at_end_lem (u ∷ s) = eqb u 92

unlike_backslash : (a : ℕ) → (a ≡ 92 → ⊥) → same_unit a 92 ≡ false
unlike_backslash a h = go (told (same_unit a 92))
  where
    go : (same_unit a 92 ≡ true) ⊎ (same_unit a 92 ≡ false) → same_unit a 92 ≡ false
    go (inl e) = absurd (h (alone_backslash.only a e))
    go (inr e) = e

backslash_unlike : (b : ℕ) → (b ≡ 92 → ⊥) → same_unit 92 b ≡ false
backslash_unlike b h = go (told (same_unit 92 b))
  where
    go : (same_unit 92 b ≡ true) ⊎ (same_unit 92 b ≡ false) → same_unit 92 b ≡ false
    go (inl e) = absurd (h (alone_backslash.only b (same_unit_sym 92 b e)))
    go (inr e) = e

matches_none : (s : List ℕ) → begins (pieces []) (pieces s) ≡ at_end_lem s
unfolding begins same_name at_end_lem
matches_none [] = rw pieces_nil
matches_none (u ∷ s) = go (parts u)
  where
    go : (u ≡ 92) ⊎ (u ≡ 92 → ⊥) → begins (pieces []) (pieces (u ∷ s)) ≡ eqb u 92
    go (inl e) = rw (pieces_nil, pieces_parted u s e, eq-eqb u 92 e)
    go (inr e) = rw (pieces_nil, pieces_longer u s e, ne_eqb u 92 e)

matches_over : (a : ℕ) (p : List ℕ) → begins (pieces (a ∷ p)) (pieces []) ≡ false
unfolding begins same_name
matches_over a p = go (parts a)
  where
    go : (a ≡ 92) ⊎ (a ≡ 92 → ⊥) → begins (pieces (a ∷ p)) (pieces []) ≡ false
    go (inl e) = rw (pieces_nil, pieces_parted a p e, pieces_some p)
    go (inr e) = rw (pieces_nil, pieces_longer a p e)

matches_step : (a b : ℕ) (p s : List ℕ) → (a ≡ 92) ⊎ (a ≡ 92 → ⊥) → (b ≡ 92) ⊎ (b ≡ 92 → ⊥)
    → begins (pieces (a ∷ p)) (pieces (b ∷ s)) ≡ (same_unit a b && begins (pieces p) (pieces s))
unfolding begins same_name
matches_step a b p s (inl e) (inl f) = rw (pieces_parted a p e, pieces_parted b s f, e, f, same_unit_refl 92)
matches_step a b p s (inl e) (inr f) = rw (pieces_parted a p e, pieces_longer b s f, e, backslash_unlike b f)
matches_step a b p s (inr e) (inl f) = rw (pieces_longer a p e, pieces_parted b s f, f, unlike_backslash a e)
matches_step a b p s (inr e) (inr f) =
    rw (pieces_longer a p e, pieces_longer b s f, pieces_some p, pieces_some s)
    (and_assoc (same_unit a b) (same_name (first_piece p) (first_piece s)) (begins (more_pieces p) (more_pieces s)))

pub matches_units : (p s : List ℕ) → matches p s ≡ (same_name p (take (length p) s) && at_end_lem (drop (length p) s))
unfolding matches same_name
matches_units [] s = matches_none s
matches_units (a ∷ p) [] = matches_over a p
matches_units (a ∷ p) (b ∷ s) =
    matches_step a b p s (parts a) (parts b)
    ∙ (ap (λ (t : Bool). same_unit a b && t) (matches_units p s)
    ∙ sym (and_assoc (same_unit a b) (same_name p (take (length p) s)) (at_end_lem (drop (length p) s))))

-- the four ways of a test by units
module _ (p s : List ℕ) where
  pub matches_longer : length s < length p → matches p s ≡ false
  matches_longer h =
      matches_units p s
      ∙ and_no_left (at_end_lem (drop (length p) s)) (same_name_unlike p (take (length p) s) (λ e. let l : length (take (length p) s) ≤ length s = simp length-take (omega arith) in omega arith))

  pub matches_whole : length p ≡ length s → {r : Bool} → r ≡ same_name p s → r ≡ matches p s
  unfolding at_end_lem
  matches_whole e h = h ∙ sym (matches_units p s ∙ rw (e, take-length, drop-length) (and-true _))

  -- the whole path as a part of it
  pub matches_all : length p ≡ length s → {r : Bool} → r ≡ same_name p (take (length p) s) → r ≡ matches p s
  matches_all e h = matches_whole e (h ∙ ap (same_name p) (rw (e, take-length)))

  pub matches_part : length p < length s → get_or s (length p) 0 ≡ 92 → {r : Bool} → r ≡ same_name p (take (length p) s) → r ≡ matches p s
  unfolding at_end_lem
  matches_part h e f = f ∙ sym (matches_units p s ∙ rw (drop-cons s (length p) 0 h, eq-eqb _ _ e) (and-true _))

  pub matches_beside : length p < length s → (get_or s (length p) 0 ≡ 92 → ⊥) → matches p s ≡ false
  unfolding at_end_lem
  matches_beside h e = matches_units p s ∙ rw (drop-cons s (length p) 0 h, ne_eqb _ _ e) (and_no_right (same_name p (take (length p) s)) refl)

  -- a prefix that matches: its units are the path's first ones, and the path ends there or goes on with a backslash
  pub matches_same : matches p s ≡ true → same_name p (take (length p) s) ≡ true
  matches_same h = and_left _ _ (sym (matches_units p s) ∙ h)

  pub matches_end : matches p s ≡ true → at_end_lem (drop (length p) s) ≡ true
  matches_end h = and_right (same_name p (take (length p) s)) _ (sym (matches_units p s) ∙ h)

  pub matches_within : matches p s ≡ true → length p ≤ length s
  matches_within h =
      let e : length p ≡ length (take (length p) s) = same_name_length p (take (length p) s) (matches_same h) in
      let l : length (take (length p) s) ≤ length s = simp length-take (omega arith) in
      omega arith

-- a path is a prefix of itself, and names equal to a path match what it matches
pub matches_refl : (s : List ℕ) → matches s s ≡ true
matches_refl s = sym (matches_whole s s refl (sym (same_name_refl s)))

-- two prefixes of equal length that match a path are equal names: the longest match is one entry
pub matches_longest : (p q s : List ℕ) → matches p s ≡ true → matches q s ≡ true → length p ≡ length q → same_name p q ≡ true
matches_longest p q s h k e =
    same_name_trans p (take (length p) s) q (matches_same p s h)
    (same_name_sym q (take (length p) s) (rw e (matches_same q s k)))

-- What the functions of this crate name.
-- a prefix and the unit after it
pub ruleset ends = (matches_longer, matches_all, matches_part, matches_beside)
