-- Laws of an entry's numbers.
use Rattle.std.specs.Prelude.{Option, None, Some}
use mathlib.Core.Path.{◌≡◌, refl, sym, ap, ◌∙◌}
use mathlib.Core.Bool.{Bool, true, false, ◌&&◌, true≢false}
use mathlib.Core.List.{List, [], ◌∷◌, map}
use mathlib.Core.Logic.{◌⊎◌, inl, inr}
use Prim.Native.Nat.{ℕ, suc, ◌+◌, ◌-◌, ◌≤◌, ◌<◌}
use native.Mathlib.Omega.{arith}
use lib.Dec.{leb, eqb}
use lib.ListN.{length}
use borrow.Author.Tests.{lt-leb, leb-true}
use Rattle.laws.proofs.Choices.{and_left, and_right, and_no_left, and_no_right}
use Rattle.laws.proofs.Orders.{lt_or_le}
use Rattle.laws.specs.Lists.{every}
use Rattle.reply_read.specs.referral.Replies.{version_at, size_at, fits, readable, fixed_length, good_fields, good_entry, is_read, same_read, with_first, all_read, prefix_at, target_at, starts, entries, referral_count}
use Rattle.reply_read.specs.referral.Code.{units_read}

-- the ways of `fits`
module _ (fixed : ℕ) (r : List ℕ) (e : ℕ) where
  pub fits_short : e ≤ length r → length r - e < fixed → false ≡ fits fixed r e
  unfolding fits
  fits_short h k = sym (go (lt_or_le (size_at r e) fixed))
    where
      go : (size_at r e < fixed) ⊎ (fixed ≤ size_at r e) → (leb fixed (size_at r e) && leb (e + size_at r e) (length r)) ≡ false
      go (inl z) = and_no_left _ (lt-leb fixed (size_at r e) z)
      go (inr z) = and_no_right (leb fixed (size_at r e)) (lt-leb (e + size_at r e) (length r) (omega arith))

  pub fits_room : {t : Bool} → t ≡ fits fixed r e → t ≡ true → (fixed ≤ size_at r e) × (e + size_at r e ≤ length r)
  unfolding fits
  fits_room f h =
      let q : (leb fixed (size_at r e) && leb (e + size_at r e) (length r)) ≡ true = sym f ∙ h in
      (leb-true fixed (size_at r e) (and_left _ _ q), leb-true (e + size_at r e) (length r) (and_right (leb fixed (size_at r e)) _ q))

-- the numbers of an entry
module _ (r : List ℕ) (e : ℕ) where
  pub fields_unfit : {t : Bool} → t ≡ fits 34 r e → t ≡ false → false ≡ good_fields r e
  unfolding good_fields fixed_length
  fields_unfit f h = sym (and_no_right (readable (version_at r e)) (and_no_right (eqb (version_at r e) (version_at r 8)) (and_no_left _ (sym f ∙ h))))

  pub fields_fit : good_fields r e ≡ true → fits 34 r e ≡ true
  unfolding good_fields fixed_length
  fields_fit h =
      and_left _ _ (and_right (eqb (version_at r e) (version_at r 8)) _ (and_right (readable (version_at r e)) _ h))

-- a path or name that is read
pub read_some : (x : Option (List ℕ)) → is_read x ≡ true → x ≡ Some (units_read x)
unfolding is_read units_read
read_some None h = absurd (true≢false (sym h))
read_some (Some s) h = refl

pub unread : {x : Option (List ℕ)} → x ≡ None → is_read x ≡ true → ⊥
unfolding is_read
unread e h = true≢false (sym h ∙ ap is_read e)

pub same_read_lem : (p q : Option (List ℕ)) → same_read p q ≡ true → is_read p ≡ true
unfolding same_read is_read
same_read_lem None q h = absurd (true≢false (sym h))
same_read_lem (Some p) q h = refl

pub all_read_lem : (xs : List (Option (List ℕ))) → every is_read xs ≡ true → all_read xs ≡ Some (map units_read xs)
unfolding every is_read all_read with_first units_read
all_read_lem [] h = refl
all_read_lem (None ∷ xs) h = absurd (true≢false (sym h))
all_read_lem (Some s ∷ xs) h = ap (with_first s) (all_read_lem xs h)

-- an entry
module _ (r : List ℕ) (e : ℕ) where
  pub entry_fields : {t : Bool} → t ≡ good_fields r e → t ≡ false → false ≡ good_entry r e
  unfolding good_entry
  entry_fields f h = sym (and_no_left _ (sym f ∙ h))

  pub entry_room : {t : Bool} → t ≡ good_fields r e → t ≡ true → (34 ≤ size_at r e) × (e + size_at r e ≤ length r)
  entry_room f h = fits_room 34 r e refl (fields_fit r e (sym f ∙ h))

  pub entry_fit : {t : Bool} → t ≡ good_entry r e → t ≡ true → (34 ≤ size_at r e) × (e + size_at r e ≤ length r)
  unfolding good_entry
  entry_fit f h = entry_room refl (and_left _ _ (sym f ∙ h))

  pub entry_prefix : prefix_at r e ≡ None → false ≡ good_entry r e
  unfolding good_entry same_read
  entry_prefix h = sym (and_no_right (good_fields r e) (and_no_left _ (ap (λ (x : Option (List ℕ)). same_read x (prefix_at r 8)) h)))

  pub entry_read : good_entry r e ≡ true → is_read (target_at r e) ≡ true
  unfolding good_entry
  entry_read h = and_right (same_read (prefix_at r e) (prefix_at r 8)) _ (and_right (good_fields r e) _ h)

-- Entries one after another, i of n passed.
module _ (f : ℕ → Bool) (r : List ℕ) (n i e : ℕ) where
  pub starts_cons : i < n → starts (n - i) e r ≡ e ∷ starts (n - (i + 1)) (e + size_at r e) r
  unfolding starts
  starts_cons h = let q : n - i ≡ suc (n - (i + 1)) = omega arith in ap (λ (m : ℕ). starts m e r) q

  pub starts_none : n ≤ i → starts (n - i) e r ≡ []
  unfolding starts
  starts_none h = let q : n - i ≡ 0 = omega arith in ap (λ (m : ℕ). starts m e r) q

  pub starts_hit : i < n → {t : Bool} → t ≡ f e → t ≡ true → {z : ℕ} → z ≡ e + size_at r e → every f (starts (n - i) e r) ≡ every f (starts (n - (i + 1)) z r)
  unfolding every
  starts_hit h g k {z} j = rw (starts_cons h, ← g, k) (ap (λ (y : ℕ). every f (starts (n - (i + 1)) y r)) (sym j))

  pub starts_miss : i < n → {t : Bool} → t ≡ f e → t ≡ false → every f (starts (n - i) e r) ≡ false
  unfolding every
  starts_miss h g k = rw (starts_cons h, ← g, k)

  pub starts_end : n ≤ i → every f (starts (n - i) e r) ≡ true
  unfolding every
  starts_end h = rw (starts_none h)

-- a reply that is too short for its first entry
pub entries_short : (f : ℕ → Bool) (r : List ℕ) → 0 < referral_count r → f 8 ≡ false → every f (entries r) ≡ false
unfolding entries
entries_short f r h k = ap (λ (m : ℕ). every f (starts m 8 r)) (let q : referral_count r ≡ referral_count r - 0 = omega arith in q) ∙ starts_miss f r (referral_count r) 0 8 h refl k

pub entry_short : (r : List ℕ) → 8 ≤ length r → length r < 42 → good_entry r 8 ≡ false
entry_short r h k = sym (entry_fields r 8 refl (sym (fields_unfit r 8 refl (sym (fits_short 34 r 8 h (omega arith))))))

-- the entries of a reply, none of them passed
pub entries_start : (f : ℕ → Bool) (r : List ℕ) {n : ℕ} → n ≡ referral_count r → every f (entries r) ≡ every f (starts (n - 0) 8 r)
unfolding entries
entries_start f r {n} e = let q : referral_count r ≡ n - 0 = omega arith in ap (λ (m : ℕ). every f (starts m 8 r)) q
