-- Laws of writers: two, three or four pieces that make a text, put one after another.
use mathlib.Core.Path.{◌≡◌, refl, sym}
use mathlib.Core.List.{List, [], ◌++◌, append-nil}
use Prim.Native.Nat.{ℕ, ◌+◌, ◌≤◌}
use lib.ListN.{length}
use Rattle.laws.specs.Lists.{pasted}
use Rattle.listing_spelling.specs.spell.Spelling.{Put}
use Rattle.listing_spelling.proofs.spell.PutLaws.{Left, left_start, left_next, left_done}
use Rattle.listing_write.proofs.FormLaws.{left_fits}

module _ (d : List ℕ) (at : ℕ) (w p q : List ℕ) (fits : at + length w ≤ length d) (parts : w ≡ p ++ q) where
  pub fits_1 : at + length p ≤ length d
  fits_1 = left_fits p q (left_start d at w fits) parts

  module _ {m : List ℕ} {a : ℕ} (x : Put d at p m a) where
    two : Left (pasted d at w) (at + length w) m a q
    two = left_next p q (left_start d at w fits) parts x

    pub fits_2 : a + length q ≤ length m
    fits_2 = two.fits

    pub two_put : {o : List ℕ} {e : ℕ} → Put m a q o e → Put d at w o e
    two_put y = left_done d at w (left_next q [] two (sym (append-nil q)) y) refl refl refl

module _ (d : List ℕ) (at : ℕ) (w p q s : List ℕ) (fits : at + length w ≤ length d) (parts : w ≡ p ++ (q ++ s)) {m : List ℕ} {a : ℕ} (x : Put d at p m a) where
  pub fits_2_of_3 : a + length q ≤ length m
  fits_2_of_3 = fits_1 m a (q ++ s) q s (fits_2 d at w p (q ++ s) fits parts x) refl

  module _ {n : List ℕ} {b : ℕ} (y : Put m a q n b) where
    pub fits_3 : b + length s ≤ length n
    fits_3 = fits_2 m a (q ++ s) q s (fits_2 d at w p (q ++ s) fits parts x) refl y

    pub three_put : {o : List ℕ} {e : ℕ} → Put n b s o e → Put d at w o e
    three_put z = two_put d at w p (q ++ s) fits parts x (two_put m a (q ++ s) q s (fits_2 d at w p (q ++ s) fits parts x) refl y z)

module _ (d : List ℕ) (at : ℕ) (w p q s t : List ℕ) (fits : at + length w ≤ length d) (parts : w ≡ p ++ (q ++ (s ++ t))) {m : List ℕ} {a : ℕ} (x : Put d at p m a)
    {n : List ℕ} {b : ℕ} (y : Put m a q n b) where
  pub fits_3_of_4 : b + length s ≤ length n
  fits_3_of_4 = fits_1 n b (s ++ t) s t (fits_3 d at w p q (s ++ t) fits parts x y) refl

  module _ {o : List ℕ} {c : ℕ} (z : Put n b s o c) where
    pub fits_4 : c + length t ≤ length o
    fits_4 = fits_2 n b (s ++ t) s t (fits_3 d at w p q (s ++ t) fits parts x y) refl z

    pub four_put : {u : List ℕ} {e : ℕ} → Put o c t u e → Put d at w u e
    four_put v = three_put d at w p q (s ++ t) fits parts x y (two_put n b (s ++ t) s t (fits_3 d at w p q (s ++ t) fits parts x y) refl z v)
