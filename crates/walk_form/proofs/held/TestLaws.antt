-- Laws of the test of form: a chain of tests, link by link, and what each function's tests say together.
use mathlib.Core.Path.{◌≡◌, sym}
use mathlib.Core.Bool.{Bool, true, ◌&&◌}
use mathlib.Core.List.{List}
use Prim.Native.Nat.{ℕ, ◌+◌, ◌-◌, ◌≤◌}
use native.Mathlib.Omega.{arith}
use lib.ListN.{length, take, drop}
use lib.Dec.{leb, eqb}
use borrow.Author.Tests.{eqb-true, eq-eqb}
use Rattle.laws.specs.Listed.{same_list}
use Rattle.laws.proofs.Choices.{and_left, and_right, and_both}
use Rattle.laws.proofs.Tests.{both_ways}
use Rattle.laws.proofs.Listed.{same_same_list}
use Rattle.walk_form.specs.declared.held.Walk.{Walk}
use Rattle.walk_form.specs.held.Walks.{lent, path_in, tried_in, boot_in, good_settings, next_in_form, in_form}
use Rattle.walk_form.specs.held.Code.{room_form, rooms_form}
use Rattle.walk_form.proofs.held.RoomLaws.{lent_yes, lent_told}
use Rattle.walk_form.proofs.held.FormLaws.{Formed, form_told}

-- rooms that pass hold their texts
first_tests : (a x b y c z : Bool) → ((a && x) && ((b && y) && (c && z))) ≡ (((a && x) && ((b && y) && (c && z))) && (a && (b && c)))
first_tests a x b y c z = grind arith

pub rooms_hold : (p t b : ℕ) (texts : List ℕ) → rooms_form p t b texts ≡ (rooms_form p t b texts && (leb p 256 && (leb t 256 && leb b 256)))
unfolding rooms_form room_form
rooms_hold p t b texts = first_tests (leb p 256) _ (leb t 256) _ (leb b 256) _

-- the whole test, by the tests that the code makes
module _ (w : Walk) (texts : List ℕ) where
  rest : Bool
  rest = good_settings w.limit w.size (boot_in w texts) && (leb w.moves w.limit && next_in_form (path_in w texts) (tried_in w texts) w.next)

  same_rest : in_form w texts ≡ true → rest ≡ true
  unfolding in_form rest
  same_rest h =
      and_right (same_list (lent (path_in w texts) (tried_in w texts) (boot_in w texts)) texts) _ (and_right (eqb (length texts) 768) _ h)

  rooms_rest : length texts ≡ 768 → rooms_form w.path w.tried w.boot texts ≡ true → rest ≡ true → in_form w texts ≡ true
  unfolding in_form rest path_in tried_in boot_in
  rooms_rest long h r =
      and_both (eq-eqb (length texts) 768 long)
      (and_both (same_same_list _ texts (lent_yes texts long w.path w.tried w.boot h)) r)

  rooms_told : Formed w texts → rooms_form w.path w.tried w.boot texts ≡ true
  unfolding path_in tried_in boot_in
  rooms_told f =
      let b : w.boot ≤ 255 = f.boot_most in
      lent_told texts f.long w.path w.tried w.boot (sym f.rooms) (omega arith)

  form_as : in_form w texts ≡ (eqb (length texts) 768 && (rooms_form w.path w.tried w.boot texts && rest))
  form_as =
      both_ways _ _
      (λ h.
      let f : Formed w texts = form_told w texts h in
      and_both (eq-eqb (length texts) 768 f.long) (and_both (rooms_told f) (same_rest h)))
      (λ h.
      let t : (rooms_form w.path w.tried w.boot texts && rest) ≡ true = and_right (eqb (length texts) 768) _ h in
      rooms_rest (eqb-true (length texts) 768 (and_left _ _ h)) (and_left _ _ t) (and_right (rooms_form w.path w.tried w.boot texts) _ t))

  pub form_tests : in_form w texts
      ≡ (eqb (length texts) 768
      && (rooms_form w.path w.tried w.boot texts
      && (good_settings w.limit w.size (take (512 + w.boot - 512) (drop 512 texts))
      && (leb w.moves w.limit && next_in_form (take w.path texts) (take (256 + w.tried - 256) (drop 256 texts)) w.next))))
  unfolding rest path_in tried_in boot_in
  form_tests =
      let b : 512 + w.boot - 512 ≡ w.boot = omega arith in
      let t : 256 + w.tried - 256 ≡ w.tried = omega arith in
      rw (b, t) form_as
