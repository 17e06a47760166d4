-- Laws of a walk as units: packed and unpacked it is the same walk, and units of the form are what their walk is packed into.
use Rattle.std.specs.Prelude.{Some, None}
use mathlib.Core.Path.{◌≡◌, refl, sym, ap, ◌∙◌}
use mathlib.Core.Bool.{Bool, true, false, ◌&&◌}
use mathlib.Core.List.{List, [], ◌∷◌}
use mathlib.Core.Logic.{◌⊎◌, inl, inr}
use Prim.Native.Nat.{ℕ, ◌+◌, ◌*◌, ◌/◌, ◌%◌}
use native.Mathlib.Omega.{arith}
use lib.ListN.{length}
use lib.Dec.{eqb, leb}
use lib.Pointwise.{pointwise}
use borrow.Author.Tests.{ne_eqb}
use Rattle.laws.specs.Choice.{choose}
use Rattle.laws.specs.Lists.{pasted, roomed}
use Rattle.laws.specs.Listed.{same_list}
use Rattle.laws.proofs.Choices.{choose_yes, choose_no}
use Rattle.laws.proofs.Listed.{same_list_true, same_same_list}
use Rattle.laws.proofs.Pasting.{pasted_whole}
use Rattle.laws.proofs.Orders.{told}
use Rattle.laws.proofs.Tests.{refuted}
use Rattle.cache.specs.places.Layout.{wide_at, flag_at, flag_unit}
use Rattle.walk_steps.specs.steps.Steps.{end_number}
use Rattle.walk_steps.specs.declared.steps.Kind.{Kind}
use Rattle.walk_steps.specs.declared.steps.Kind.TheVariants.{Dc, Root, Link, Sysvol, Io}
use Rattle.walk_steps.specs.declared.steps.End.{End}
use Rattle.walk_steps.specs.declared.steps.End.TheVariants.{Done, NotDfs, NoDc, Failed, LimitReached, Malformed, TooLong, Gone}
use Rattle.walk_steps.specs.declared.steps.Next.{Next}
use Rattle.walk_steps.specs.declared.steps.Next.TheVariants.{Asks, Ends}
use Rattle.walk_form.specs.declared.held.Walk.{Walk}
use Rattle.walk_form.specs.packed.Packing.{kind_number, asking_units, next_packed, walk_units, packed_walk, kind_at, end_of_number, asking_at, next_at, walk_at, unpacked}

-- a flag as a unit
flag_back : (b : Bool) → eqb (flag_unit b) 1 ≡ b
unfolding flag_unit choose
flag_back true = refl
flag_back false = refl

-- a number of 32 bits as two units
wide_back : (n : ℕ) → n % 65536 + 65536 * (n / 65536) ≡ n
wide_back n = omega arith

-- the numbers of kinds and ends, read back; those of kinds also for the program that prints them
module _ {n : ℕ} where
  pub kind_dc : n ≡ 1 → Dc ≡ kind_at n
  unfolding kind_at choose
  kind_dc h = rw h

  pub kind_root : n ≡ 2 → Root ≡ kind_at n
  unfolding kind_at choose
  kind_root h = rw h

  pub kind_link : n ≡ 3 → Link ≡ kind_at n
  unfolding kind_at choose
  kind_link h = rw h

  pub kind_sysvol : n ≡ 4 → Sysvol ≡ kind_at n
  unfolding kind_at choose
  kind_sysvol h = rw h

  pub kind_io : (n ≡ 1 → ⊥) → (n ≡ 2 → ⊥) → (n ≡ 3 → ⊥) → (n ≡ 4 → ⊥) → Io ≡ kind_at n
  unfolding kind_at choose
  kind_io a b d e = rw (ne_eqb n 1 a, ne_eqb n 2 b, ne_eqb n 3 d, ne_eqb n 4 e)

kind_back : (k : Kind) → kind_at (kind_number k) ≡ k
unfolding kind_at kind_number choose
kind_back Dc = refl
kind_back Root = refl
kind_back Link = refl
kind_back Sysvol = refl
kind_back Io = refl

kind_asks : (k : Kind) → leb (kind_number k) 5 ≡ true
unfolding kind_number
kind_asks Dc = refl
kind_asks Root = refl
kind_asks Link = refl
kind_asks Sysvol = refl
kind_asks Io = refl

end_back : (e : End) → end_of_number (end_number e) ≡ e
unfolding end_of_number end_number choose
end_back Done = refl
end_back NotDfs = refl
end_back NoDc = refl
end_back Failed = refl
end_back LimitReached = refl
end_back Malformed = refl
end_back TooLong = refl
end_back Gone = refl

end_ends : (e : End) → leb (end_number e) 5 ≡ false
unfolding end_number
end_ends Done = refl
end_ends NotDfs = refl
end_ends NoDc = refl
end_ends Failed = refl
end_ends LimitReached = refl
end_ends Malformed = refl
end_ends TooLong = refl
end_ends Gone = refl

-- 32 units
pub length_packed : (w : Walk) → length (packed_walk w) ≡ 32
unfolding packed_walk roomed walk_units next_packed asking_units
length_packed w = go w.next
  where
    go : (n : Next) → length (roomed 32 (walk_units w (next_packed n))) ≡ 32
    go (Asks q) = refl
    go (Ends e s) = refl

-- a walk that was packed is read back
next_back : (w : Walk) (n : Next) → next_at (roomed 32 (walk_units w (next_packed n))) ≡ n
unfolding next_at roomed walk_units next_packed asking_units asking_at wide_at flag_at
next_back w (Asks q) =
    choose_yes _ _ (kind_asks q.kind)
    ∙ (λ j. Asks (record {
      kind = kind_back q.kind j;
      entry = q.entry;
      party = q.party;
      began = q.began;
      size = wide_back q.size j;
      uncovered = flag_back q.uncovered j;
    }))
next_back w (Ends e s) = choose_no _ _ (end_ends e) ∙ (λ j. Ends (end_back e j) (wide_back s j))

walk_back : (w : Walk) → walk_at (packed_walk w) ≡ w
unfolding packed_walk walk_at roomed walk_units next_packed asking_units wide_at flag_at
walk_back w = go w.next
  where
    go : (n : Next)
        → walk_at (roomed 32 (walk_units w (next_packed n)))
        ≡ record { limit = w.limit; size = w.size; boot = w.boot; moves = w.moves; path = w.path; tried = w.tried; hit = w.hit; next = n }
    go (Asks q) = λ j. record {
      limit = wide_back w.limit j;
      size = wide_back w.size j;
      boot = w.boot;
      moves = w.moves;
      path = w.path;
      tried = w.tried;
      hit = flag_back w.hit j;
      next = next_back w (Asks q) j;
    }
    go (Ends e s) = λ j. record {
      limit = wide_back w.limit j;
      size = wide_back w.size j;
      boot = w.boot;
      moves = w.moves;
      path = w.path;
      tried = w.tried;
      hit = flag_back w.hit j;
      next = next_back w (Ends e s) j;
    }

pub unpack_pack : (w : Walk) → unpacked (packed_walk w) ≡ Some w
unfolding unpacked
unpack_pack w =
    choose_yes _ None (same_same_list (packed_walk (walk_at (packed_walk w))) (packed_walk w) (ap packed_walk (walk_back w))) ∙ ap Some (walk_back w)

-- units of the form are what their walk is packed into
pub pack_unpack : (u : List ℕ) (w : Walk) → unpacked u ≡ Some w → packed_walk w ≡ u
unfolding unpacked
pack_unpack u w h = go (told (same_list (packed_walk (walk_at u)) u))
  where
    go : (same_list (packed_walk (walk_at u)) u ≡ true) ⊎ (same_list (packed_walk (walk_at u)) u ≡ false) → packed_walk w ≡ u
    go (inl t) =
        let e : walk_at u ≡ w = cc (choose_yes (Some (walk_at u)) None t, h) in
        ap packed_walk (sym e) ∙ same_list_true _ u t
    go (inr t) = absurd (let z : ◌≡◌ {A = ℕ} 0 1 = cc (choose_no (Some (walk_at u)) None t, h) in omega arith)

-- the library's test of equal units
pub same_units : (a b : List ℕ) → pointwise eqb a b ≡ same_list a b
unfolding same_list
same_units [] [] = refl
same_units [] (y ∷ b) = refl
same_units (x ∷ a) [] = refl
same_units (x ∷ a) (y ∷ b) = λ i. eqb x y && same_units a b i

-- the test of form
pub form_length : (u : List ℕ) → (length u ≡ 32 → ⊥) → None ≡ unpacked u
unfolding unpacked
form_length u h =
    sym (choose_no _ _ (refuted (same_list (packed_walk (walk_at u)) u) (λ t. h (sym (ap length (same_list_true _ u t)) ∙ length_packed (walk_at u)))))

module _ (u blank : List ℕ) (l : length blank ≡ 32) {v again : List ℕ} {w : Walk} {b : Bool} (o : v ≡ u) (a : w ≡ walk_at v) (e : again ≡ pasted blank 0 (packed_walk w)) (g : b ≡ pointwise eqb again v) where
  its_walk : w ≡ walk_at u
  its_walk = a ∙ ap walk_at o

  packed_again : again ≡ packed_walk (walk_at u)
  packed_again = e ∙ (pasted_whole blank (packed_walk w) (length_packed w ∙ sym l) ∙ ap packed_walk its_walk)

  told_again : b ≡ same_list (packed_walk (walk_at u)) u
  told_again = g ∙ (same_units again v ∙ (λ i. same_list (packed_again i) (o i)))

  pub form_other : b ≡ false → None ≡ unpacked u
  unfolding unpacked
  form_other h = sym (choose_no _ _ (sym told_again ∙ h))

  pub form_held : b ≡ true → Some w ≡ unpacked u
  unfolding unpacked
  form_held h = ap Some its_walk ∙ sym (choose_yes _ _ (sym told_again ∙ h))
