-- Laws of marking: the first unmarked name that is equal, what is left once it is marked, and marks as the bits of a number.
use mathlib.Core.Path.{◌≡◌, refl, sym, ap, ◌∙◌}
use mathlib.Core.Bool.{Bool, true, false, not, true≢false}
use mathlib.Core.List.{List, [], ◌∷◌}
use mathlib.Core.Logic.{◌⊎◌, inl, inr}
use Prim.Native.Nat.{ℕ, zero, suc, ◌+◌, ◌-◌, ◌*◌, ◌/◌, ◌%◌, ◌^◌, ◌≤◌, ◌<◌}
use native.Mathlib.Nat.{pow-suc}
use native.Mathlib.Omega.{arith}
use lib.Dec.{eqb}
use lib.ListN.{length, get_or, set}
use lib.Pow.{pow_pos}
use borrow.Author.Tests.{eq-eqb, ne_eqb, eqb-false}
use Rattle.laws.specs.Choice.{choose}
use Rattle.laws.proofs.Choices.{choose_yes, choose_no}
use Rattle.laws.proofs.Orders.{told}
use Rattle.unc.specs.names.Names.{same_name}
use Rattle.laws.specs.Lists.{every}
use Rattle.cache_entry.specs.equivalent_targets.Code.{is_in, without, unmarked, first_place, marks_in}

-- the ways of `unmarked` and `first_place` over as many marks as names
module _ (x y : List ℕ) (ms : List Bool) (ys : List (List ℕ)) where
  left_marked : unmarked (true ∷ ms) (y ∷ ys) ≡ unmarked ms ys
  unfolding unmarked choose
  left_marked = refl

  left_unmarked : unmarked (false ∷ ms) (y ∷ ys) ≡ y ∷ unmarked ms ys
  unfolding unmarked choose
  left_unmarked = refl

  place_marked : (n : ℕ) → first_place n x (true ∷ ms) (y ∷ ys) ≡ first_place (suc n) x ms ys
  unfolding first_place choose
  place_marked n = refl

  place_hit : (n : ℕ) → same_name x y ≡ true → first_place n x (false ∷ ms) (y ∷ ys) ≡ n
  unfolding first_place choose
  place_hit n h = rw h

  place_miss : (n : ℕ) → same_name x y ≡ false → first_place n x (false ∷ ms) (y ∷ ys) ≡ first_place (suc n) x ms ys
  unfolding first_place choose
  place_miss n h = rw h

place_nil : (n : ℕ) (x : List ℕ) (ms : List Bool) → first_place n x ms [] ≡ n
unfolding first_place
place_nil n x ms = refl

-- the place is at most past the last
pub place_within : (n : ℕ) (x : List ℕ) (ms : List Bool) (ys : List (List ℕ)) → length ms ≡ length ys → (n ≤ first_place n x ms ys) × (first_place n x ms ys ≤ n + length ys)
place_within n x ms [] l = rw (place_nil n x ms) (omega arith)
place_within n x [] (y ∷ ys) l = absurd (omega arith)
place_within n x (true ∷ ms) (y ∷ ys) l =
    let r = place_within (suc n) x ms ys (omega arith) in
    rw (place_marked x y ms ys n) (omega arith)
place_within n x (false ∷ ms) (y ∷ ys) l = go (told (same_name x y)) (place_within (suc n) x ms ys (omega arith))
  where
    go : (same_name x y ≡ true) ⊎ (same_name x y ≡ false) → (suc n ≤ first_place (suc n) x ms ys) × (first_place (suc n) x ms ys ≤ suc n + length ys)
        → (n ≤ first_place n x (false ∷ ms) (y ∷ ys)) × (first_place n x (false ∷ ms) (y ∷ ys) ≤ n + suc (length ys))
    go (inl e) r = rw (place_hit x y ms ys n e) (omega arith)
    go (inr e) r = rw (place_miss x y ms ys n e) (omega arith)

-- found: its place is not marked, the name is among those unmarked, and marking its place takes it out
pub record Taken (x : List ℕ) (ms : List Bool) (ys : List (List ℕ)) (j : ℕ) : Type 0 where
  pub is_free : get_or ms j true ≡ false
  pub is_there : is_in x (unmarked ms ys) ≡ true
  pub out : unmarked (set ms j true) ys ≡ without x (unmarked ms ys)

taken_head : (x y : List ℕ) (ms : List Bool) (ys : List (List ℕ)) → same_name x y ≡ true → Taken x (false ∷ ms) (y ∷ ys) 0
unfolding is_in without
taken_head x y ms ys h =
    record {
      is_free = refl;
      is_there = rw (left_unmarked x y ms ys, h);
      out = left_marked x y ms ys ∙ rw (left_unmarked x y ms ys) (sym (choose_yes (unmarked ms ys) _ h));
    }

taken_marked : (x y : List ℕ) (ms : List Bool) (ys : List (List ℕ)) (j : ℕ) → Taken x ms ys j → Taken x (true ∷ ms) (y ∷ ys) (suc j)
taken_marked x y ms ys j t =
    record {
      is_free = t.is_free;
      is_there = rw (left_marked x y ms ys) t.is_there;
      out = left_marked x y (set ms j true) ys ∙ rw (left_marked x y ms ys) t.out;
    }

taken_passed : (x y : List ℕ) (ms : List Bool) (ys : List (List ℕ)) (j : ℕ) → same_name x y ≡ false → Taken x ms ys j → Taken x (false ∷ ms) (y ∷ ys) (suc j)
unfolding is_in without
taken_passed x y ms ys j h t =
    record {
      is_free = t.is_free;
      is_there = rw (left_unmarked x y ms ys, h) t.is_there;
      out =
          left_unmarked x y (set ms j true) ys
          ∙ rw (left_unmarked x y ms ys)
          (ap (λ (zs : List (List ℕ)). y ∷ zs) t.out ∙ sym (choose_no (unmarked ms ys) (y ∷ without x (unmarked ms ys)) h));
    }

pub taken : (n : ℕ) (x : List ℕ) (ms : List Bool) (ys : List (List ℕ)) → length ms ≡ length ys → first_place n x ms ys < n + length ys
    → Taken x ms ys (first_place n x ms ys - n)
taken n x ms [] l h = absurd (omega (arith, place_nil n x ms))
taken n x [] (y ∷ ys) l h = absurd (omega arith)
taken n x (true ∷ ms) (y ∷ ys) l h =
    let e : first_place n x (true ∷ ms) (y ∷ ys) ≡ first_place (suc n) x ms ys = place_marked x y ms ys n in
    let w = place_within (suc n) x ms ys (omega arith) in
    let k : first_place n x (true ∷ ms) (y ∷ ys) - n ≡ suc (first_place (suc n) x ms ys - suc n) = omega arith in
    rw k (taken_marked x y ms ys (first_place (suc n) x ms ys - suc n) (taken (suc n) x ms ys (omega arith) (omega arith)))
taken n x (false ∷ ms) (y ∷ ys) l h = go (told (same_name x y)) (taken (suc n) x ms ys (omega arith))
  where
    go : (same_name x y ≡ true) ⊎ (same_name x y ≡ false)
        → (first_place (suc n) x ms ys < suc n + length ys → Taken x ms ys (first_place (suc n) x ms ys - suc n))
        → Taken x (false ∷ ms) (y ∷ ys) (first_place n x (false ∷ ms) (y ∷ ys) - n)
    go (inl e) r =
        let k : first_place n x (false ∷ ms) (y ∷ ys) - n ≡ 0 = omega (arith, place_hit x y ms ys n e) in
        rw k (taken_head x y ms ys e)
    go (inr e) r =
        let q : first_place n x (false ∷ ms) (y ∷ ys) ≡ first_place (suc n) x ms ys = place_miss x y ms ys n e in
        let w = place_within (suc n) x ms ys (omega arith) in
        let k : first_place n x (false ∷ ms) (y ∷ ys) - n ≡ suc (first_place (suc n) x ms ys - suc n) = omega arith in
        rw k (taken_passed x y ms ys (first_place (suc n) x ms ys - suc n) e (r (omega arith)))

-- not found: the name is not among those unmarked
pub missing : (n : ℕ) (x : List ℕ) (ms : List Bool) (ys : List (List ℕ)) → length ms ≡ length ys → n + length ys ≤ first_place n x ms ys
    → is_in x (unmarked ms ys) ≡ false
unfolding is_in unmarked
missing n x [] [] l h = refl
missing n x (m ∷ ms) [] l h = absurd (omega arith)
missing n x [] (y ∷ ys) l h = absurd (omega arith)
missing n x (true ∷ ms) (y ∷ ys) l h =
    rw (left_marked x y ms ys) (missing (suc n) x ms ys (omega arith) (omega (arith, place_marked x y ms ys n)))
missing n x (false ∷ ms) (y ∷ ys) l h = go (told (same_name x y)) (missing (suc n) x ms ys (omega arith))
  where
    go : (same_name x y ≡ true) ⊎ (same_name x y ≡ false) → (suc n + length ys ≤ first_place (suc n) x ms ys → is_in x (unmarked ms ys) ≡ false)
        → is_in x (unmarked (false ∷ ms) (y ∷ ys)) ≡ false
    go (inl e) r = absurd (omega (arith, place_hit x y ms ys n e))
    go (inr e) r = rw (left_unmarked x y ms ys, e) (r (omega (arith, place_miss x y ms ys n e)))

-- marks as bits
pub length_marks : (n m : ℕ) → length (marks_in n m) ≡ n
unfolding marks_in
length_marks zero m = refl
length_marks (suc n) m = ap suc (length_marks n (m / 2))

-- a place that is not marked has its bit, and is marked by taking it away
pub record Bit (n k m : ℕ) : Type 0 where
  pub has : 2 ^ k ≤ m
  pub off : marks_in n (m - 2 ^ k) ≡ set (marks_in n m) k true

low_bit : (n m : ℕ) → eqb (m % 2) 0 ≡ false → Bit (suc n) 0 m
unfolding marks_in
low_bit n m h =
    let o : m % 2 ≡ 1 = odd in
    let a : (m - 1) % 2 ≡ 0 = omega arith in
    let b : (m - 1) / 2 ≡ m / 2 = omega arith in
    record { has = omega arith; off = rw (b, eq-eqb ((m - 1) % 2) 0 a) }
  where
    odd : m % 2 ≡ 1
    odd = let z = eqb-false (m % 2) 0 h in omega arith

high_bit : (n k m : ℕ) → Bit n k (m / 2) → Bit (suc n) (suc k) m
unfolding marks_in
high_bit n k m b =
    let p : 2 ^ suc k ≡ 2 ^ k * 2 = pow-suc 2 k in
    let h : 2 ^ k ≤ m / 2 = b.has in
    let a : (m - 2 ^ suc k) % 2 ≡ m % 2 = omega arith in
    let d : (m - 2 ^ suc k) / 2 ≡ m / 2 - 2 ^ k = omega arith in
    record { has = omega arith; off = rw (a, d) (ap (λ (l : List Bool). eqb (m % 2) 0 ∷ l) b.off) }

pub bit_free : (n k m : ℕ) → get_or (marks_in n m) k true ≡ false → Bit n k m
unfolding marks_in
bit_free zero k m h = absurd (true≢false h)
bit_free (suc n) zero m h = low_bit n m h
bit_free (suc n) (suc k) m h = high_bit n k m (bit_free n k (m / 2) h)

-- a number whose bits are all set marks nothing
pub none_marked : (n k m : ℕ) → m + 1 ≡ 2 ^ k → n ≤ k → every not (marks_in n m) ≡ true
unfolding marks_in every
none_marked zero k m e h = refl
none_marked (suc n) zero m e h = absurd (omega arith)
none_marked (suc n) (suc k) m e h =
    let p : 2 ^ suc k ≡ 2 ^ k * 2 = pow-suc 2 k in
    let q : 0 < 2 ^ k = pow_pos k in
    let o : m % 2 ≡ 0 → ⊥ = λ z. absurd (omega arith) in
    let d : m / 2 + 1 ≡ 2 ^ k = omega arith in
    rw (ne_eqb (m % 2) 0 o) (none_marked n k (m / 2) d (omega arith))
