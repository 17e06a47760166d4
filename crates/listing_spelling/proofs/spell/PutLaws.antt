-- Laws of writers: pieces put one after another.
use mathlib.Core.Path.{◌≡◌, refl, sym, ap, ◌∙◌}
use mathlib.Core.List.{List, [], ◌++◌}
use Prim.Native.Nat.{ℕ, ◌+◌, ◌≤◌}
use native.Mathlib.Omega.{arith}
use lib.ListN.{length, take, length-append}
use Rattle.std.proofs.Common.{zero-add}
use Rattle.laws.specs.Lists.{pasted, part}
use Rattle.laws.proofs.Pasting.{pasted_nil, pasted_join, length_pasted, part_pasted}
use Rattle.listing_spelling.specs.spell.Spelling.{Put}

-- what is left of a piece: it goes to d from place n on, and what stands then is the goal, with its end
pub record Left (goal : List ℕ) (stop : ℕ) (d : List ℕ) (n : ℕ) (rest : List ℕ) : Type 0 where
  pub whole : goal ≡ pasted d n rest
  pub end : stop ≡ n + length rest
  pub fits : n + length rest ≤ length d

pub left_start : (d : List ℕ) (n : ℕ) (p : List ℕ) → n + length p ≤ length d → Left (pasted d n p) (n + length p) d n p
left_start d n p h = record { whole = refl; end = refl; fits = h }

pub length_put : {d : List ℕ} {n : ℕ} {p o : List ℕ} {r : ℕ} → Put d n p o r → n + length p ≤ length d → length o ≡ length d
length_put {d} {n} {p} w h = ap length w.memory ∙ length_pasted d n p h

-- one piece more
pub left_next : {goal : List ℕ} {stop : ℕ} {d : List ℕ} {n : ℕ} {rest : List ℕ} (p q : List ℕ) {o : List ℕ} {r : ℕ}
    → Left goal stop d n rest → rest ≡ p ++ q → Put d n p o r → Left goal stop o r q
left_next {goal} {stop} {d} {n} {rest} p q {o} {r} l e w =
    let k : length rest ≡ length p + length q = ap length e ∙ length-append p q in
    let f = l.fits in
    let g : n + length p ≤ length d = omega arith in
    let m : length o ≡ length d = length_put w g in
    record {
      whole = l.whole
          ∙ (ap (pasted d n) e
          ∙ (sym (pasted_join d n p q (omega arith))
          ∙ (ap (λ (x : List ℕ). pasted x (n + length p) q) (sym w.memory) ∙ ap (λ (x : ℕ). pasted o x q) (sym w.end))));
      end = omega (arith, l.end, w.end);
      fits = omega (arith, w.end);
    }

-- nothing is left
pub left_done : {goal : List ℕ} {stop : ℕ} {d : List ℕ} {n : ℕ} {rest : List ℕ} (c : List ℕ) (m : ℕ) (p : List ℕ)
    → Left goal stop d n rest → goal ≡ pasted c m p → stop ≡ m + length p → rest ≡ [] → Put c m p d n
left_done {goal} {stop} {d} {n} {rest} c m p l g s e =
    let k : length rest ≡ 0 = ap length e in
    record {
      memory = sym (pasted_nil d n) ∙ (ap (pasted d n) (sym e) ∙ (sym l.whole ∙ g));
      end = omega (arith, l.end);
    }

-- two pieces, one after the other
pub put_then : (d : List ℕ) (n : ℕ) (p q : List ℕ) {m o : List ℕ} {a b : ℕ} → Put d n p m a → Put m a q o b → n + length (p ++ q) ≤ length d → Put d n (p ++ q) o b
put_then d n p q {m} {o} {a} {b} v w h =
    let k : length (p ++ q) ≡ length p + length q = length-append p q in
    record {
      memory = w.memory
          ∙ (ap (λ (x : List ℕ). pasted x a q) v.memory ∙ (ap (λ (x : ℕ). pasted (pasted d n p) x q) v.end ∙ pasted_join d n p q (omega arith)));
      end = omega (arith, v.end, w.end);
    }

pub put_piece : {d : List ℕ} {n : ℕ} {p o : List ℕ} → o ≡ pasted d n p → Put d n p o (n + length p)
put_piece e = record { memory = e; end = refl }

-- a piece at the start is what a writer's buffer begins with
pub put_first : {d p o : List ℕ} {r : ℕ} → Put d 0 p o r → length p ≤ length d → take r o ≡ p
unfolding part
put_first {d} {p} {o} {r} w h = (λ i. take ((w.end ∙ zero-add (length p)) i) (w.memory i)) ∙ part_pasted d 0 p (omega arith)
