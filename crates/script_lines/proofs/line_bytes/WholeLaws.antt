-- A line that is held piece by piece is held as if it had come at once.
use mathlib.Core.Path.{◌≡◌, refl, sym, ap, ◌∙◌}
use mathlib.Core.List.{List, [], ◌∷◌, ◌++◌, append_assoc}
use mathlib.Core.Logic.{◌⊎◌, inl, inr}
use Prim.Native.Nat.{ℕ, ◌+◌, ◌-◌, ◌≤◌, ◌<◌}
use native.Mathlib.Nat.{add-zero}
use native.Mathlib.Omega.{arith}
use lib.ListN.{length, take, drop, length-take, length-append, drop_of_length-le}
use lib.Seq.{take_all, take-append-le, drop-append-le, take-append-add, drop-append-add, take-append_seam}
use Rattle.laws.specs.Lists.{pasted}
use Rattle.laws.proofs.Orders.{lt_or_le}
use Rattle.laws.proofs.Pasting.{pasted_nil}
use Rattle.script_lines.specs.line_bytes.Held.{next_rest, rest_from, held_of, held_after, line_after}
use Rattle.script_lines.specs.declared.line_bytes.Rest.{Rest}
use Rattle.script_lines.specs.declared.line_bytes.Rest.TheVariants.{None}

pub rest_append : (r : Rest) (s p : List ℕ) → rest_from r (s ++ p) ≡ rest_from (rest_from r s) p
unfolding rest_from
rest_append r [] p = refl
rest_append r (u ∷ s) p = rest_append (next_rest r u) s p

module _ (room : ℕ) (s p : List ℕ) where
  -- a piece that begins in the room
  held_in_lem : length s ≤ room → held_after room (held_of room s) p ≡ held_of room (s ++ p)
  unfolding held_after held_of rest_from
  held_in_lem h =
      let e : length (take room s) ≡ length s = ap length (take_all room s h) in
      let k : room ≡ length s + (room - length s) = omega arith in
      let t : take room (s ++ p) ≡ s ++ take (room - length s) p = ap (λ (n : ℕ). take n (s ++ p)) k ∙ take-append-add s p (room - length s) in
      let d : drop room (s ++ p) ≡ drop (room - length s) p = ap (λ (n : ℕ). drop n (s ++ p)) k ∙ drop-append-add s p (room - length s) in
      let a : length (take room s) + length (take (room - length (take room s)) p) ≡ length (take room (s ++ p)) =
      ap (λ (n : ℕ). n + length (take (room - n) p)) e ∙ (sym (length-append s (take (room - length s) p)) ∙ sym (ap length t)) in
      let b : rest_from (rest_from None (drop room s)) (drop (room - length (take room s)) p) ≡ rest_from None (drop room (s ++ p)) =
      ap (λ (x : List ℕ). rest_from (rest_from None x) (drop (room - length (take room s)) p)) (drop_of_length-le s h) ∙ (ap (λ (n : ℕ). rest_from None (drop (room - n) p)) e ∙ sym (ap (rest_from None) d)) in
      λ i. record { kept = a i; rest = b i }

  -- a piece past it
  held_past : room ≤ length s → held_after room (held_of room s) p ≡ held_of room (s ++ p)
  unfolding held_after held_of rest_from
  held_past h =
      let e : length (take room s) ≡ room = simp length-take (omega arith) in
      let z : room - length (take room s) ≡ 0 = omega arith in
      let a : length (take room s) + length (take (room - length (take room s)) p) ≡ length (take room (s ++ p)) =
      ap (λ (n : ℕ). length (take room s) + length (take n p)) z ∙ (add-zero (length (take room s)) ∙ sym (ap length (take-append-le room s p h))) in
      let b : rest_from (rest_from None (drop room s)) (drop (room - length (take room s)) p) ≡ rest_from None (drop room (s ++ p)) =
      ap (λ (n : ℕ). rest_from (rest_from None (drop room s)) (drop n p)) z ∙ (sym (rest_append None (drop room s) p) ∙ sym (ap (rest_from None) (drop-append-le room s p h))) in
      λ i. record { kept = a i; rest = b i }

  -- with every piece what is held is what is held of all
  pub held_more : held_after room (held_of room s) p ≡ held_of room (s ++ p)
  held_more = go (lt_or_le (length s) room)
    where
      go : (length s < room) ⊎ (room ≤ length s) → held_after room (held_of room s) p ≡ held_of room (s ++ p)
      go (inl h) = held_in_lem (omega arith)
      go (inr h) = held_past h

-- and the kept bytes are its first
module _ (line s p : List ℕ) (first : take (held_of (length line) s).kept line ≡ take (length line) s) where
  line_in_lem : length s ≤ length line → take (held_of (length line) (s ++ p)).kept (line_after line (held_of (length line) s) p) ≡ take (length line) (s ++ p)
  unfolding line_after pasted held_of
  line_in_lem h =
      let n : length (take (length line) s) ≡ length s = ap length (take_all (length line) s h) in
      let k : length line ≡ length s + (length line - length s) = omega arith in
      let t : take (length line) (s ++ p) ≡ s ++ take (length line - length s) p = ap (λ (m : ℕ). take m (s ++ p)) k ∙ take-append-add s p (length line - length s) in
      let f : take (length (take (length line) s)) line ≡ s = first ∙ take_all (length line) s h in
      let g : (m : ℕ) → take (length (s ++ take (length line - length s) p)) (s ++ (take (length line - length s) p ++ drop m line)) ≡ s ++ take (length line - length s) p =
      λ m. ap (take (length (s ++ take (length line - length s) p))) (sym (append_assoc s (take (length line - length s) p) (drop m line))) ∙ take-append_seam (s ++ take (length line - length s) p) (drop m line) in
      ap (λ (x : List ℕ). take (length x) (take (length (take (length line) s)) line ++ (take (length line - length (take (length line) s)) p ++ drop (length (take (length line) s) + length (take (length line - length (take (length line) s)) p)) line))) t
      ∙ (ap (λ (x : List ℕ). take (length (s ++ take (length line - length s) p)) (x ++ (take (length line - length (take (length line) s)) p ++ drop (length (take (length line) s) + length (take (length line - length (take (length line) s)) p)) line))) f
      ∙ (ap (λ (x : ℕ). take (length (s ++ take (length line - length s) p)) (s ++ (take (length line - x) p ++ drop (x + length (take (length line - x) p)) line))) n
      ∙ (g (length s + length (take (length line - length s) p)) ∙ sym t)))

  line_past : length line ≤ length s → take (held_of (length line) (s ++ p)).kept (line_after line (held_of (length line) s) p) ≡ take (length line) (s ++ p)
  unfolding line_after held_of
  line_past h =
      let e : length (take (length line) s) ≡ length line = simp length-take (omega arith) in
      let z : length line - length (take (length line) s) ≡ 0 = omega arith in
      let l : take (length line) (s ++ p) ≡ take (length line) s = take-append-le (length line) s p h in
      ap (λ (x : List ℕ). take (length x) (pasted line (length (take (length line) s)) (take (length line - length (take (length line) s)) p))) l
      ∙ (ap (λ (m : ℕ). take (length (take (length line) s)) (pasted line (length (take (length line) s)) (take m p))) z
      ∙ (ap (take (length (take (length line) s))) (pasted_nil line (length (take (length line) s))) ∙ (first ∙ sym l)))

  pub line_more : take (held_of (length line) (s ++ p)).kept (line_after line (held_of (length line) s) p) ≡ take (length line) (s ++ p)
  line_more = go (lt_or_le (length s) (length line))
    where
      go : (length s < length line) ⊎ (length line ≤ length s) → take (held_of (length line) (s ++ p)).kept (line_after line (held_of (length line) s) p) ≡ take (length line) (s ++ p)
      go (inl h) = line_in_lem (omega arith)
      go (inr h) = line_past h
