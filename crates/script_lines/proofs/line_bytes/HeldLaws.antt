-- Laws of the line that is held.
use mathlib.Core.Path.{◌≡◌, refl, sym, ap, ◌∙◌}
use Rattle.std.proofs.Common.{fold}
use mathlib.Core.List.{List, [], ◌∷◌}
use Prim.Native.Nat.{ℕ, ◌+◌, ◌-◌, ◌≤◌, min}
use native.Mathlib.Nat.{add-zero}
use native.Mathlib.Omega.{arith}
use lib.ListN.{length, take, drop, length-take}
use Rattle.laws.specs.Lists.{pasted}
use Rattle.laws.proofs.Pasting.{pasted_nil}
use Rattle.script_lines.specs.line_bytes.Held.{next_rest, rest_from, held_after, line_after}
use Rattle.script_lines.specs.declared.line_bytes.Rest.{Rest}
use Rattle.script_lines.specs.declared.line_bytes.Held.{Held}
use Rattle.script_lines.proofs.line_bytes.HexLaws.{take_least, drop_least}

-- the rest after a text, byte by byte
pub rest_of_fold : (r : Rest) (s : List ℕ) → fold next_rest r s ≡ rest_from r s
unfolding rest_from
rest_of_fold r [] = refl
rest_of_fold r (u ∷ s) = rest_of_fold (next_rest r u) s

-- a line whose room is full
module _ (line : List ℕ) (h : Held) (p : List ℕ) (full : length line ≤ h.kept) where
  none : length line - h.kept ≡ 0
  none = omega arith

  pub full_held : {r : Rest} → r ≡ rest_from h.rest p → record { kept = h.kept; rest = r } ≡ held_after (length line) h p
  unfolding held_after
  full_held {r} e = rw (none) (λ i. record { kept = sym (add-zero h.kept) i; rest = e i })

  pub full_line : line ≡ line_after line h p
  unfolding line_after
  full_line = rw (none) (sym (pasted_nil line h.kept))

-- a line with room for n bytes more of the piece
module _ (line : List ℕ) (h : Held) (p : List ℕ) (n : ℕ) (e : n ≡ min (length p) (length line - h.kept)) where
  pub room_held : {r : Rest} → r ≡ rest_from h.rest (drop n p) → record { kept = h.kept + n; rest = r } ≡ held_after (length line) h p
  unfolding held_after
  room_held {r} f =
      let k : h.kept + n ≡ h.kept + length (take (length line - h.kept) p) = ap (λ (m : ℕ). h.kept + m) (let z : n ≡ min (length line - h.kept) (length p) = omega arith in z ∙ sym (length-take (length line - h.kept) p)) in
      let g : r ≡ rest_from h.rest (drop (length line - h.kept) p) = f ∙ ap (rest_from h.rest) (drop_least (length line - h.kept) p n (omega arith)) in
      λ i. record { kept = k i; rest = g i }

  pub room_line : {o : List ℕ} → o ≡ pasted line h.kept (take n p) → o ≡ line_after line h p
  unfolding line_after
  room_line f = f ∙ ap (pasted line h.kept) (take_least (length line - h.kept) p n (omega arith))
