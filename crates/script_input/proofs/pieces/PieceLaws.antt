-- A line lies in its text, and what has come of it is what the definitions say.
use mathlib.Core.Path.{◌≡◌}
use mathlib.Core.Bool.{Bool, true, false}
use mathlib.Core.List.{List, [], ◌∷◌}
use Prim.Native.Nat.{ℕ, suc, ◌+◌, ◌≤◌}
use native.Mathlib.Omega.{arith}
use lib.ListN.{length, drop, length-drop}
use lib.Dec.{eqb}
use Rattle.laws.specs.Choice.{choose}
use Rattle.listing_read.specs.line.Lines.{line_length}

either : (t : Bool) {m n : ℕ} → m ≤ n → choose t 0 (suc m) ≤ suc n
unfolding choose
either true h = omega arith
either false h = omega arith

within : (s : List ℕ) → line_length s ≤ length s
unfolding line_length
within [] = omega arith
within (u ∷ s) = either (eqb u 10) (within s)

pub line_within : (s : List ℕ) (at : ℕ) {e : ℕ} → at ≤ length s → e ≡ at + line_length (drop at s) → (at ≤ e) × (e ≤ length s)
line_within s at h e = let w = within (drop at s) in let l = length-drop at s in (omega arith, omega arith)
