-- Laws of components as spans of a path.
use mathlib.Core.Path.{◌≡◌, ap, ◌∙◌}
use mathlib.Core.Bool.{Bool, true, false}
use mathlib.Core.List.{List, []}
use Prim.Native.Nat.{ℕ, suc, ◌+◌, ◌-◌, ◌≤◌, ◌<◌}
use native.Mathlib.Omega.{arith}
use lib.ListN.{length, get_or, take, drop}
use lib.Seq.{get_or-drop}
use Rattle.unc.specs.names.Names.{same_name}
use Rattle.unc.specs.names.Paths.{pieces, components, first_of, is_sysvol, sysvol, netlogon}
use Rattle.unc.proofs.names.PieceLaws.{spans}

-- component k (from 0), by the ends of the first k and k + 1 components
module _ (k : ℕ) (s : List ℕ) (from : ℕ) (e : from ≡ length (first_of k s)) where
  component_piece : get_or (components s) k [] ≡ get_or (pieces s) (suc k) []
  unfolding components
  component_piece = get_or-drop 1 (pieces s) k [] ∙ ap (λ (i : ℕ). get_or (pieces s) i []) (omega arith)

  pub span_none : length s ≤ from → get_or (components s) k [] ≡ []
  span_none h = component_piece ∙ (spans k s).none (omega arith)

  pub span_start : (to : ℕ) → to ≡ length (first_of (suc k) s) → from < length s → from + 1 ≤ to
  span_start to f h = omega (arith, (spans k s).some (omega arith))

  pub span_end : (to : ℕ) → to ≡ length (first_of (suc k) s) → to ≤ length s
  span_end to f = omega (arith, (spans (suc k) s).inside)

  pub span_some : (to : ℕ) → to ≡ length (first_of (suc k) s) → from < length s → get_or (components s) k [] ≡ take (to - (from + 1)) (drop (from + 1) s)
  span_some to f h = component_piece ∙ ((spans k s).next (omega arith) ∙ rw (e, f))

-- the test for SYSVOL and NETLOGON, by the second component's span
module _ (s : List ℕ) (from to : ℕ) (e : from ≡ length (first_of 1 s)) where
  pub sysvol_none : length s ≤ from → false ≡ is_sysvol s
  unfolding is_sysvol same_name
  sysvol_none h = rw (span_none 1 s from e h)

  module _ (f : to ≡ length (first_of 2 s)) (h : from < length s) where
    pub sysvol_yes : {r : Bool} → r ≡ same_name (take (to - (from + 1)) (drop (from + 1) s)) sysvol → r ≡ true → true ≡ is_sysvol s
    unfolding is_sysvol
    sysvol_yes p q = rw (span_some 1 s from e to f h, ← p, q)

    pub sysvol_no : {r t : Bool} → r ≡ same_name (take (to - (from + 1)) (drop (from + 1) s)) sysvol → r ≡ false
        → t ≡ same_name (take (to - (from + 1)) (drop (from + 1) s)) netlogon → t ≡ is_sysvol s
    unfolding is_sysvol
    sysvol_no p q g = rw (span_some 1 s from e to f h, ← p, q) g

-- What the functions of this crate name.
-- the second component
pub ruleset second = (span_start, span_end, sysvol_none, sysvol_yes, sysvol_no)
