-- A place that was found, or another number.
use Rattle.std.specs.Prelude.{Option, Some, None}
use mathlib.Core.Path.{◌≡◌, sym, ap, ◌∙◌}
use Prim.Native.Nat.{ℕ}
use Rattle.cache_lookup.specs.Lookup.{found_or}

pub found_at : (n i : ℕ) (f : Option ℕ) {g : Option ℕ} → g ≡ f → g ≡ Some i → i ≡ found_or n f
unfolding found_or
found_at n i f h k = sym (ap (found_or n) (sym h ∙ k))

pub found_none : (n : ℕ) (f : Option ℕ) {g : Option ℕ} → g ≡ f → g ≡ None → n ≡ found_or n f
unfolding found_or
found_none n f h k = sym (ap (found_or n) (sym h ∙ k))
