-- Whether a place is free, as it was seen.
use borrow.Author.Tests.{ne_eqb}
use mathlib.Core.Path.{◌≡◌, sym, ◌∙◌}
use mathlib.Core.Bool.{false}
use Prim.Native.Nat.{ℕ}
use lib.Dec.{eqb}

pub seen_free : {r u : ℕ} → r ≡ u → r ≡ 0 → u ≡ 0
seen_free e h = sym e ∙ h

pub seen_used : {r u : ℕ} → r ≡ u → (r ≡ 0 → ⊥) → eqb u 0 ≡ false
seen_used {r} {u} e h = ne_eqb u 0 (λ f. h (e ∙ f))
