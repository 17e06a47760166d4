-- The next piece: the same where bytes are left or the input has ended, else one that is read.
use mathlib.Core.Path.{◌≡◌, refl, sym, ap, ◌∙◌}
use mathlib.Core.Bool.{Bool, true, false, not, true≢false}
use mathlib.Core.List.{List}
use Prim.Native.Nat.{ℕ, ◌≤◌, ◌<◌}
use native.Mathlib.Omega.{arith}
use lib.ListN.{length}
use lib.Dec.{leb}
use borrow.Author.Tests.{le-leb, leb-true}
use Rattle.laws.proofs.Choices.{and_left, and_right, and_both}
use Rattle.script_run.specs.stream.Stream.{used_up, NextPiece}

module _ (n at : ℕ) {ended : Bool} (before : List ℕ) where
  pub bytes_left : at < n → n ≤ length before → NextPiece n at ended before before (record { count = n; at = at })
  unfolding used_up
  bytes_left h f = record { same = λ e. (refl, refl); fresh = λ e. absurd (let l = leb-true n at (and_left (leb n at) (not ended) e) in omega arith); fits = f }

  pub no_more : ended ≡ true → n ≤ length before → NextPiece n at ended before before (record { count = n; at = at })
  unfolding used_up
  no_more h f = record { same = λ e. (refl, refl); fresh = λ e. absurd (true≢false (sym (and_right (leb n at) (not ended) e) ∙ ap not h)); fits = f }

  pub is_read_lem : n ≤ at → ended ≡ false → {after : List ℕ} {m : ℕ} → m ≤ length after → NextPiece n at ended before after (record { count = m; at = 0 })
  unfolding used_up
  is_read_lem h k f = record { same = λ e. absurd (true≢false (sym (and_both (le-leb n at h) (ap not k)) ∙ e)); fresh = λ e. refl; fits = f }
