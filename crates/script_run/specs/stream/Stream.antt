-- When a piece of the input is read, and what a call leaves whose lines have been written.
use Rattle.std.specs.Prelude.{ℕ, ◌≤◌, ◌≡◌, Bool, true, false, ◌&&◌, not, List, length, leb}
use Rattle.script_run.specs.call_due.Calling.{CallLeft, call_left}
use Rattle.script_run.specs.declared.call_due.Done.{Done}
use Rattle.script_run.specs.declared.stream.Piece.{Piece}

-- a piece is read where no byte of the last one is left, unless the input has ended
unfoldable pub used_up : ℕ → ℕ → Bool → Bool
used_up count at ended = leb count at && not ended

-- the piece to go on with: the same one in the same memory, or what is read, which no contract can say, from its beginning
pub record NextPiece (n at : ℕ) (ended : Bool) (before after : List ℕ) (r : Piece) : Type 0 where
  pub same : used_up n at ended ≡ false → (r ≡ record { count = n; at = at }) × (after ≡ before)
  pub fresh : used_up n at ended ≡ true → r.at ≡ 0
  pub fits : r.count ≤ length after

-- what a call leaves in lent memory
pub record Leaves (x : CallLeft) (r : Done) (refs doms texts : List ℕ) : Type 0 where
  pub left : call_left r.script r.walk refs doms texts x.printed ≡ x
