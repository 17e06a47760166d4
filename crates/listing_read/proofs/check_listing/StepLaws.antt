-- Laws of the tests of one line.
use mathlib.Core.Path.{◌≡◌}
use mathlib.Core.Bool.{◌&&◌}
use mathlib.Core.List.{List}
use Prim.Native.Nat.{ℕ, ◌≤◌}
use native.Mathlib.Omega.{arith}
use lib.Dec.{ltb}
use Rattle.std.proofs.lemmas.Bool.Decides.{nat_tests}
use Rattle.laws.specs.Choice.{choose}
use Rattle.listing_write.specs.Form.{target_key}
use Rattle.listing_read.specs.line.Code.{is_path_line}
use Rattle.listing_read.specs.check_listing.Code.{later_line, good_line}

-- the line of a target
pub target_line : (j : ℕ) (line : List ℕ) → 7 ≤ j → good_line j line ≡ (ltb j 15 && is_path_line target_key line)
unfolding good_line later_line choose
target_line j line h = grind (arith, nat_tests)
