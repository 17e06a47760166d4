-- Looks for an unmarked equal target. The invariant: the targets from j on decide, with the marks that are left.
use Rattle.std.proofs.Common.{◌≡◌, length, map}
use Rattle.cache_entry.specs.equivalent_targets.Code.{first_place, marks_in, given_path}
use Rattle.cache_entry.proofs.equivalent_targets.ComparisonLaws.{seek}
use Rattle.cache_entry.proofs.equivalent_targets.first_unmarked.Given as goal

abbrev pub invariant-loop-j : goal.invariant-loop-j
invariant-loop-j l =
    first_place 0 l.x (marks_in (length l.given) l.marks) (map (given_path l.reply) l.given) ≡ seek l.x l.left l.reply l.given l.j
