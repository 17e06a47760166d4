use mathlib.Core.Path.{sym}
use Rattle.walk_steps.proofs.steps.StepLaws.{length_first}
use Rattle.walk_steps.proofs.steps.StepLaws.{root_none, root_fits, root_there, root_link, first_part}
use Rattle.walk_steps.proofs.steps.root_entry.Goals as goal

pub slice_bounds-find_prefix-end : goal.slice_bounds-find_prefix-end
slice_bounds-find_prefix-end c = sym (length_first 2 _ c.first_end-n.ensures)

pub returns-in_err-i : goal.returns-in_err-i
returns-in_err-i c = rw c.from_residual.ensures (root_none _ _ (first_part _ _ c.first_end-n.ensures c.find_prefix.ensures) c.in_err-i.was)

pub is_root-requires : goal.is_root-requires
is_root-requires c = root_fits _ _ (first_part _ _ c.first_end-n.ensures c.find_prefix.ensures) _ c.in_ok-i.was

pub returns-then-is_root : goal.returns-then-is_root
returns-then-is_root c = root_there _ _ (first_part _ _ c.first_end-n.ensures c.find_prefix.ensures) _ c.in_ok-i.was c.is_root.ensures c.if-is_root.true

pub returns-else-is_root : goal.returns-else-is_root
returns-else-is_root c = root_link _ _ (first_part _ _ c.first_end-n.ensures c.find_prefix.ensures) _ c.in_ok-i.was c.is_root.ensures c.if-is_root.false
