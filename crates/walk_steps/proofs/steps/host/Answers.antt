use Rattle.walk_steps.proofs.steps.StepLaws.{host_start, host_is, first_within}
use Rattle.walk_steps.proofs.steps.host.Goals as goal

pub slice_bounds-result-count : goal.slice_bounds-result-count
slice_bounds-result-count c = host_start _ c.requires c.first_end-n.ensures

pub slice_bounds-result-start : goal.slice_bounds-result-start
slice_bounds-result-start c = host_start _ c.requires c.first_end-n.ensures

pub slice_bounds-result-end : goal.slice_bounds-result-end
slice_bounds-result-end c = first_within 1 _ c.first_end-n.ensures

pub returns : goal.returns
returns c = host_is _ c.requires c.first_end-n.ensures
