use Rattle.walk_calls.proofs.start_steps.StartLaws.{cleared_half, path_put, form_put}
use Rattle.walk_calls.proofs.start_steps.put_path.Goals as goal

pub slice_bounds-normalise-end-2 : goal.slice_bounds-normalise-end-2
slice_bounds-normalise-end-2 c = cleared_half 256 _ c.requires c.clear_units.ensures

pub returns : goal.returns
returns c = record { form = form_put _ c.args.rooms.now c.requires c.clear_units.ensures c.normalise.ensures.form; rooms = path_put _ _ c.requires c.clear_units.ensures c.normalise.ensures.room }
