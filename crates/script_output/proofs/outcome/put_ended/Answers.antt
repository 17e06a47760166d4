use Rattle.std.proofs.lemmas.Result.{err_from_is_err_and}
use Rattle.script_output.proofs.outcome.TellingLaws.{path_fits, taken_whole, take_short, end_room, not_shown, path_hidden, end_hidden, end_printed}
use Rattle.script_output.proofs.printed.PrintedLaws.{nothing_put}
use Rattle.listing_write.proofs.EntryLaws.{put_same}
use native.Mathlib.Omega.{arith}
use Rattle.script_output.proofs.outcome.put_ended.Goals as goal

pub returns-in_err-p : goal.returns-in_err-p
returns-in_err-p c =
    let p = err_from_is_err_and c.from_residual.result c.from_residual.ensures.1 in
    rw p.1 (nothing_put _ _ (path_hidden _ _ c.end_path.ensures (not_shown _ c.in_err-p.was)))

pub returns-in_err-end_numbers : goal.returns-in_err-end_numbers
returns-in_err-end_numbers c =
    let p = err_from_is_err_and c.from_residual-in_err-end_numbers.result c.from_residual-in_err-end_numbers.ensures.1 in
    rw p.1 (nothing_put _ _ (end_hidden _ _ c.end_path.ensures c.in_ok-p.was c.end_numbers.ensures (not_shown _ c.in_err-end_numbers.was)))

pub slice_bounds-path-end : goal.slice_bounds-path-end
slice_bounds-path-end c = omega (arith, path_fits _ c.in_ok-p.was _ _ c.end_path.ensures, c.end_path.auto)

pub slice_bounds-put_end-end : goal.slice_bounds-put_end-end
slice_bounds-put_end-end c = taken_whole _ _ (omega (arith, path_fits _ c.in_ok-p.was _ _ c.end_path.ensures, c.end_path.auto))

pub put_end-requires : goal.put_end-requires
put_end-requires c = end_room _ _ _ _ (take_short _ _ _ (path_fits _ c.in_ok-p.was _ _ c.end_path.ensures)) c.args.at _ c.requires

pub returns : goal.returns
returns c = put_same (end_printed _ _ c.end_path.ensures c.in_ok-p.was c.end_numbers.ensures c.in_ok-end_numbers.was) c.put_end.ensures
