use Rattle.script_output.proofs.printed.PrintedLaws.{end_parts}
use Rattle.script_output.proofs.printed.PieceLaws.{fits_1, fits_2_of_3, fits_3_of_4, fits_4, four_put}
use Rattle.script_output.specs.printed.Printed.{end_key, moves_key, status_line}
use Rattle.listing_write.specs.Form.{path_line, number_line, ended}
use mathlib.Core.List.{◌++◌}
use Rattle.listing_write.specs.Keys.{path_key}
use Rattle.script_output.proofs.outcome_lines.put_end.Goals as goal

pub put_number-a-requires : goal.put_number-a-requires
put_number-a-requires c = fits_1 c.args.out.now _ _ (ended (number_line end_key c.args.number)) ((ended (status_line c.args.status)) ++ ((ended (path_line path_key c.args.path.now)) ++ (ended (number_line moves_key c.args.moves)))) c.requires (end_parts c.args.number c.args.status c.args.path.now c.args.moves)

pub put_status-b-requires : goal.put_status-b-requires
put_status-b-requires c = fits_2_of_3 _ _ _ (ended (number_line end_key c.args.number)) (ended (status_line c.args.status)) ((ended (path_line path_key c.args.path.now)) ++ (ended (number_line moves_key c.args.moves))) c.requires (end_parts c.args.number c.args.status c.args.path.now c.args.moves) c.put_number-a.ensures

pub put_path-c-requires : goal.put_path-c-requires
put_path-c-requires c = fits_3_of_4 _ _ _ (ended (number_line end_key c.args.number)) (ended (status_line c.args.status)) (ended (path_line path_key c.args.path.now)) (ended (number_line moves_key c.args.moves)) c.requires (end_parts c.args.number c.args.status c.args.path.now c.args.moves) c.put_number-a.ensures c.put_status-b.ensures

pub put_number-requires : goal.put_number-requires
put_number-requires c = fits_4 _ _ _ (ended (number_line end_key c.args.number)) (ended (status_line c.args.status)) (ended (path_line path_key c.args.path.now)) (ended (number_line moves_key c.args.moves)) c.requires (end_parts c.args.number c.args.status c.args.path.now c.args.moves) c.put_number-a.ensures c.put_status-b.ensures c.put_path-c.ensures

pub returns : goal.returns
returns c = four_put _ _ _ (ended (number_line end_key c.args.number)) (ended (status_line c.args.status)) (ended (path_line path_key c.args.path.now)) (ended (number_line moves_key c.args.moves)) c.requires (end_parts c.args.number c.args.status c.args.path.now c.args.moves) c.put_number-a.ensures c.put_status-b.ensures c.put_path-c.ensures c.put_number.ensures
