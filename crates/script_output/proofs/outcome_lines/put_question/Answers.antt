use Rattle.script_output.proofs.printed.PrintedLaws.{question_parts}
use Rattle.script_output.proofs.printed.PieceLaws.{fits_1, fits_2_of_3, fits_3_of_4, fits_4, four_put}
use Rattle.script_output.specs.printed.Printed.{to_key, name_key, ask_line, size_lines}
use Rattle.walk_form.specs.packed.Packing.{kind_at}
use Rattle.listing_write.specs.Form.{path_line, ended, lines_text}
use mathlib.Core.List.{◌++◌}
use Rattle.script_output.proofs.outcome_lines.put_question.Goals as goal

pub put_ask-a-requires : goal.put_ask-a-requires
put_ask-a-requires c = fits_1 c.args.out.now _ _ (ended (ask_line (kind_at c.args.kind))) (ended (path_line to_key c.args.party.now) ++ (ended (path_line name_key c.args.name.now) ++ lines_text (size_lines (kind_at c.args.kind) c.args.size))) c.requires (question_parts (kind_at c.args.kind) c.args.party.now c.args.name.now c.args.size)

pub put_path-b-requires : goal.put_path-b-requires
put_path-b-requires c = fits_2_of_3 _ _ _ (ended (ask_line (kind_at c.args.kind))) (ended (path_line to_key c.args.party.now)) (ended (path_line name_key c.args.name.now) ++ lines_text (size_lines (kind_at c.args.kind) c.args.size)) c.requires (question_parts (kind_at c.args.kind) c.args.party.now c.args.name.now c.args.size) c.put_ask-a.ensures

pub put_path-c-requires : goal.put_path-c-requires
put_path-c-requires c = fits_3_of_4 _ _ _ (ended (ask_line (kind_at c.args.kind))) (ended (path_line to_key c.args.party.now)) (ended (path_line name_key c.args.name.now)) (lines_text (size_lines (kind_at c.args.kind) c.args.size)) c.requires (question_parts (kind_at c.args.kind) c.args.party.now c.args.name.now c.args.size) c.put_ask-a.ensures c.put_path-b.ensures

pub put_size-requires : goal.put_size-requires
put_size-requires c = fits_4 _ _ _ (ended (ask_line (kind_at c.args.kind))) (ended (path_line to_key c.args.party.now)) (ended (path_line name_key c.args.name.now)) (lines_text (size_lines (kind_at c.args.kind) c.args.size)) c.requires (question_parts (kind_at c.args.kind) c.args.party.now c.args.name.now c.args.size) c.put_ask-a.ensures c.put_path-b.ensures c.put_path-c.ensures

pub returns : goal.returns
returns c = four_put _ _ _ (ended (ask_line (kind_at c.args.kind))) (ended (path_line to_key c.args.party.now)) (ended (path_line name_key c.args.name.now)) (lines_text (size_lines (kind_at c.args.kind) c.args.size)) c.requires (question_parts (kind_at c.args.kind) c.args.party.now c.args.name.now c.args.size) c.put_ask-a.ensures c.put_path-b.ensures c.put_path-c.ensures c.put_size.ensures
