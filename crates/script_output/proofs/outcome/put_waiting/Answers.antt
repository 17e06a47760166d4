use Rattle.std.proofs.lemmas.Result.{err_from_is_err_and}
use Rattle.script_output.proofs.outcome.TellingLaws.{party_fits, name_fits_lem, taken_whole, take_short, question_room, not_shown, party_hidden, name_hidden, question_hidden, question_printed}
use Rattle.script_output.proofs.printed.PrintedLaws.{nothing_put}
use Rattle.listing_write.proofs.EntryLaws.{put_same}
use native.Mathlib.Omega.{arith}
use Rattle.script_output.proofs.outcome.put_waiting.Goals as goal

pub returns-in_err-p : goal.returns-in_err-p
returns-in_err-p c =
    let p = err_from_is_err_and c.from_residual.result c.from_residual.ensures.1 in
    rw p.1 (nothing_put _ _ (party_hidden _ _ _ _ c.question_party.ensures (not_shown _ c.in_err-p.was)))

pub returns-in_err-n : goal.returns-in_err-n
returns-in_err-n c =
    let p = err_from_is_err_and c.from_residual-in_err-n.result c.from_residual-in_err-n.ensures.1 in
    rw p.1 (nothing_put _ _ (name_hidden _ _ _ _ c.question_party.ensures c.in_ok-p.was c.question_name.ensures (not_shown _ c.in_err-n.was)))

pub returns-in_err-question_numbers : goal.returns-in_err-question_numbers
returns-in_err-question_numbers c =
    let p = err_from_is_err_and c.from_residual-in_err-question_numbers.result c.from_residual-in_err-question_numbers.ensures.1 in
    rw p.1
    (nothing_put _ _ (question_hidden _ _ _ _ c.question_party.ensures c.in_ok-p.was c.question_name.ensures c.in_ok-n.was c.question_numbers.ensures (not_shown _ c.in_err-question_numbers.was)))

pub slice_bounds-party-end : goal.slice_bounds-party-end
slice_bounds-party-end c = omega (arith, party_fits _ c.in_ok-p.was _ _ _ _ c.question_party.ensures, c.question_party.auto)

pub slice_bounds-put_question-end : goal.slice_bounds-put_question-end
slice_bounds-put_question-end c = taken_whole _ _ (omega (arith, party_fits _ c.in_ok-p.was _ _ _ _ c.question_party.ensures, c.question_party.auto))

pub slice_bounds-name-end : goal.slice_bounds-name-end
slice_bounds-name-end c = omega (arith, name_fits_lem _ c.in_ok-n.was _ _ c.question_name.ensures, c.question_name.auto)

pub slice_bounds-put_question-end-2 : goal.slice_bounds-put_question-end-2
slice_bounds-put_question-end-2 c = taken_whole _ _ (omega (arith, name_fits_lem _ c.in_ok-n.was _ _ c.question_name.ensures, c.question_name.auto))

pub put_question-requires : goal.put_question-requires
put_question-requires c =
    question_room _ _ _ _ (take_short _ _ _ (party_fits _ c.in_ok-p.was _ _ _ _ c.question_party.ensures)) (take_short _ _ _ (name_fits_lem _ c.in_ok-n.was _ _ c.question_name.ensures)) c.args.at _ c.requires

pub returns : goal.returns
returns c =
    put_same (question_printed _ _ _ _ c.question_party.ensures c.in_ok-p.was c.question_name.ensures c.in_ok-n.was c.question_numbers.ensures c.in_ok-question_numbers.was) c.put_question.ensures
