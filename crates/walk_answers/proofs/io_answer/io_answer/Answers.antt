use Rattle.walk_answers.proofs.io_answer.TryLaws.{entry_units, gone_left, done_fits, done_party, failing, done_left, fails_left}
use borrow.Author.Rules.{rules}
use Rattle.walk_answers.proofs.io_answer.io_answer.Goals as goal

pub slice_bounds-place-end-2 : goal.slice_bounds-place-end-2
slice_bounds-place-end-2 c = entry_units c.requires

pub returns-in_default : goal.returns-in_default
returns-in_default c = gone_left c.requires c.place.ensures c.args.status c.in_default.is c.clear_units.ensures c.rest.ensures

pub set_target_hint-requires : goal.set_target_hint-requires
set_target_hint-requires c = (c.requires.order, (done_fits c.requires c.place.ensures _ c.in-Some.is, done_party c.requires c.place.ensures _ c.in-Some.is))

pub returns-then-status-ne-ERROR : goal.returns-then-status-ne-ERROR
returns-then-status-ne-ERROR c = done_left c.requires c.place.ensures _ c.in-Some.is c.args.status c.if-status-ne-ERROR.true c.set_target_hint.ensures

pub io_fails-requires : goal.io_fails-requires
io_fails-requires c = failing c.requires c.place.ensures _ c.in-Some.is c.clear_units-2.ensures

pub returns : goal.returns
returns c = fails_left c.requires c.place.ensures _ c.in-Some.is c.args.status (search rules) c.clear_units-2.ensures c.io_fails.ensures
