use borrow.Author.Rules.{rules}
use Rattle.walk_calls.proofs.answer_steps.DueLaws.{due_texts, due_limit, due_moves, trying_at, io_leaves, io_kept, answer_left_lem, answer_path, answer_closed}
use Rattle.walk_calls.specs.answer_steps.Code.{io_turn}
use mathlib.Core.Path.{refl}
use Rattle.walk_calls.proofs.answer_steps.io_turn.Goals as goal

pub progress-g-requires : goal.progress-g-requires
progress-g-requires c = (due_limit c.requires, due_moves c.requires)

pub copy_rooms-requires : goal.copy_rooms-requires
copy_rooms-requires c = (due_texts c.requires, refl)

pub io_answer-r-requires : goal.io_answer-r-requires
io_answer-r-requires c = trying_at c.requires c.copy_rooms.ensures refl _ _ c.progress-g.ensures

pub close_answer-requires : goal.close_answer-requires
close_answer-requires c = (c.requires.form, (answer_left_lem c.requires (io_turn c.args.refs.now c.args.doms.now c.args.texts.now c.args.walk c.args.q c.args.status) c.args.clock _ (io_kept c.requires c.args.status c.args.clock) (io_leaves c.requires c.copy_rooms.ensures c.args.status c.args.clock _ c.progress-g.ensures c.io_answer-r.ensures), (search rules, answer_path c.requires (io_turn c.args.refs.now c.args.doms.now c.args.texts.now c.args.walk c.args.q c.args.status) c.args.clock _ (io_kept c.requires c.args.status c.args.clock) (io_leaves c.requires c.copy_rooms.ensures c.args.status c.args.clock _ c.progress-g.ensures c.io_answer-r.ensures))))

pub returns : goal.returns
returns c = answer_closed c.requires (io_turn c.args.refs.now c.args.doms.now c.args.texts.now c.args.walk c.args.q c.args.status) c.args.clock _ (io_kept c.requires c.args.status c.args.clock) (io_leaves c.requires c.copy_rooms.ensures c.args.status c.args.clock _ c.progress-g.ensures c.io_answer-r.ensures) _ refl _ c.close_answer.ensures
