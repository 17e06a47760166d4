use mathlib.Core.Path.{ap}
use mathlib.Core.Bool.{not, true}
use Rattle.walk_answers.proofs.referral_answer.AnswerLaws.{fails_left, succeeding, succeeds_left}
use native.Mathlib.Omega.{arith}
use mathlib.Core.Path.{sym}
use Rattle.walk_steps.proofs.cycle.MoveLaws.{standing_long, standing_path}
use borrow.Author.Rules.{rules}
use Rattle.walk_answers.proofs.referral_answer.referral_answer.Goals as goal

pub slice_bounds-in_use-end : goal.slice_bounds-in_use-end
slice_bounds-in_use-end c = omega (arith, c.requires.standing.few, standing_long _ _ c.requires.standing)

pub slice_bounds-in_use-end-2 : goal.slice_bounds-in_use-end-2
slice_bounds-in_use-end-2 c = sym (standing_path _ _ c.requires.standing)

pub in_use-requires : goal.in_use-requires
in_use-requires c = (c.requires.good, omega (arith, c.requires.inside, standing_path _ _ c.requires.standing))

pub slice_bounds-referral_fails-end : goal.slice_bounds-referral_fails-end
slice_bounds-referral_fails-end c = omega (arith, c.requires.standing.few, standing_long _ _ c.requires.standing)

pub slice_bounds-referral_fails-end-then-status-ge-WARNING : goal.slice_bounds-referral_fails-end-then-status-ge-WARNING
slice_bounds-referral_fails-end-then-status-ge-WARNING c = sym (standing_path _ _ c.requires.standing)

pub referral_fails-next-requires : goal.referral_fails-next-requires
referral_fails-next-requires c = (c.requires.good, omega (arith, c.requires.inside, standing_path _ _ c.requires.standing))

pub returns-then-status-ge-WARNING : goal.returns-then-status-ge-WARNING
returns-then-status-ge-WARNING c = fails_left c.args.refs.now c.args.doms.now c.args.rooms.now c.args.g c.args.q c.requires c.args.status c.args.reply.now c.in_use.ensures (ap not {y = true} (search rules)) c.if-status-ge-WARNING.true _ c.referral_fails-next.ensures c.rest-then-status-ge-WARNING.ensures

pub succeeded-requires : goal.succeeded-requires
succeeded-requires c = succeeding c.args.refs.now c.args.doms.now c.args.rooms.now c.args.g c.args.q c.requires c.args.status c.args.reply.now c.in_use.ensures (ap not {y = true} (search rules))

pub returns : goal.returns
returns c = succeeds_left c.args.refs.now c.args.doms.now c.args.rooms.now c.args.g c.args.q c.requires c.args.status c.args.reply.now c.in_use.ensures (ap not {y = true} (search rules)) c.if-status-ge-WARNING.false c.succeeded.ensures
