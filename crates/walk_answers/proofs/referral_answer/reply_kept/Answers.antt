use Rattle.walk_answers.proofs.referral_answer.AnswerLaws.{wide_left}
use native.Mathlib.Omega.{arith}
use mathlib.Core.Path.{sym, refl}
use Rattle.walk_steps.proofs.cycle.MoveLaws.{standing_long, standing_path}
use Rattle.walk_answers.proofs.referral_answer.reply_kept.Goals as goal

pub slice_bounds-take_reply-end : goal.slice_bounds-take_reply-end
slice_bounds-take_reply-end c = omega (arith, c.requires.0.standing.few, standing_long _ _ c.requires.0.standing)

pub slice_bounds-take_reply-end-2 : goal.slice_bounds-take_reply-end-2
slice_bounds-take_reply-end-2 c = sym (standing_path _ _ c.requires.0.standing)

pub returns : goal.returns
returns c = wide_left c.args.refs.now c.args.doms.now c.args.rooms.now c.args.g c.args.q c.requires.0 c.args.reply.now 1 (λ h. absurd (omega (arith, c.requires.1))) c.take_reply-taken.ensures.turn c.take_reply-taken.ensures.back c.take_reply-taken.ensures.after c.rest_after.ensures refl c.requires.1
