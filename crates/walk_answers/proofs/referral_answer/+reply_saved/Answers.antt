use Rattle.walk_answers.proofs.referral_answer.AnswerLaws.{taken_fits, kept_left, can_put, put_left}
use native.Mathlib.Omega.{arith}
use mathlib.Core.Path.{sym, refl}
use Rattle.walk_steps.proofs.cycle.MoveLaws.{standing_long, standing_path}
use borrow.Author.Rules.{rules}
use Rattle.walk_answers.proofs.referral_answer.+reply_saved.Goals as goal

pub reply_saved-requires : goal.reply_saved-requires
reply_saved-requires t c = absurd (omega arith)

pub returns-then-g-ge-LONGEST : goal.returns-then-g-ge-LONGEST
returns-then-g-ge-LONGEST t c = absurd (omega arith)

pub slice_bounds-take_reply-end : goal.slice_bounds-take_reply-end
slice_bounds-take_reply-end t c = omega (arith, c.requires.0.standing.few, standing_long _ _ c.requires.0.standing)

pub slice_bounds-take_reply-end-2 : goal.slice_bounds-take_reply-end-2
slice_bounds-take_reply-end-2 t c = sym (standing_path _ _ c.requires.0.standing)

pub rest_fits-requires : goal.rest_fits-requires
rest_fits-requires t c = (taken_fits c.args.refs.now c.args.doms.now c.args.rooms.now c.args.g c.args.q c.requires.0 c.args.reply.now 2336 (λ h. refl) c.take_reply-taken.ensures.turn c.take_reply-taken.ensures.back c.take_reply-taken.ensures.after c.rest_after-r.ensures, omega (arith, standing_long _ _ c.requires.0.standing))

pub returns-else-not-rest_fits : goal.returns-else-not-rest_fits
returns-else-not-rest_fits t c = kept_left c.args.refs.now c.args.doms.now c.args.rooms.now c.args.g c.args.q c.requires.0 c.args.reply.now 2336 (λ h. refl) c.take_reply-taken.ensures.turn c.take_reply-taken.ensures.back c.take_reply-taken.ensures.after c.rest_after-r.ensures c.rest_fits.ensures (search rules)

pub put_back-requires : goal.put_back-requires
put_back-requires t c = can_put c.args.refs.now c.args.doms.now c.args.rooms.now c.args.g c.args.q c.requires.0 c.args.reply.now 2336 (λ h. refl) c.take_reply-taken.ensures.turn c.take_reply-taken.ensures.back c.take_reply-taken.ensures.after c.rest_after-r.ensures c.rest_fits.ensures (search rules)

pub returns-then-not-rest_fits : goal.returns-then-not-rest_fits
returns-then-not-rest_fits t c = put_left c.args.refs.now c.args.doms.now c.args.rooms.now c.args.g c.args.q c.requires.0 c.args.reply.now 2336 (λ h. refl) c.take_reply-taken.ensures.turn c.take_reply-taken.ensures.back c.take_reply-taken.ensures.after c.rest_after-r.ensures c.rest_fits.ensures (search rules) c.put_back.ensures
