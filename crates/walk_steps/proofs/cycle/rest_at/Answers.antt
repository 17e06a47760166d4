use Rattle.walk_steps.proofs.cycle.PointLaws.{stands_there, usable_at, fits_at, rest_try, rest_limit, rest_long, rest_asked}
use Rattle.walk_steps.proofs.cycle.MoveLaws.{standing_long, standing_path}
use native.Mathlib.Omega.{arith}
use mathlib.Core.Path.{sym}
use Rattle.walk_steps.proofs.cycle.rest_at.Goals as goal

pub overflow_cast-left : goal.overflow_cast-left
overflow_cast-left c = omega (arith, c.requires.point.counted)

pub step3-requires : goal.step3-requires
step3-requires c = ((stands_there c.args.refs.now c.args.texts.now c.args.size c.args.n c.requires c.units-len.ensures c.had_hit-hit.ensures), usable_at c.args.refs.now c.args.texts.now c.args.size c.args.n c.requires c.units-len.ensures c.had_hit-hit.ensures c.place.ensures c.in-5.is)

pub returns-in-5 : goal.returns-in-5
returns-in-5 c = rest_try c.args.refs.now c.args.texts.now c.args.size c.args.n c.requires c.units-len.ensures c.had_hit-hit.ensures c.place.ensures c.in-5.is c.step3.ensures

pub end_at-requires : goal.end_at-requires
end_at-requires c = (stands_there c.args.refs.now c.args.texts.now c.args.size c.args.n c.requires c.units-len.ensures c.had_hit-hit.ensures).few

pub returns-in-4 : goal.returns-in-4
returns-in-4 c = rest_limit c.args.refs.now c.args.texts.now c.args.size c.args.n c.requires c.units-len.ensures c.had_hit-hit.ensures c.in-4.is c.end_at.ensures

pub end_at-requires-in-10 : goal.end_at-requires-in-10
end_at-requires-in-10 c = (stands_there c.args.refs.now c.args.texts.now c.args.size c.args.n c.requires c.units-len.ensures c.had_hit-hit.ensures).few

pub returns-in-10 : goal.returns-in-10
returns-in-10 c = rest_long c.args.refs.now c.args.texts.now c.args.size c.args.n c.requires c.units-len.ensures c.had_hit-hit.ensures c.in-10.is c.end_at-in-10.ensures

pub slice_bounds-question-end : goal.slice_bounds-question-end
slice_bounds-question-end c = omega (arith, standing_long _ _ (stands_there c.args.refs.now c.args.texts.now c.args.size c.args.n c.requires c.units-len.ensures c.had_hit-hit.ensures), (stands_there c.args.refs.now c.args.texts.now c.args.size c.args.n c.requires c.units-len.ensures c.had_hit-hit.ensures).few)

pub slice_bounds-question-end-in_default : goal.slice_bounds-question-end-in_default
slice_bounds-question-end-in_default c = sym (standing_path _ _ (stands_there c.args.refs.now c.args.texts.now c.args.size c.args.n c.requires c.units-len.ensures c.had_hit-hit.ensures))

pub question-q-requires : goal.question-q-requires
question-q-requires c = (omega (arith, standing_path _ _ (stands_there c.args.refs.now c.args.texts.now c.args.size c.args.n c.requires c.units-len.ensures c.had_hit-hit.ensures), (stands_there c.args.refs.now c.args.texts.now c.args.size c.args.n c.requires c.units-len.ensures c.had_hit-hit.ensures).few), (omega (arith, c.place-in_default.ensures), fits_at c.args.refs.now c.args.texts.now c.args.size c.args.n c.requires c.units-len.ensures c.had_hit-hit.ensures c.place-in_default.ensures))

pub ask-requires : goal.ask-requires
ask-requires c = (stands_there c.args.refs.now c.args.texts.now c.args.size c.args.n c.requires c.units-len.ensures c.had_hit-hit.ensures).few

pub returns-in_default : goal.returns-in_default
returns-in_default c = rest_asked c.args.refs.now c.args.texts.now c.args.size c.args.n c.requires c.units-len.ensures c.had_hit-hit.ensures c.place-in_default.ensures (λ z. omega arith) (λ z. omega arith) (λ z. omega arith) c.question-q.ensures (standing_path _ _ (stands_there c.args.refs.now c.args.texts.now c.args.size c.args.n c.requires c.units-len.ensures c.had_hit-hit.ensures)) c.ask.ensures
