use Rattle.walk_steps.proofs.cycle.MoveLaws.{prefix_inside, step8_long, step8_put, limit_rests}
use Rattle.walk_steps.proofs.walk_texts.TextLaws.{written_units}
use native.Mathlib.Omega.{arith}
use mathlib.Core.Path.{sym, ◌∙◌}
use Rattle.walk_steps.proofs.cycle.step8.Goals as goal

pub returns-then-left-eq0 : goal.returns-then-left-eq0
returns-then-left-eq0 c = λ size. limit_rests _ _ c.requires.0 _ _ size _ c.if-left-eq0.true c.end_at.ensures

pub returns-in_default : goal.returns-in_default
returns-in_default c = step8_long c.args.refs.now c.args.texts.now _ c.args.i c.requires.0 c.requires.1.0 c.args.party c.args.left c.args.began c.args.hit c.if-left-eq0.false c.put_target.ensures.answer c.put_target.ensures.texts c.in_default.is c.end_at-in_default.ensures

pub overflow_cast-q : goal.overflow_cast-q
overflow_cast-q c = omega (arith, prefix_inside c.args.refs.now c.args.texts.now _ c.args.i c.requires.0 c.requires.1.0 c.prefix-k.ensures, c.requires.0.few)

pub overflow_cast-result-2 : goal.overflow_cast-result-2
overflow_cast-result-2 c = omega (arith, (written_units _ _ _ (sym c.put_target.ensures.answer ∙ c.in-Some.is)).0, (written_units _ _ _ (sym c.put_target.ensures.answer ∙ c.in-Some.is)).1)

pub returns : goal.returns
returns c = step8_put c.args.refs.now c.args.texts.now _ c.args.i c.requires.0 c.requires.1.0 c.args.party c.args.left c.args.began c.args.hit c.if-left-eq0.false c.put_target.ensures.answer c.put_target.ensures.texts _ c.in-Some.is c.prefix-k.ensures
