use Rattle.walk_steps.proofs.cycle.PointLaws.{due_fits, due_stands, due_usable, replaced_at_lem}
use Rattle.walk_steps.proofs.cycle.MoveLaws.{hint_inside, step11_answer, step11_long, step11_room, step11_moved}
use Rattle.walk_steps.proofs.cycle.step11.Goals as goal

pub target_hint-hint-requires : goal.target_hint-hint-requires
target_hint-hint-requires c = due_fits c.args.refs.now c.args.texts.now c.args.n c.requires.0 c.requires.1 c.place-i.ensures

pub put_target-requires : goal.put_target-requires
put_target-requires c = ((due_stands c.args.refs.now c.args.texts.now c.args.n c.requires.0 c.requires.1 c.units.ensures), (due_usable c.args.refs.now c.args.texts.now c.args.n c.requires.0 c.requires.1 c.units.ensures c.place-i.ensures, hint_inside c.args.refs.now c.args.texts.now _ _ (due_stands c.args.refs.now c.args.texts.now c.args.n c.requires.0 c.requires.1 c.units.ensures) (due_usable c.args.refs.now c.args.texts.now c.args.n c.requires.0 c.requires.1 c.units.ensures c.place-i.ensures) c.target_hint-hint.ensures))

pub returns-in_default : goal.returns-in_default
returns-in_default c = record { answer = step11_answer c.args.texts.now _ (due_stands c.args.refs.now c.args.texts.now c.args.n c.requires.0 c.requires.1 c.units.ensures) (replaced_at_lem c.args.refs.now c.args.texts.now c.args.n c.place-i.ensures c.units.ensures c.target_hint-hint.ensures) c.put_target.ensures.answer c.put_target.ensures.texts _ c.in_default.is; texts = step11_long c.args.texts.now _ (due_stands c.args.refs.now c.args.texts.now c.args.n c.requires.0 c.requires.1 c.units.ensures) (replaced_at_lem c.args.refs.now c.args.texts.now c.args.n c.place-i.ensures c.units.ensures c.target_hint-hint.ensures) c.put_target.ensures.answer c.put_target.ensures.texts c.in_default.is }

pub take_tried-requires : goal.take_tried-requires
take_tried-requires c = step11_room c.args.texts.now _ (due_stands c.args.refs.now c.args.texts.now c.args.n c.requires.0 c.requires.1 c.units.ensures) (replaced_at_lem c.args.refs.now c.args.texts.now c.args.n c.place-i.ensures c.units.ensures c.target_hint-hint.ensures) c.put_target.ensures.answer c.put_target.ensures.texts _ c.in-Some.is

pub returns : goal.returns
returns c = record { answer = step11_answer c.args.texts.now _ (due_stands c.args.refs.now c.args.texts.now c.args.n c.requires.0 c.requires.1 c.units.ensures) (replaced_at_lem c.args.refs.now c.args.texts.now c.args.n c.place-i.ensures c.units.ensures c.target_hint-hint.ensures) c.put_target.ensures.answer c.put_target.ensures.texts _ c.in-Some.is; texts = step11_moved c.args.texts.now _ (due_stands c.args.refs.now c.args.texts.now c.args.n c.requires.0 c.requires.1 c.units.ensures) (replaced_at_lem c.args.refs.now c.args.texts.now c.args.n c.place-i.ensures c.units.ensures c.target_hint-hint.ensures) c.put_target.ensures.answer c.put_target.ensures.texts _ c.in-Some.is c.take_tried.ensures }
