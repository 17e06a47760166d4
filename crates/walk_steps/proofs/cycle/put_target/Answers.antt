use Rattle.walk_steps.proofs.cycle.MoveLaws.{standing_long, prefix_inside, put_answer, put_rooms}
use native.Mathlib.Omega.{arith}
use Rattle.walk_steps.proofs.cycle.put_target.Goals as goal

pub put_tried-requires : goal.put_tried-requires
put_tried-requires c = (omega (arith, standing_long _ _ c.requires.0), (c.requires.0.few, prefix_inside c.args.refs.now c.args.texts.now _ c.args.i c.requires.0 c.requires.1.0 c.prefix-k.ensures))

pub returns : goal.returns
returns c = record { answer = put_answer c.args.refs.now c.args.texts.now _ c.args.i c.requires.0 c.requires.1.0 _ c.target-target.ensures c.prefix-k.ensures c.put_tried.ensures.answer; texts = put_rooms c.args.refs.now c.args.texts.now _ c.args.i c.requires.0 c.requires.1.0 _ c.target-target.ensures c.prefix-k.ensures c.put_tried.ensures.texts }
