use Rattle.walk_steps.proofs.cycle.MoveLaws.{hint_inside, hinted_try}
use Rattle.walk_steps.proofs.cycle.step3.Goals as goal

pub step8-requires : goal.step8-requires
step8-requires c = (c.requires.0, (c.requires.1, hint_inside c.args.refs.now c.args.texts.now _ _ c.requires.0 c.requires.1 c.target_hint-hint.ensures))

pub returns : goal.returns
returns c = hinted_try _ _ _ _ _ c.step8.ensures c.target_hint-hint.ensures
