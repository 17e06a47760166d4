use native.Mathlib.Omega.{arith}
use mathlib.Core.Path.{refl, sym, ◌∙◌}
use Rattle.walk_steps.proofs.walk_texts.TextLaws.{length_tried, tried_written, told_long, told_fits, with_tried_long, with_tried_fits}
use Rattle.walk_steps.proofs.walk_texts.put_tried.Goals as goal

pub returns-then-rest-target : goal.returns-then-rest-target
returns-then-rest-target c =
    let l = length_tried c.args.target.now c.args.texts.now c.args.len c.args.k (omega arith) in record { answer = told_long 256 _ (omega arith); texts = sym (with_tried_long _ c.args.texts.now (omega arith)) }

pub returns : goal.returns
returns c =
    let l = length_tried c.args.target.now c.args.texts.now c.args.len c.args.k (omega arith) in record {
      answer = told_fits 256 _ l (omega arith);
      texts = tried_written c.args.target.now c.args.texts.now c.args.len c.args.k 256 _ c.copy_units.ensures c.copy_apart.ensures c.clear_units.ensures refl (omega arith) (omega arith) (omega arith) (omega arith)
          ∙ sym (with_tried_fits _ c.args.texts.now (omega arith));
    }
