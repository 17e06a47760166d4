use Rattle.walk_form.specs.held.Walks.{boot_in}
use Rattle.walk_calls.proofs.call_end.RestLaws.{texts_kept, form_texts, form_limit, form_boot, walk_kept, rest_short, rest_closed}
use Rattle.walk_calls.proofs.call_end.close_answer.Goals as goal

pub returns-then-not-rest_fits : goal.returns-then-not-rest_fits
returns-then-not-rest_fits c = rest_short _ _ (boot_in c.args.walk c.args.texts.now) c.args.r c.args.rooms.now c.args.walk _ _ c.rest_fits.ensures c.if-not-rest_fits.true

pub put_rest-after-requires : goal.put_rest-after-requires
put_rest-after-requires c = (form_limit _ _ c.requires.0, (c.requires.1.0, (form_boot _ _ c.requires.0, (c.requires.1.1.0, (c.requires.1.1.1, form_texts _ _ c.requires.0)))))

pub returns : goal.returns
returns c = rest_closed c.args.walk.limit c.args.walk.size (boot_in c.args.walk c.args.texts.now) c.args.r c.args.rooms.now c.args.walk _ _ c.rest_fits.ensures c.if-not-rest_fits.false (walk_kept _ _ c.requires.0 _ c.put_rest-after.ensures.walk) (texts_kept _ _ _ c.requires.0 c.requires.1.1.0 c.put_rest-after.ensures.texts) c.put_rest-after.ensures.request
