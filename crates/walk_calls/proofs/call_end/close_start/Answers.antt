use native.Mathlib.Omega.{arith}
use Rattle.walk_calls.proofs.call_end.RestLaws.{texts_put, rest_short, rest_closed}
use Rattle.walk_calls.proofs.call_end.close_start.Goals as goal

pub returns-then-not-rest_fits : goal.returns-then-not-rest_fits
returns-then-not-rest_fits c = λ walk. rest_short c.args.limit c.args.size c.args.boot.now c.args.r c.args.rooms.now walk _ _ c.rest_fits.ensures c.if-not-rest_fits.true

pub returns : goal.returns
returns c = λ walk. rest_closed c.args.limit c.args.size c.args.boot.now c.args.r c.args.rooms.now walk _ _ c.rest_fits.ensures c.if-not-rest_fits.false c.put_rest-new.ensures.walk (texts_put c.args.texts.now _ _ c.requires.1.1.1.1.1 c.requires.1.1.1.0 (omega (arith, c.requires.1.1.0)) c.put_rest-new.ensures.texts c.put_text.ensures) c.put_rest-new.ensures.request
