-- A request into a lent buffer, in three pieces.
use Rattle.reply_read.proofs.referral.RequestLaws.{request_short, request_written}
use native.Mathlib.Omega.{arith}
use Rattle.reply_read.proofs.request.request.Goals as goal

pub returns-then-out-n : goal.returns-then-out-n
returns-then-out-n c = let w = request_short c.args.out.now c.args.name.now c.request_length-n.ensures c.if-out-n.true in record { answer = w.0; buffer = w.1 }

pub returns : goal.returns
returns c =
    let w = request_written c.args.out.now c.args.name.now c.request_length-n.ensures (omega arith) c.put_pair.ensures c.put_units.ensures c.put_pair-2.ensures in
    record { answer = w.0; buffer = w.1 }
