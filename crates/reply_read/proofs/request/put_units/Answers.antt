use Rattle.reply_read.proofs.referral.RequestLaws.{units_next, units_start}
use native.Mathlib.Omega.{arith}
use borrow.Author.Rules.{rules}
use Rattle.reply_read.proofs.request.put_units.Goals as goal

pub loop-i-init : goal.loop-i-init
loop-i-init c = (search rules, units_start _ _)

pub loop-i-preserved : goal.loop-i-preserved
loop-i-preserved c = (search rules, units_next c.args.out.now c.args.at c.args.name.now c.loop-i.i c.loop-i.invariant.1 c.put_pair.ensures (omega arith) (omega arith))
