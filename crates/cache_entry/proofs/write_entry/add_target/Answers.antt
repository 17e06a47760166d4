use native.Mathlib.Omega.{arith}
use Rattle.cache_entry.proofs.write_entry.WritingLaws.{flag_is, kept_inside_lem, kept_short, target_added}
use Rattle.cache_entry.proofs.write_entry.add_target.Goals as goal

pub add_text-requires : goal.add_text-requires
add_text-requires c =
    (omega arith, (omega arith, (kept_inside_lem c.args.reply.now c.args.k c.requires.1.1, kept_short c.args.reply.now c.args.k c.requires.1.1)))

pub returns : goal.returns
returns c =
    target_added c.args.cache.now c.args.i (omega (arith, c.requires)) c.args.n _ c.args.reply.now c.args.k c.requires.1.1 (omega (arith, c.requires))
    (flag_is _ c.from.ensures) c.add_text.ensures c.put_unit.ensures
