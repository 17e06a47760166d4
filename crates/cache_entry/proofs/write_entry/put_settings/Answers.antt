use native.Mathlib.Omega.{arith}
use Rattle.cache_entry.proofs.write_entry.WritingLaws.{flag_is, settings_written}
use Rattle.cache_entry.proofs.write_entry.put_settings.Goals as goal

pub returns : goal.returns
returns c =
    settings_written c.args.cache.now c.args.i (omega arith) c.args.s.root c.args.s.interlink c.args.s.failback _ _ _ _ _
    (flag_is _ c.from.ensures) (flag_is _ c.from-2.ensures) (flag_is _ c.from-3.ensures) c.put_settings.ensures
