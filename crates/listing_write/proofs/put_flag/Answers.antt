use mathlib.Core.Path.{ap, ◌∙◌}
use Prim.Native.Nat.{ℕ}
use lib.ListN.{length}
use native.Mathlib.Omega.{arith}
use Rattle.listing_write.specs.Form.{ended, number_line}
use Rattle.listing_write.proofs.FormLaws.{flag_from}
use Rattle.listing_write.proofs.EntryLaws.{put_same}
use Rattle.listing_write.proofs.put_flag.Goals as goal

pub put_number-requires : goal.put_number-requires
put_number-requires c = omega (arith, ap (λ (n : ℕ). length (ended (number_line c.args.key.now n))) (c.from.ensures ∙ flag_from c.args.set))

pub returns : goal.returns
returns c = put_same (ap (λ (n : ℕ). ended (number_line c.args.key.now n)) (c.from.ensures ∙ flag_from c.args.set)) c.put_number.ensures
