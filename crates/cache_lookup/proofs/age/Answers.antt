-- The age of an entry is a difference that wraps.
use Rattle.std.proofs.Common.{arith}
use Rattle.cache_lookup.proofs.AgeLaws.{age_wraps}
use Rattle.cache_lookup.proofs.age.Goals as goal

pub returns : goal.returns
returns c = age_wraps _ _ _ c.wrapping_sub_u32.ensures.value (omega arith) (omega arith)
