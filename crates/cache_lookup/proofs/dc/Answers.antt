-- Hands out a DC's name as a part of the memory.
use Rattle.std.proofs.Common.{arith, rules}
use Rattle.cache_lookup.proofs.EntryLaws.{few_dcs, read_dc}
use Rattle.cache_lookup.proofs.dc.Goals as goal

pub overflow_add-j : goal.overflow_add-j
overflow_add-j c = omega (arith, few_dcs _ _ c.requires.1)

pub text-requires : goal.text-requires
text-requires c = (search rules, omega (arith, few_dcs _ _ c.requires.1))

pub returns : goal.returns
returns c = read_dc _ _ _ c.text.ensures c.requires.1
