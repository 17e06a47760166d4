-- Reads whether a set opens before a target.
use Rattle.std.proofs.Common.{arith, rules}
use Rattle.cache_lookup.proofs.EntryLaws.{few_targets, read_opens}
use Rattle.cache_lookup.proofs.target_opens.Goals as goal

pub overflow_add-j : goal.overflow_add-j
overflow_add-j c = omega (arith, few_targets _ _ c.requires.1)

pub unit-requires : goal.unit-requires
unit-requires c = (search rules, omega (arith, few_targets _ _ c.requires.1))

pub returns : goal.returns
returns c = read_opens _ _ _ c.unit.ensures c.requires.1
