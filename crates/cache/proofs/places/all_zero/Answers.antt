-- Tests a part for zeros.
use borrow.Author.Rules.{rules}
use Rattle.laws.specs.Lists.{part}
use Rattle.cache.proofs.places.ZeroLaws.{zeros_joined}
use Rattle.cache.proofs.places.all_zero.Goals as goal

pub returns : goal.returns
unfolding part
returns c = zeros_joined _ (search rules)
