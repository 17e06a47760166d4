-- Tests that no two keys are equal.
use mathlib.Core.Path.{refl}
use native.Mathlib.Omega.{arith}
use borrow.Author.Rules.{rules}
use borrow.Author.Tests.{tests}
use Rattle.std.proofs.lemmas.Iterator.{YieldsList-from_range}
use Rattle.std.proofs.lemmas.Iterator.Search.{all_from_yields_List}
use Rattle.cache.specs.order.Code.{key_apart}
use Rattle.cache.proofs.order.TestLaws.{keys_all}
use Rattle.cache.proofs.order.keys_apart.Goals as goal

pub returns : goal.returns
returns c =
    keys_all _
    (all_from_yields_List (key_apart c.args.cache.now) _ _ _ c.all.ensures.ran (YieldsList-from_range 0 _ _ refl refl) (λ x b q k. search (rules, tests)))
    (omega arith)
