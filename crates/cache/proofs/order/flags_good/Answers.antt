-- Tests the boundaries and flags of a referral entry.
use native.Mathlib.Omega.{arith}
use borrow.Author.Rules.{rules}
use borrow.Author.Tests.{tests}
use Rattle.std.proofs.lemmas.Iterator.{YieldsList-from_slice}
use Rattle.std.proofs.lemmas.Iterator.Search.{all_from_yields_List}
use Rattle.cache.proofs.order.TestLaws.{flags_all}
use Rattle.cache.proofs.order.flags_good.Goals as goal

pub returns : goal.returns
returns c =
    flags_all _ (omega arith)
    (all_from_yields_List _ _ _ _ c.all.ensures.ran (YieldsList-from_slice _ c.iter.ensures.rest) (λ x b q k. search (rules, tests)))
