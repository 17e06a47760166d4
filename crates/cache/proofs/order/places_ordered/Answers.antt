-- The order of every place.
use mathlib.Core.Path.{◌∙◌}
use borrow.Author.Rules.{rules}
use borrow.Author.Tests.{tests}
use Rattle.std.proofs.lemmas.Iterator.{YieldsList-from_slice}
use Rattle.std.proofs.lemmas.Iterator.Search.{all_from_yields_List}
use Rattle.cache.proofs.order.TestLaws.{places_all}
use Rattle.cache.proofs.order.places_ordered.Goals as goal

pub returns : goal.returns
returns c =
    places_all _ _
    (all_from_yields_List _ _ _ _ c.all.ensures.ran (YieldsList-from_slice _ (c.iter.ensures.rest ∙ c.as_chunks.ensures.front)) (λ x b q k. search (rules, tests)))
