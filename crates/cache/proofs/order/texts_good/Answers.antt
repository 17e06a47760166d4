-- Tests the key and the list of a place.
use mathlib.Core.Path.{refl}
use native.Mathlib.Omega.{arith}
use borrow.Author.Rules.{rules}
use borrow.Author.Tests.{tests}
use Rattle.std.proofs.lemmas.Iterator.{YieldsList-from_range}
use Rattle.std.proofs.lemmas.Iterator.Search.{all_from_yields_List}
use Rattle.cache.specs.places.Layout.{place_at, text_at}
use Rattle.cache.specs.order.Code.{good_text}
use Rattle.cache.proofs.order.TestLaws.{texts_all}
use Rattle.cache.proofs.order.texts_good.Goals as goal

pub returns : goal.returns
returns c =
    texts_all _ _
    (all_from_yields_List (λ j. good_text c.args.domain (text_at j (place_at 0 c.args.piece.now))) _ _ _ c.all.ensures.ran (YieldsList-from_range 0 _ _ refl refl)
    (λ x b q k. search (rules, tests)))
    c.list_count-texts.ensures
    (omega arith)
    (omega arith)
