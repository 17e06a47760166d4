-- Tests the rooms of a place past their texts.
use mathlib.Core.Path.{refl}
use borrow.Author.Rules.{rules}
use borrow.Author.Tests.{tests}
use Rattle.std.proofs.lemmas.Iterator.{YieldsList-from_range}
use Rattle.std.proofs.lemmas.Iterator.Search.{all_from_yields_List}
use Rattle.cache.specs.places.Code.{tidy_room}
use Rattle.cache.proofs.places.TidyLaws.{rooms_all}
use Rattle.cache.proofs.places.rooms_tidy.Goals as goal

pub returns : goal.returns
returns c =
    rooms_all _
    (all_from_yields_List (tidy_room c.args.piece.now) _ _ _ c.all.ensures.ran (YieldsList-from_range 0 9 9 refl refl) (λ x b q k. search (rules, tests)))
