-- Compares a key with those of later places.
use mathlib.Core.Path.{refl}
use native.Mathlib.Omega.{arith}
use borrow.Author.Rules.{rules}
use borrow.Author.Tests.{tests}
use Rattle.std.proofs.lemmas.Iterator.{YieldsList-from_range}
use Rattle.std.proofs.lemmas.Iterator.Search.{all_from_yields_List}
use Rattle.cache.specs.places.Layout.{place_at}
use Rattle.cache.specs.order.Code.{other_key}
use Rattle.cache.proofs.order.TestLaws.{key_free, key_all}
use Rattle.cache.proofs.order.key_apart.Goals as goal

pub returns-then-unit-eq0 : goal.returns-then-unit-eq0
returns-then-unit-eq0 c = key_free _ _ c.unit.ensures c.if-unit-eq0.true

pub returns-else-unit-eq0 : goal.returns-else-unit-eq0
unfolding other_key
returns-else-unit-eq0 c =
    key_all _ _ _
    (all_from_yields_List (λ j. other_key c.text-key.result.now (place_at j c.args.cache.now)) _ _ _ c.all.ensures.ran (YieldsList-from_range _ _ _ refl refl)
    (λ x b q k. search (rules, tests)))
    c.unit.ensures
    c.if-unit-eq0.false
    c.text-key.ensures
    (omega arith)
    (omega arith)
