-- Looks where a prefix ends, compares lengths, then units.
use Rattle.std.proofs.Common.{◌∙◌, le-ltb}
use Rattle.cache.specs.places.Layout.{place_at}
use Rattle.cache_lookup.proofs.FindLaws.{place_shorter, place_longer, place_unmatched}
use Rattle.cache_lookup.proofs.longer_match.Goals as goal

pub returns-then-not-ends_component : goal.returns-then-not-ends_component
returns-then-not-ends_component c =
    place_unmatched (place_at c.args.i c.args.cache.now) _ _ c.text-prefix.ensures (c.ends_component.ensures.0 c.if-not-ends_component.true)

pub returns-then-units-prefix : goal.returns-then-units-prefix
returns-then-units-prefix c =
    place_longer (place_at c.args.i c.args.cache.now) _ _ c.text-prefix.ensures c.if-units-prefix.true (c.same_likely.ensures ∙ (c.ends_component.ensures.1 c.if-not-ends_component.false).1)

pub returns-else-units-prefix : goal.returns-else-units-prefix
returns-else-units-prefix c =
    le-ltb _ _ c.if-units-prefix.false ∙ place_shorter (place_at c.args.i c.args.cache.now) _ _ c.text-prefix.ensures c.if-units-prefix.false
