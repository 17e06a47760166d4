use mathlib.Core.Path.{sym, ◌∙◌}
use native.Mathlib.Omega.{arith}
use Rattle.listing_spelling.proofs.spell.SpellingLaws.{length_stands, length_escaped, put_stands, put_escaped}
use Rattle.listing_spelling.proofs.spell.put_unit.Goals as goal

pub put_unit-requires : goal.put_unit-requires
put_unit-requires c = omega (arith, length_stands _ (sym c.stands.ensures ∙ c.if-stands.true))

pub returns-then-stands : goal.returns-then-stands
returns-then-stands c = put_stands _ (sym c.stands.ensures ∙ c.if-stands.true) c.put_unit.ensures

pub put_unit-requires-else-stands : goal.put_unit-requires-else-stands
put_unit-requires-else-stands c = omega (arith, length_escaped _ (sym c.stands.ensures ∙ c.if-stands.false))

pub put_hex-requires : goal.put_hex-requires
put_hex-requires c = omega (arith, length_escaped _ (sym c.stands.ensures ∙ c.if-stands.false))

pub returns-else-stands : goal.returns-else-stands
returns-else-stands c = put_escaped _ (sym c.stands.ensures ∙ c.if-stands.false) c.requires c.put_unit-else-stands.ensures c.put_hex.ensures
