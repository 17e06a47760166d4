use Rattle.std.proofs.Common.{◌∙◌, length}
use Rattle.std.proofs.lemmas.Iterator.{YieldsList-from_slice, YieldsList-from_map}
use Rattle.std.proofs.lemmas.Iterator.Consumers.{sum_by_from_yields_List}
use Rattle.listing_spelling.specs.spell.Spelling.{spelled_unit}
use Rattle.listing_spelling.proofs.spell.SpellingLaws.{spelled_sum}
use borrow.Author.Rules.{rules}
use Rattle.listing_spelling.proofs.spell.spelled_units.Goals as goal

pub returns : goal.returns
returns c =
    sum_by_from_yields_List (λ u. length (spelled_unit u)) c.args.s.now c.map.result c.sum.result c.sum.ensures.ran
    (YieldsList-from_map _ (λ u. length (spelled_unit u)) (YieldsList-from_slice c.args.s.now cc) c.map.ensures.closure (λ x r q k. search rules))
    ∙ spelled_sum c.args.s.now
