use Rattle.listing_spelling.proofs.spell.SpellingLaws.{hex_put}
use Rattle.listing_spelling.proofs.spell.put_hex.Goals as goal

pub returns : goal.returns
returns c = hex_put c.args.u _ _ _ _ c.digit.ensures c.digit-2.ensures c.digit-3.ensures c.digit-4.ensures c.copy_units.ensures
