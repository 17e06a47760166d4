use Rattle.std.proofs.Common.{◌≡◌, ◌∙◌, take, rules}
use Rattle.std.proofs.iter.runs.Made.{chains}
use Rattle.std.specs.List.{list_all}
use Rattle.listing_spelling.specs.unspell.Reading.{hex_digit}
use Rattle.listing_spelling.proofs.unspell.HexLaws.{hexes_all}
use Rattle.listing_spelling.proofs.unspell.hex_digits.Goals as goal

pub returns : goal.returns
returns c = let e : c.all.result ≡ list_all hex_digit (take 4 c.args.s.now) = search (rules, chains) in e ∙ hexes_all _ c.requires
