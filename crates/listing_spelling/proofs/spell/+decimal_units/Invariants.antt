use Rattle.listing_spelling.proofs.spell.+decimal_units.Given as goal

abbrev pub decreases-decimal_units : goal.decreases-decimal_units
decreases-decimal_units l = l.n
