use mathlib.Core.Path.{refl, ◌∙◌}
use Rattle.listing_read.specs.read_listing.Code.{load_refusal}
use Rattle.dfsc_memory.proofs.UnitLaws.{number_of}
use Rattle.dfsc.proofs.dfsc_read.Goals as goal

pub returns : goal.returns
unfolding load_refusal
returns c = record { number = number_of load_refusal refl c.number.ensures ∙ c.read-answer.ensures.number; cache = c.read-answer.ensures.cache }
