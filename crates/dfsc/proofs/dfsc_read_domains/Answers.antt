use mathlib.Core.Path.{refl, ◌∙◌}
use Rattle.cache_store.specs.domain_cache.Code.{domains_refusal}
use Rattle.dfsc_memory.proofs.UnitLaws.{number_of}
use Rattle.dfsc.proofs.dfsc_read_domains.Goals as goal

pub returns : goal.returns
unfolding domains_refusal
returns c = record { number = number_of domains_refusal refl c.number.ensures ∙ c.read_domains-read.ensures.answer; cache = c.read_domains-read.ensures.cache }
