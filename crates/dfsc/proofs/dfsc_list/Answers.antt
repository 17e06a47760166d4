use mathlib.Core.Path.{ap, ◌∙◌}
use Rattle.dfsc_memory.specs.Listing.{list_result}
use Rattle.dfsc.proofs.dfsc_list.Goals as goal

pub returns : goal.returns
returns c = record { answer = c.list_result.ensures ∙ ap list_result c.list-answer.ensures.answer; buffer = c.list-answer.ensures.buffer }
