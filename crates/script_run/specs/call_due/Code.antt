-- Shapes of the code, proved equal to the rules; nothing here is to be believed.
use Rattle.std.specs.Prelude.{ℕ, ◌≡◌, List}
use Rattle.walk_form.specs.declared.held.Walk.{Walk}
use Rattle.listing_spelling.specs.spell.Spelling.{Put}
use Rattle.script_output.specs.printed.Printed.{refused_line}
use Rattle.script_lines.specs.lines.Script.{after}
use Rattle.script_lines.specs.declared.lines.Script.{Script}
use Rattle.script_lines.specs.declared.lines.Last.TheVariants.{Stopped}
use Rattle.script_run.specs.declared.call_due.Done.{Done}

-- the input is refused: what is said by `Made`, of what does not touch the caches
pub record Refused (s : Script) (w : Walk) (r : Done) (d o : List ℕ) : Type 0 where
  pub script : r.script ≡ after Stopped s
  pub walk : r.walk ≡ w
  pub printed : Put d 0 (refused_line 0) o r.bytes
