-- What is printed of a path, a number and a status is read as that value: document 01, "Examples to hold it to".
use Rattle.std.specs.Prelude.{ℕ, ◌≤◌, ◌<◌, ◌≡◌, true, List, length, Some}
use Rattle.laws.specs.Lists.{every, pasted}
use Rattle.listing_spelling.specs.unspell.Reading.{unit}
use Rattle.listing_write.specs.Form.{path_line, number_line}
use Rattle.listing_read.specs.line.Lines.{number_said}
use Rattle.script_lines.specs.lines.Script.{text_read, text_taken, status_said}
use Rattle.script_output.specs.printed.Printed.{status_line}

pub record Inverse : Type 0 where
  -- a text of any units, under any key, where the memory lent for it holds it
  pub path : (key s room : List ℕ) → every unit s ≡ true → length s ≤ length room → text_taken key (path_line key s) room ≡ text_read (Some (length s)) (pasted room 0 s)
  -- a number of 32 bits
  pub number : (key : List ℕ) (n : ℕ) → n < 4294967296 → number_said key (number_line key n) ≡ Some n
  pub status : (n : ℕ) → n < 4294967296 → status_said (status_line n) ≡ Some n
