-- Shapes of the code, proved equal to the rules; nothing here is to be believed.
use Rattle.std.specs.Prelude.{ℕ, ◌≤◌, ◌≡◌, List, [], length, take, leb}
use Rattle.laws.specs.Choice.{choose}
use Rattle.laws.specs.Lists.{pasted, roomed}
use Rattle.walk_steps.specs.walk_texts.Texts.{texts_of}

-- the texts after a new path was put as the path tried; one that is too long for its room changes nothing
unfoldable pub with_tried : List ℕ → List ℕ → List ℕ
with_tried new texts = choose (leb (length new) 256) (pasted texts 256 (roomed 256 new)) texts

-- the path stands in its room, and there is no path tried
pub record Standing (len : ℕ) (texts : List ℕ) : Type 0 where
  pub few : len ≤ 256
  pub stands : texts ≡ texts_of (take len texts) []
