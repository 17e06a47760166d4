-- Shapes of the code, proved equal to the rules; nothing here is to be believed.
use Rattle.std.specs.Prelude.{ℕ, Bool, ◌&&◌, List}
use Rattle.laws.specs.Listed.{same_list}
use Rattle.cache.specs.order.Order.{good_prefix}
use Rattle.listing_spelling.specs.unspell.Reading.{unspelled}
use Rattle.listing_write.specs.Form.{path_line}
use Rattle.listing_read.specs.line.Lines.{value_of}

-- a line of a prefix or a target
unfoldable pub is_path_line : List ℕ → List ℕ → Bool
is_path_line key line = same_list (path_line key (unspelled (value_of key line))) line && good_prefix (unspelled (value_of key line))
