-- Shapes of the code, proved equal to the rules; nothing here is to be believed.
-- The numbers of the answers: document 01, "Numbers given back".
use Rattle.std.specs.Prelude.{ℕ, Result, Ok, Err, ⊤}
use Rattle.listing_read.specs.declared.read_listing.ReadError.{ReadError}
use Rattle.listing_read.specs.declared.read_listing.ReadError.TheVariants.{NotInOrder, NotListing, TooMany}

unfoldable pub load_refusal : Result ⊤ ReadError → ℕ
load_refusal (Ok u) = 0
load_refusal (Err NotInOrder) = 4
load_refusal (Err NotListing) = 8
load_refusal (Err TooMany) = 9
