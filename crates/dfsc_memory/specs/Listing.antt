-- `dfsc_list`: its answer as a number.
use Rattle.std.specs.Prelude.{ℕ, ◌*◌, Result, Ok, Err}
use Rattle.listing_write.specs.Listed as lst
use Rattle.listing_write.specs.declared.ListError.{ListError}

-- the units of the text, or 2^32 times the number of the refusal
unfoldable pub list_result : Result ℕ ListError → ℕ
list_result (Ok n) = n
list_result (Err e) = 4294967296 * lst.list_refusal (Err e)
