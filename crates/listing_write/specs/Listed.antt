-- What listing a referral cache answers, and the buffer after it: document 01, "Numbers given back".
use Rattle.std.specs.Prelude.{ℕ, List, length, leb, Result, Ok, Err}
use Rattle.laws.specs.Choice.{choose}
use Rattle.laws.specs.Lists.{pasted}
use Rattle.cache.specs.order.Memory.{referrals, decode, in_order}
use Rattle.listing_write.specs.Form.{listing}
use Rattle.listing_write.specs.declared.ListError.{ListError}
use Rattle.listing_write.specs.declared.ListError.TheVariants.{NotInOrder, TooShort}

-- the text of a cache
unfoldable pub listed_text : List ℕ → List ℕ
listed_text raw = listing (decode referrals raw)

-- the numbers of the answers, 0 where the cache is listed
unfoldable pub list_refusal : Result ℕ ListError → ℕ
list_refusal (Ok n) = 0
list_refusal (Err NotInOrder) = 4
list_refusal (Err TooShort) = 10

-- the answer, 4 before 10: how many units the text has
unfoldable pub list_answer : List ℕ → ℕ → Result ℕ ListError
list_answer raw room = choose (in_order referrals raw) (choose (leb (length (listed_text raw)) room) (Ok (length (listed_text raw))) (Err TooShort)) (Err NotInOrder)

-- "Bytes past what is written stay"; with a refusal all do
unfoldable pub buffer_after : List ℕ → List ℕ → List ℕ
buffer_after raw out = choose (in_order referrals raw) (choose (leb (length (listed_text raw)) (length out)) (pasted out 0 (listed_text raw)) out) out
