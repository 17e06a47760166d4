-- DC and domain replies into the domain cache: document 01, "Layouts" and "Numbers given back".
use Rattle.std.specs.Prelude.{ℕ, Bool, ◌&&◌, List, [], length, leb, eqb}
use Rattle.laws.specs.Choice.{choose}
use Rattle.cache.specs.places.Layout.{place_count}
use Rattle.cache.specs.order.Memory.{domains, right_size, encode}
use Rattle.reply_read.specs.referral.Request.{request, least_size, most_size}
use Rattle.reply_read.specs.referral.Replies.{Reply, malformed, nothing, says}
use Rattle.reply_read.specs.name_lists.NameLists.{read_domains}
use Rattle.cache_store.specs.entry_after_reply.Stored.{once, domain_places}

-- "size not 1,024 to 57,344" is 3
unfoldable pub good_size : ℕ → Bool
good_size size = leb least_size size && leb size most_size

-- 6: "well-formed domain reply has more different names than places"; 7: "domain reply malformed or empty"
unfoldable pub names_number : ℕ → Reply (List (List ℕ)) → ℕ
names_number places malformed = 7
names_number places nothing = 7
names_number places (says names) = choose (leb (length (once names)) places) 0 6

-- "Lowest number first, except 4 before all. Of a cache that a call only overwrites, only the number of places is tested."
unfoldable pub domains_number : ℕ → List ℕ → List ℕ → ℕ
domains_number size r raw = choose (right_size raw) (choose (good_size size) (names_number (place_count raw) (read_domains size r)) 3) 4

-- the names of a reply
unfoldable pub names_in : Reply (List (List ℕ)) → List (List ℕ)
names_in malformed = []
names_in nothing = []
names_in (says names) = names

-- "it replaces the domain cache, in reply order, equal names once, without DCs"; with any number but 0 nothing changes
unfoldable pub cache_after : ℕ → List (List ℕ) → List ℕ → List ℕ
cache_after number names raw = choose (eqb number 0) (encode domains (domain_places (place_count raw) (once names))) raw

-- the cache after a domain reply
unfoldable pub domains_after : ℕ → List ℕ → List ℕ → List ℕ
domains_after size r raw = cache_after (domains_number size r raw) (names_in (read_domains size r)) raw

-- The request, "domain: the empty name": 0 where it is written, 10 where the buffer is shorter
unfoldable pub request_number : ℕ → ℕ
request_number room = choose (leb (length (request [])) room) 0 10
