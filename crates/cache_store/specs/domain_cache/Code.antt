-- Shapes of the code, proved equal to the rules; nothing here is to be believed.
use Rattle.std.specs.Prelude.{ℕ, ◌≤◌, ◌<◌, ◌≡◌, Bool, true, ◌&&◌, not, List, [], ◌∷◌, ◌++◌, map, length, get_or, take, Result, Ok, Err, ⊤, Option, Some, None}
use Rattle.laws.specs.Choice.{choose}
use Rattle.laws.specs.Lists.{every}
use Rattle.unc.specs.names.Names.{good_name, same_name}
use Rattle.cache.specs.places.Layout.{place_count}
use Rattle.cache.specs.order.Entries.{free, used}
use Rattle.cache.specs.order.Memory.{domains, decode, in_order}
use Rattle.cache_lookup.specs.Code.{entry_at}
use Rattle.reply_bytes.specs.texts.Code.{spanned}
use Rattle.reply_bytes.specs.declared.texts.Span.{Span}
use Rattle.reply_read.specs.referral.Code.{is_inside}
use Rattle.reply_read.specs.referral.Replies.{entries}
use Rattle.reply_read.specs.declared.name_lists.DcsFound.{DcsFound}
use Rattle.reply_read.specs.name_lists.NameLists.{good_domain_name}
use Rattle.reply_read.specs.name_lists.Code.{domain_name}
use Rattle.cache_store.specs.entry_after_reply.Stored.{once}
use Rattle.cache_store.specs.declared.domain_cache.DomainsError.{DomainsError}
use Rattle.cache_store.specs.declared.domain_cache.DomainsError.TheVariants.{NotInOrder, BadSize, TooMany, Unreadable}
use Rattle.cache_store.specs.declared.domain_cache.Names.{Names}

-- A DC reply: a span inside the reply that is a good name
unfoldable pub good_name_span : List ℕ → Span → Bool
good_name_span r s = is_inside r s && good_name (spanned r s)

-- place i of a domain cache in order holds an entry
pub record DomainAt (i : ℕ) (raw : List ℕ) : Type 0 where
  pub order : in_order domains raw ≡ true
  pub fits : i < place_count raw
  pub holds : get_or (decode domains raw) i free ≡ used (entry_at domains i raw)

-- a DC reply that can be stored: at most 8 names, each a good one
pub record StorableDcs (r : List ℕ) (f : DcsFound) : Type 0 where
  pub few : f.count ≤ 8
  pub good : every (good_name_span r) (take f.count f.kept) ≡ true

-- A domain reply: the numbers of its answers, 0 where it is read
unfoldable pub domains_refusal : Result ⊤ DomainsError → ℕ
domains_refusal (Ok u) = 0
domains_refusal (Err BadSize) = 3
domains_refusal (Err NotInOrder) = 4
domains_refusal (Err TooMany) = 6
domains_refusal (Err Unreadable) = 7

-- the request for a domain reply: 0 where it is written, 10 where the buffer is shorter
unfoldable pub asked_number : Option ℕ → ℕ
asked_number (Some n) = 0
asked_number None = 10

-- Words of the functions that gather the different names of a domain reply and write them.

-- none of the names is equal to this one
unfoldable pub is_new : List (List ℕ) → List ℕ → Bool
is_new names n = every (λ m. not (same_name m n)) names

-- the names with one more, if it is new
unfoldable pub with_name : List (List ℕ) → List ℕ → List (List ℕ)
with_name names n = choose (is_new names n) (names ++ (n ∷ [])) names

-- the names that stand in the reply at these spans
abbrev pub shown : List ℕ → Names → List (List ℕ)
shown r v = map (spanned r) (take v.count v.kept)

-- at most 33 names, each a good one: one more than a cache has places
pub record Fit (r : List ℕ) (v : Names) : Type 0 where
  pub room : length v.kept ≡ 33
  pub few : v.count ≤ 33
  pub good : every (good_name_span r) (take v.count v.kept) ≡ true

-- a name was added, if it is new
pub record Added (r : List ℕ) (before : Names) (s : Span) (v : Names) : Type 0 where
  pub fit : Fit r v
  pub are : shown r v ≡ with_name (shown r before) (spanned r s)

-- a well-formed domain reply
pub record WellFormed (r : List ℕ) : Type 0 where
  pub header : 8 ≤ length r
  pub short : length r < 4294967296
  pub good : every (good_domain_name r) (entries r) ≡ true

-- its different names, 33 at most
pub record Gathered (r : List ℕ) (v : Names) : Type 0 where
  pub fit : Fit r v
  pub are : shown r v ≡ take 33 (once (map (domain_name r) (entries r)))
