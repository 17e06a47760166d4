-- Examples of domain replies: equal names, the order of the refusals, the request.
use mathlib.Core.Path.{◌≡◌, refl}
use mathlib.Core.List.{[], ◌∷◌}
use lib.ListN.{replicate}
use Rattle.laws.specs.Choice.{choose}
use Rattle.unc.specs.names.Names.{folded, same_unit, same_name}
use Rattle.cache.specs.order.Memory.{right_size}
use Rattle.reply_read.specs.referral.Request.{bytes_of, request}
use Rattle.reply_read.specs.referral.Replies.{read_as}
use Rattle.reply_read.specs.name_lists.NameLists.{read_domains}
use Rattle.cache_store.specs.entry_after_reply.Stored.{keep_unless, others, once}
use Rattle.cache_store.specs.domain_cache.Domains.{good_size, names_number, domains_number, request_number}

-- CORP, b, corp: CORP and b
pub first_spelling : once ((67 ∷ 79 ∷ 82 ∷ 80 ∷ []) ∷ (98 ∷ []) ∷ (99 ∷ 111 ∷ 114 ∷ 112 ∷ []) ∷ []) ≡ (67 ∷ 79 ∷ 82 ∷ 80 ∷ []) ∷ (98 ∷ []) ∷ []
unfolding once others keep_unless same_name same_unit folded choose
first_spelling = refl

-- a cache without a place, a size of 1,023, a reply of no byte: 4, then 3, then 7
pub order_first : domains_number 1023 [] [] ≡ 4
unfolding domains_number right_size choose
order_first = refl

pub size_next : domains_number 1023 [] (replicate 2336 0) ≡ 3
unfolding domains_number right_size good_size choose
size_next = refl

pub reply_last : domains_number 1024 [] (replicate 2336 0) ≡ 7
unfolding domains_number right_size good_size read_domains read_as names_number choose
reply_last = refl

-- the request has four bytes
pub request_bytes : request [] ≡ 4 ∷ 0 ∷ 0 ∷ 0 ∷ []
unfolding request bytes_of
request_bytes = refl

pub room_3 : request_number 3 ≡ 10
unfolding request_number request bytes_of choose
room_3 = refl

pub room_4 : request_number 4 ≡ 0
unfolding request_number request bytes_of choose
room_4 = refl
