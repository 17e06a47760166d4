-- The table of examples: one test computed over all its rows, and what it proves of each.
use Rattle.std.specs.Prelude.{Option, None, Some}
use mathlib.Core.Path.{◌≡◌, refl, sym, ap}
use mathlib.Core.Bool.{Bool, true, false, ◌&&◌, true≢false}
use mathlib.Core.List.{List, [], ◌∷◌, flatten}
use Prim.Native.Nat.{ℕ}
use lib.ListN.{length, take}
use lib.Dec.{eqb}
use borrow.Author.Tests.{eqb-true}
use Rattle.laws.specs.Choice.{choose}
use Rattle.laws.specs.Lists.{every, part, roomed, pasted}
use Rattle.laws.specs.Listed.{listed, same_list}
use Rattle.laws.proofs.Choices.{and_left, and_right}
use Rattle.laws.proofs.Listed.{same_list_true}
use Rattle.unc.specs.names.Names.{folded, same_unit, same_name, plain, nothing_or_dots, good_component, good_name}
use Rattle.unc.specs.names.Paths.{before, pieces, joined, components, component_count, first_of, leads, without_trail, body, good_path, normalised, is_normalised, normalised_count, begins, matches, is_sysvol, replaced}
use Rattle.cache.specs.places.Layout.{place_at, wide_at, flag_at, flag_unit, room_at, text_at, blank, head_of, rooms_of, written}
use Rattle.cache.specs.order.Order.{good_prefix, good_target, first_opens_none, good_referral, good_dc_hint, good_domain, distinct}
use Rattle.cache.specs.order.Memory.{target_of, referral_of, settings_units, settings_at, referral_units, domain_of, domain_units, place_of, piece_of, decode, encode, good_place, keys, good_cache, in_order}
use Rattle.cache_lookup.specs.Lookup.{longer_match, prefix_units, longest_from, longest_match, has_key, with_key_from, with_key, age, expired, target_path}
use Rattle.reply_bytes.specs.texts.Bytes as bytes
use Rattle.reply_read.specs.referral.Request.{bytes_of, request}
use Rattle.reply_read.specs.referral.Request.{buffer_with}
use Rattle.reply_read.specs.referral.Replies as replies
use Rattle.cache_store.specs.entry_after_reply.Stored.{held_at, held, prefixed}
use Rattle.walk_steps.specs.steps.Steps as steps
use Rattle.walk_steps.specs.steps.Held.{caches_of, asking_of, next_of, tried_of, question_of}
use Rattle.walk_steps.specs.question_request.Questions.{request_name, name_fits, rest_fits, with_request, out_after}
use Rattle.walk_steps.specs.walk_texts.Texts.{texts_of}
use Rattle.cache_store.specs.domain_cache.Domains.{good_size}
use Rattle.walk_form.specs.held.Walks.{lent, path_in, tried_in, boot_in, good_limit, good_settings, names_domain, names_prefix, no_party, one_party, asked_in_form, has_tried, end_tried, good_tried, end_status, next_in_form, in_form, walk_of, texts_after}
use Rattle.walk_calls.specs.call_end.Closing.{closes}
use Rattle.walk_form.specs.held.Walks.{core_in}
use Rattle.walk_calls.specs.calls.Calls.{refusal_number, start_rest, start_call, rest_at, rest_in, referral_event, answers, answer_call, referral_call}
use Rattle.theorems.specs.limit.Unlimited.{made_in}
use Rattle.theorems.specs.limit.Calls.{start, after_answer, run}
use Rattle.theorems.specs.limit.Limits.{MovesOf}
use Rattle.theorems.specs.examples.Examples.{Told, gives, puts, ends, told_next, told, memory, begin, overflows, dated, heard, Row, matching, calling, moving, aging, expiring, requesting, replacing, reading, Says, rows, EachSays, no_row, a_row}
use Rattle.theorems.proofs.examples.Round.{five_moves}

-- tests of equal values
same_bool : Bool → Bool → Bool
same_bool true true = true
same_bool true false = false
same_bool false true = false
same_bool false false = true

same_told : Told → Told → Bool
same_told (gives a) (gives b) = eqb a b
same_told (puts a m) (puts b n) = eqb a b && eqb m n
same_told (ends a m) (ends b n) = eqb a b && eqb m n
same_told (gives a) (puts b n) = false
same_told (gives a) (ends b n) = false
same_told (puts a m) (gives b) = false
same_told (puts a m) (ends b n) = false
same_told (ends a m) (gives b) = false
same_told (ends a m) (puts b n) = false

same_texts : List (List ℕ) → List (List ℕ) → Bool
same_texts [] [] = true
same_texts [] (y ∷ b) = false
same_texts (x ∷ a) [] = false
same_texts (x ∷ a) (y ∷ b) = same_list x y && same_texts a b

same_heard : Option (List (List ℕ)) → Option (List (List ℕ)) → Bool
same_heard None None = true
same_heard None (Some b) = false
same_heard (Some a) None = false
same_heard (Some a) (Some b) = same_texts a b

bool_same : (a b : Bool) → same_bool a b ≡ true → a ≡ b
unfolding same_bool
bool_same true true h = refl
bool_same true false h = sym h
bool_same false true h = h
bool_same false false h = refl

told_same : (a b : Told) → same_told a b ≡ true → a ≡ b
unfolding same_told
told_same (gives a) (gives b) h = ap gives (eqb-true a b h)
told_same (puts a m) (puts b n) h = λ i. puts (eqb-true a b (and_left _ _ h) i) (eqb-true m n (and_right (eqb a b) _ h) i)
told_same (ends a m) (ends b n) h = λ i. ends (eqb-true a b (and_left _ _ h) i) (eqb-true m n (and_right (eqb a b) _ h) i)
told_same (gives a) (puts b n) h = absurd (true≢false (sym h))
told_same (gives a) (ends b n) h = absurd (true≢false (sym h))
told_same (puts a m) (gives b) h = absurd (true≢false (sym h))
told_same (puts a m) (ends b n) h = absurd (true≢false (sym h))
told_same (ends a m) (gives b) h = absurd (true≢false (sym h))
told_same (ends a m) (puts b n) h = absurd (true≢false (sym h))

texts_same : (a b : List (List ℕ)) → same_texts a b ≡ true → a ≡ b
unfolding same_texts
texts_same [] [] h = refl
texts_same [] (y ∷ b) h = absurd (true≢false (sym h))
texts_same (x ∷ a) [] h = absurd (true≢false (sym h))
texts_same (x ∷ a) (y ∷ b) h = λ i. same_list_true x y (and_left _ _ h) i ∷ texts_same a b (and_right (same_list x y) _ h) i

heard_same : (a b : Option (List (List ℕ))) → same_heard a b ≡ true → a ≡ b
unfolding same_heard
heard_same None None h = refl
heard_same None (Some b) h = absurd (true≢false (sym h))
heard_same (Some a) None h = absurd (true≢false (sym h))
heard_same (Some a) (Some b) h = ap Some (texts_same a b h)

-- the test of a row
holds : Row → Bool
holds (matching prefix path b) = same_bool (matches prefix path) b
holds (calling c limit path n t) = same_told (told (run limit (memory c) (begin path) (overflows n))) t
holds (moving c limit path ms t) = same_told (told (run limit (memory c) (begin path) start)) t
holds (aging taken clock n) = eqb (age clock taken) n
holds (expiring taken clock ttl b) = same_bool (expired clock (dated ttl taken)) b
holds (requesting name n) = eqb (length (request name)) n
holds (replacing prefix target path s) = same_list (replaced target (length prefix) path) s
holds (reading name reply n h) = eqb (length (take n reply)) n && same_heard (heard (replies.read_referral 8192 name (take n reply))) h

-- what rows say beside their tests: the moves of each start
Beside : Row → Type 0 → Type 0
Beside (matching prefix path b) rest = rest
Beside (calling c limit path n t) rest = rest
Beside (moving c limit path ms t) rest = MovesOf limit (memory c) (begin path) start (made_in c ms) × rest
Beside (aging taken clock n) rest = rest
Beside (expiring taken clock ttl b) rest = rest
Beside (requesting name n) rest = rest
Beside (replacing prefix target path s) rest = rest
Beside (reading name reply n h) rest = rest

AllBeside : List Row → Type 0
AllBeside [] = Unit
AllBeside (r ∷ rs) = Beside r (AllBeside rs)

-- a row that passes says what holds
row_says : (r : Row) (rest : Type 0) → holds r ≡ true → Beside r rest → Says r × rest
unfolding holds Says Beside
row_says (matching prefix path b) rest h m = (bool_same _ _ h, m)
row_says (calling c limit path n t) rest h m = (told_same _ _ h, m)
row_says (moving c limit path ms t) rest h m = ((told_same _ _ h, m.0), m.1)
row_says (aging taken clock n) rest h m = (eqb-true _ _ h, m)
row_says (expiring taken clock ttl b) rest h m = (bool_same _ _ h, m)
row_says (requesting name n) rest h m = (eqb-true _ _ h, m)
row_says (replacing prefix target path s) rest h m = (same_list_true _ _ h, m)
row_says (reading name reply n e) rest h m = ((eqb-true _ _ (and_left _ _ h), heard_same _ _ (and_right (eqb (length (take n reply)) n) _ h)), m)

rows_say : (rs : List Row) → every holds rs ≡ true → AllBeside rs → EachSays rs
unfolding every AllBeside
rows_say [] h m = no_row
rows_say (r ∷ rs) h m =
    let x = row_says r (AllBeside rs) (and_left _ _ h) m in a_row x.0 (rows_say rs (and_right (holds r) _ h) x.1)

-- every row passes
all_hold : every holds rows ≡ true
unfolding holds same_bool same_told same_texts same_heard told told_next memory begin overflows dated heard rows after_answer run choose every part roomed pasted listed same_list flatten folded same_unit same_name plain nothing_or_dots good_component good_name before pieces joined components component_count first_of leads without_trail body good_path normalised is_normalised normalised_count begins matches is_sysvol replaced place_at wide_at flag_at flag_unit room_at text_at blank head_of rooms_of written good_prefix good_target first_opens_none good_referral good_dc_hint good_domain distinct target_of referral_of settings_units referral_units domain_of domain_units place_of piece_of decode encode good_place keys good_cache in_order longer_match prefix_units longest_from longest_match has_key with_key_from with_key age expired target_path bytes.u16_at bytes.u32_at bytes.flag bytes.longer bytes.text bytes.text_from bytes_of request buffer_with replies.referral_count replies.header_flag replies.version_at replies.size_at replies.server_type_at replies.entry_flag replies.text_of replies.starts replies.entries replies.fits replies.path_of replies.is_read replies.same_read replies.matches_read replies.with_first replies.all_read replies.readable replies.fixed_length replies.ttl_at replies.prefix_at replies.target_at replies.good_fields replies.good_entry replies.target_read replies.later_target replies.kept_targets replies.referral_said replies.referral_with replies.referral_in replies.read_or replies.read_as replies.read_referral held_at held prefixed steps.end_number steps.longest steps.domain_named steps.severity steps.step11 steps.step4 steps.step7 steps.step6_host steps.step5_with steps.step5 steps.step2_with steps.step2 steps.is_there steps.hit_at steps.with_hit steps.with_path steps.from_step2 steps.started steps.name_asked steps.domain_in_use steps.referral_in_use steps.dc_count steps.target_count steps.party_count steps.is_in_use steps.doubled steps.failed_host steps.failed steps.referral_fails steps.referral_answered steps.rests steps.asking steps.goes steps.turned caches_of asking_of next_of tried_of question_of request_name name_fits rest_fits with_request out_after texts_of good_size lent path_in tried_in boot_in good_limit good_settings names_domain names_prefix no_party one_party asked_in_form has_tried end_tried good_tried end_status next_in_form in_form walk_of texts_after closes core_in refusal_number start_rest start_call rest_at rest_in referral_event answers answer_call referral_call settings_at
all_hold = refl

all_beside : AllBeside rows
unfolding rows AllBeside Beside
all_beside = (five_moves, tt)

-- "Marked P: proved, as one table under one statement."
pub examples : EachSays rows
examples = rows_say rows all_hold all_beside
