-- Document 01: "Text read and listed again is the same text; a cache with one set each and no gap before an entry comes back the same".
use mathlib.Core.Path.{◌≡◌, refl, sym, ap, subst, ◌∙◌}
use mathlib.Core.Bool.{true, false, true≢false, not}
use mathlib.Core.List.{List, [], ◌∷◌, ◌++◌, map}
use mathlib.Core.Logic.{◌⊎◌, inl, inr}
use Prim.Native.Nat.{ℕ, zero, suc, ◌+◌, ◌-◌, ◌*◌, ◌≤◌, ◌<◌}
use native.Mathlib.Omega.{arith}
use lib.ListN.{length, get_or, drop, replicate, get_or-eq_default}
use lib.Dec.{leb, eqb}
use borrow.Author.Tests.{leb-true, le-leb, ltb-true, eq-eqb}
use Rattle.laws.specs.Choice.{choose}
use Rattle.laws.specs.Lists.{every, part}
use Rattle.laws.specs.Listed.{listed}
use Rattle.laws.proofs.Choices.{choose_yes, choose_no, and_both, and_left, and_right}
use Rattle.laws.proofs.Every.{every_append, every_at, every_drop, every_take}
use Rattle.laws.proofs.Listed.{listed_every}
use Rattle.laws.proofs.Orders.{told, lt_or_le}
use Rattle.cache.specs.places.Layout.{place_count, place_at, text_at, room_at, wide_at, unit_at, list_count, ttl_unit, taken_unit}
use Rattle.cache.specs.order.Entries.{Referral, Place, free, used}
use Rattle.cache.specs.order.Order.{good_referral, distinct}
use Rattle.cache.specs.order.Memory.{referrals, settings_at, referral_of, target_of, right_size, decode, encode, in_order, place_of, good_place, keys}
use Rattle.cache.proofs.order.MemoryLaws.{cache_told, order_good, encode_decode, length_decode, decode_encode, in_order_parts}
use Rattle.cache.proofs.order.KindLaws.{referrals_lawful}
use Rattle.listing_write.specs.Form.{entry_text, listing}
use Rattle.listing_write.specs.Listed.{listed_text}
use Rattle.listing_spelling.specs.unspell.Reading.{unit}
use Rattle.listing_read.specs.listing_rules.Entries.{entries_said}
use Rattle.listing_read.specs.listing_rules.Read.{one_set, listable, is_listing, placed, read_number, read_after, entries_in, all_free, no_gaps, plain_cache}
use Rattle.listing_read.proofs.listing_rules.SaidLaws.{listable_told, told_listable, Said, listing_sound, listing_complete, said_same}

-- what a number 0 says
pub record Accepted (text raw : List ℕ) : Type 0 where
  pub size : right_size raw ≡ true
  pub form : is_listing text ≡ true
  pub fits : length (entries_said text) ≤ place_count raw

pub accepted : (text raw : List ℕ) → read_number text raw ≡ 0 → Accepted text raw
unfolding read_number
accepted text raw h = go (told (right_size raw)) (told (is_listing text)) (told (leb (length (entries_said text)) (place_count raw)))
  where
    never : (n : ℕ) → 1 ≤ n → n ≡ 0 → ⊥
    never n l e = omega arith

    go : (right_size raw ≡ true) ⊎ (right_size raw ≡ false) → (is_listing text ≡ true) ⊎ (is_listing text ≡ false)
        → (leb (length (entries_said text)) (place_count raw) ≡ true) ⊎ (leb (length (entries_said text)) (place_count raw) ≡ false) → Accepted text raw
    go (inr a) b c = absurd (never 4 (omega arith) (sym (choose_no _ _ a) ∙ h))
    go (inl a) (inr b) c = absurd (never 8 (omega arith) (sym (choose_yes _ _ a ∙ choose_no _ _ b) ∙ h))
    go (inl a) (inl b) (inr c) = absurd (never 9 (omega arith) (sym (choose_yes _ _ a ∙ (choose_yes _ _ b ∙ choose_no _ _ c)) ∙ h))
    go (inl a) (inl b) (inl c) = record { size = a; form = b; fits = leb-true _ _ c }

pub accept : (text raw : List ℕ) → Accepted text raw → read_number text raw ≡ 0
unfolding read_number
accept text raw a = choose_yes _ _ a.size ∙ (choose_yes _ _ a.form ∙ choose_yes _ _ (le-leb _ _ a.fits))

-- free places list nothing
free_lists : (n : ℕ) → listing (replicate n free) ≡ []
unfolding listing
free_lists zero = refl
free_lists (suc n) = free_lists n

placed_lists : (es : List Referral) (n : ℕ) → listing (map used es ++ replicate n free) ≡ listing (map used es)
unfolding listing
placed_lists [] n = free_lists n
placed_lists (e ∷ es) n = ap (λ (x : List ℕ). entry_text e ++ x) (placed_lists es n)

good_free : (n : ℕ) → every (good_place referrals) (replicate n free) ≡ true
unfolding every good_place
good_free zero = refl
good_free (suc n) = good_free n

good_used : (es : List Referral) → every listable es ≡ true → every (good_place referrals) (map used es) ≡ true
unfolding every good_place
good_used [] h = refl
good_used (e ∷ es) h = and_both (listable_told e (and_left (listable e) _ h)).good (good_used es (and_right (listable e) _ h))

good_placed : (es : List Referral) (n : ℕ) → every listable es ≡ true → every (good_place referrals) (placed n es) ≡ true
unfolding placed
good_placed es n h = every_append (good_place referrals) (map used es) (replicate (n - length es) free) ∙ and_both (good_used es h) (good_free (n - length es))

lists : (es : List Referral) (n : ℕ) → listing (placed n es) ≡ listing (map used es)
unfolding placed
lists es n = placed_lists es (n - length es)

-- Text read and listed again is the same text
pub read_listed : (text raw : List ℕ) → read_number text raw ≡ 0 → listed_text (read_after text raw) ≡ text
unfolding read_after listed_text
read_listed text raw h =
    let a = accepted text raw h in
    let s = listing_sound text a.form in
    let es = entries_said text in
    let ps = placed (place_count raw) es in
    ap listed_text (choose_yes (encode referrals ps) raw (eq-eqb _ _ h))
    ∙ (ap listing (decode_encode referrals referrals_lawful ps (good_placed es (place_count raw) s.each))
    ∙ (lists es (place_count raw) ∙ sym s.form))

-- the places of a cache without gaps
all_free_lem : (ps : List (Place Referral)) → all_free ps ≡ true → ps ≡ replicate (length ps) free
unfolding all_free
all_free_lem [] h = refl
all_free_lem (free ∷ ps) h = ap (λ (x : List (Place Referral)). free ∷ x) (all_free_lem ps h)
all_free_lem (used e ∷ ps) h = absurd (true≢false (sym h))

none_in : (ps : List (Place Referral)) → all_free ps ≡ true → entries_in ps ≡ []
unfolding all_free entries_in
none_in [] h = refl
none_in (free ∷ ps) h = none_in ps h
none_in (used e ∷ ps) h = absurd (true≢false (sym h))

no_gaps_lem : (ps : List (Place Referral)) → no_gaps ps ≡ true → ps ≡ map used (entries_in ps) ++ replicate (length ps - length (entries_in ps)) free
unfolding no_gaps entries_in all_free
no_gaps_lem [] h = refl
no_gaps_lem (free ∷ ps) h =
    let e = none_in ps h in
    let m : ℕ = length (free ∷ ps) - length (entries_in ps) in
    all_free_lem (free ∷ ps) h
    ∙ (ap (λ (n : ℕ). replicate n free) (let k : length (free ∷ ps) ≡ m = omega (arith, ap length e) in k)
    ∙ ap (λ (x : List Referral). map used x ++ replicate m free) (sym e))
no_gaps_lem (used e ∷ ps) h =
    ap (λ (x : List (Place Referral)). used e ∷ x)
    (no_gaps_lem ps h ∙ ap (λ (n : ℕ). map used (entries_in ps) ++ replicate n free) (let k : length ps - length (entries_in ps) ≡ length (used e ∷ ps) - length (e ∷ entries_in ps) = omega arith in k))

entries_few : (ps : List (Place Referral)) → length (entries_in ps) ≤ length ps
unfolding entries_in
entries_few [] = omega arith
entries_few (free ∷ ps) = omega (arith, entries_few ps)
entries_few (used e ∷ ps) = omega (arith, entries_few ps)

listing_in : (ps : List (Place Referral)) → listing ps ≡ listing (map used (entries_in ps))
unfolding listing entries_in
listing_in [] = refl
listing_in (free ∷ ps) = listing_in ps
listing_in (used e ∷ ps) = ap (λ (x : List ℕ). entry_text e ++ x) (listing_in ps)

keys_in : (ps : List (Place Referral)) → keys referrals ps ≡ map (λ e. e.prefix) (entries_in ps)
unfolding keys entries_in
keys_in [] = refl
keys_in (free ∷ ps) = keys_in ps
keys_in (used e ∷ ps) = ap (λ (x : List (List ℕ)). e.prefix ∷ x) (keys_in ps)

-- what memory of 16-bit units holds
every_part : (n k : ℕ) (d : List ℕ) → every unit d ≡ true → every unit (part n k d) ≡ true
unfolding part
every_part n k d h = every_take unit k (drop n d) (every_drop unit n d h)

text_units : (j : ℕ) (piece : List ℕ) → every unit piece ≡ true → every unit (text_at j piece) ≡ true
unfolding text_at room_at
text_units j piece h = every_take unit (unit_at j piece) _ (every_part (32 + j * 256) 256 piece h)

unit_below : (j : ℕ) (piece : List ℕ) → every unit piece ≡ true → unit_at j piece < 65536
unfolding unit
unit_below j piece h = go (lt_or_le j (length piece))
  where
    go : (j < length piece) ⊎ (length piece ≤ j) → unit_at j piece < 65536
    go (inl l) = ltb-true _ _ (every_at unit piece h j 0 l)
    go (inr l) = let e : get_or piece j 0 ≡ 0 = get_or-eq_default piece 0 {n = j} l in omega arith

wide_small : (j : ℕ) (piece : List ℕ) → every unit piece ≡ true → wide_at j piece < 4294967296
unfolding wide_at
wide_small j piece h = omega (arith, unit_below j piece h, unit_below (j + 1) piece h)

-- an entry whose texts are of 16-bit units and whose numbers are of 32 bits
record Narrow (e : Referral) : Type 0 where
  ttl : e.settings.ttl < 4294967296
  taken : e.settings.taken < 4294967296
  prefixed : every unit e.prefix ≡ true
  paths : every (λ t. every unit t.path) e.targets ≡ true

narrow_read : (piece : List ℕ) → every unit piece ≡ true → Narrow (referral_of piece)
unfolding referral_of settings_at target_of
narrow_read piece h = record {
  ttl = wide_small ttl_unit piece h;
  taken = wide_small taken_unit piece h;
  prefixed = text_units 0 piece h;
  paths = listed_every (λ t. every unit t.path) (list_count piece) (λ j. target_of j piece) (λ j l. text_units (1 + j) piece h);
}

data NarrowPlace : Place Referral → Type 0 where
  empty : NarrowPlace free
  full : {e : Referral} → Narrow e → NarrowPlace (used e)

data NarrowPlaces : List (Place Referral) → Type 0 where
  none : NarrowPlaces []
  more : {p : Place Referral} {ps : List (Place Referral)} → NarrowPlace p → NarrowPlaces ps → NarrowPlaces (p ∷ ps)

narrow_listed : (n : ℕ) (f : ℕ → Place Referral) → ((i : ℕ) → NarrowPlace (f i)) → NarrowPlaces (listed n f)
unfolding listed
narrow_listed zero f h = none
narrow_listed (suc n) f h = more (h 0) (narrow_listed n (λ j. f (suc j)) (λ j. h (suc j)))

narrow_place : (piece : List ℕ) → every unit piece ≡ true → NarrowPlace (place_of referrals piece)
unfolding place_of
narrow_place piece h = go (told (eqb (unit_at 0 piece) 0))
  where
    go : (eqb (unit_at 0 piece) 0 ≡ true) ⊎ (eqb (unit_at 0 piece) 0 ≡ false) → NarrowPlace (choose (eqb (unit_at 0 piece) 0) free (used (referral_of piece)))
    go (inl k) = subst NarrowPlace (sym (choose_yes free (used (referral_of piece)) k)) empty
    go (inr k) = subst NarrowPlace (sym (choose_no free (used (referral_of piece)) k)) (full (narrow_read piece h))

narrow_decode : (raw : List ℕ) → every unit raw ≡ true → NarrowPlaces (decode referrals raw)
unfolding decode place_at
narrow_decode raw h = narrow_listed (place_count raw) (λ i. place_of referrals (place_at i raw)) (λ i. narrow_place (place_at i raw) (every_part (i * 2336) 2336 raw h))

sets : (e : Referral) → one_set e ≡ true → every (λ t. not t.opens) e.targets ≡ true
unfolding one_set
sets e h = h

all_listable : {ps : List (Place Referral)} → NarrowPlaces ps → every (good_place referrals) ps ≡ true → every one_set (entries_in ps) ≡ true → every listable (entries_in ps) ≡ true
unfolding every good_place entries_in
all_listable none g o = refl
all_listable (more empty ns) g o = all_listable ns g o
all_listable (more (full {e} n) ns) g o =
    and_both
    (told_listable e (record { good = and_left (good_referral e) _ g; one = sets e (and_left (one_set e) _ o); ttl = n.ttl; taken = n.taken; prefixed = n.prefixed; paths = n.paths }))
    (all_listable ns (and_right (good_referral e) _ g) (and_right (one_set e) _ o))

-- the parts of a plain cache
record Plain (raw : List ℕ) : Type 0 where
  order : in_order referrals raw ≡ true
  units : every unit raw ≡ true
  gapless : no_gaps (decode referrals raw) ≡ true
  single : every one_set (entries_in (decode referrals raw)) ≡ true

plain_told : (raw : List ℕ) → plain_cache raw ≡ true → Plain raw
unfolding plain_cache
plain_told raw h =
    let h₁ = and_right (in_order referrals raw) _ h in
    let h₂ = and_right (every unit raw) _ h₁ in
    record {
      order = and_left (in_order referrals raw) _ h;
      units = and_left (every unit raw) _ h₁;
      gapless = and_left (no_gaps (decode referrals raw)) _ h₂;
      single = and_right (no_gaps (decode referrals raw)) _ h₂;
    }

-- what its text says
plain_said : (raw : List ℕ) → Plain raw → Said (listed_text raw) (entries_in (decode referrals raw))
unfolding listed_text
plain_said raw p =
    let g = cache_told referrals (decode referrals raw) (order_good referrals raw p.order) in
    record {
      form = listing_in (decode referrals raw);
      each = all_listable (narrow_decode raw p.units) g.places p.single;
      apart = ap distinct (sym (keys_in (decode referrals raw))) ∙ g.apart;
    }

gapless : (ps : List (Place Referral)) → no_gaps ps ≡ true → ps ≡ placed (length ps) (entries_in ps)
unfolding placed
gapless ps h = no_gaps_lem ps h

-- A cache with one set each and no gap before an entry comes back the same, whatever the cache held that it is read into
pub comes_back : (raw into : List ℕ) → plain_cache raw ≡ true → right_size into ≡ true → place_count into ≡ place_count raw
    → (read_number (listed_text raw) into ≡ 0) × (read_after (listed_text raw) into ≡ raw)
unfolding read_after
comes_back raw into h s n =
    let p = plain_told raw h in
    let d = plain_said raw p in
    let ps = decode referrals raw in
    let e : entries_said (listed_text raw) ≡ entries_in ps = said_same (listed_text raw) (entries_in ps) d in
    let f : length (entries_said (listed_text raw)) ≤ place_count into = omega (arith, ap length e, entries_few ps, length_decode referrals raw) in
    let z = accept (listed_text raw) into (record { size = s; form = listing_complete (listed_text raw) (entries_in ps) d; fits = f }) in (
      z,
      choose_yes _ into (eq-eqb _ _ z)
          ∙ (ap (λ (x : List Referral). encode referrals (placed (place_count into) x)) e
          ∙ (ap (λ (x : ℕ). encode referrals (placed x (entries_in ps))) (n ∙ sym (length_decode referrals raw))
          ∙ (ap (encode referrals) (sym (gapless ps p.gapless)) ∙ encode_decode referrals raw p.order))),
    )

-- two different caches of as many places, without gaps or sets, have different listings
pub listings_differ : (a b : List ℕ) → plain_cache a ≡ true → plain_cache b ≡ true → place_count a ≡ place_count b → listed_text a ≡ listed_text b → a ≡ b
listings_differ a b p q n e =
    let s = and_left (right_size a) _ (sym (in_order_parts referrals referrals_lawful a) ∙ (plain_told a p).order) in
    sym (comes_back a a p s refl).1 ∙ (ap (λ (x : List ℕ). read_after x a) e ∙ (comes_back b a q s n).1)
