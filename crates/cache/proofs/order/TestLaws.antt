-- Laws of the loops of the order test: what is left to test, and that the tests together say what order is.
use mathlib.Core.Path.{◌≡◌, refl, sym, ap, ◌∙◌}
use mathlib.Core.Bool.{Bool, true, false, ◌&&◌, ◌||◌, not}
use mathlib.Core.List.{List, [], ◌∷◌, map}
use mathlib.Core.Logic.{◌≢◌, ◌⊎◌, inl, inr}
use Prim.Native.Nat.{ℕ, zero, suc, ◌+◌, ◌-◌, ◌<◌, min}
use native.Mathlib.Numerals.{add-one}
use native.Mathlib.Omega.{arith}
use lib.ListN.{length, get_or, take, drop, replicate, length-take}
use lib.Dec.{leb, eqb}
use borrow.Author.Tests.{eqb-true, eqb-false, eq-eqb, ne_eqb}
use Rattle.std.specs.List.{list_all, range_with_len}
use Rattle.std.specs.Simd.{first_chunks}
use Rattle.laws.specs.Choice.{choose}
use Rattle.laws.specs.Lists.{every, part}
use Rattle.laws.specs.Listed.{listed, same_list}
use Rattle.laws.proofs.Choices.{choose_yes, choose_no}
use Rattle.laws.proofs.Orders.{told}
use Rattle.laws.proofs.Tests.{both_ways}
use Rattle.laws.proofs.Parts.{part_whole}
use Rattle.laws.proofs.Pasting.{length_part}
use Rattle.laws.proofs.Every.{all_every}
use Rattle.laws.proofs.Listed.{length_listed, get_d_listed, drop_listed, drop_listed_end, map_listed, listed_part, range_every, chunks_listed}
use Rattle.unc.specs.names.Names.{same_name}
use Rattle.unc.proofs.names.NameLaws.{same_name_unlike}
use Rattle.cache.specs.places.Layout.{place_count, place_at, unit_at, room_at, text_at, list_count, blank, mark_units, ttl_unit}
use Rattle.cache.specs.places.Code.{place_texts, zeros}
use Rattle.cache.proofs.places.LayoutLaws.{length_place}
use Rattle.cache.specs.order.Entries.{Place}
use Rattle.cache.specs.order.Order.{good_referral, good_domain, distinct}
use Rattle.cache.specs.order.Memory.{Kind, referrals, domains, referral_of, referral_units, domain_of, domain_units, right_size, place_of, piece_of, decode, good_place, keys, in_order}
use Rattle.cache.specs.order.Code.{ordered, good_text, good_texts, good_flags, ordered_as, all_ordered, in_order_as, other_key, key_apart, apart, keys_apart}
use Rattle.cache.proofs.order.MemoryLaws.{Lawful, place_free, place_used, in_order_parts}
use Rattle.cache.proofs.order.KindLaws.{referrals_lawful, domains_lawful}

-- a place lent by itself is its own place 0
pub place_alone : (piece : List ℕ) → length piece ≡ 2336 → place_at 0 piece ≡ piece
unfolding place_at
place_alone piece h = part_whole piece 2336 h

-- the texts of a place
pub texts_all : (d : Bool) (piece : List ℕ) {k n : ℕ} {r : Bool} → r ≡ list_all (λ j. good_text d (text_at j (place_at 0 piece))) (range_with_len 0 k)
    → n ≡ list_count (place_at 0 piece) → k ≡ 1 + n → length piece ≡ 2336 → r ≡ good_texts d piece
unfolding good_texts place_texts
texts_all d piece {k = k} e f h whole =
    let n : list_count (place_at 0 piece) ≡ list_count piece = ap (λ (p : List ℕ). list_count p) (place_alone piece whole) in
    e ∙ (ap (λ (p : List ℕ). list_all (λ j. good_text d (text_at j p)) (range_with_len 0 k)) (place_alone piece whole)
    ∙ range_every (good_text d) (1 + list_count piece) (λ j. text_at j piece) 0 k (omega arith))

-- the flags, which stand side by side
pub flags_all : (piece : List ℕ) → length piece ≡ 2336 → {r : Bool} → r ≡ list_all (λ u. leb u 1) (take (ttl_unit - mark_units) (drop mark_units piece)) → r ≡ good_flags piece
unfolding good_flags part
flags_all piece h e =
    e ∙ (all_every (λ u. leb u 1) (part mark_units (ttl_unit - mark_units) piece)
    ∙ ap (every (λ u. leb u 1)) (sym (listed_part mark_units (ttl_unit - mark_units) piece 0 (omega arith))))

-- the places of the memory
pub places_all : (d : Bool) (raw : List ℕ) {r : Bool} → r ≡ list_all (ordered_as d) (first_chunks 2336 (place_count raw) raw) → r ≡ all_ordered d raw
unfolding all_ordered place_at
places_all d raw e =
    e ∙ (all_every (ordered_as d) (first_chunks 2336 (place_count raw) raw) ∙ ap (every (ordered_as d)) (chunks_listed 2336 (place_count raw) raw))

-- the later places of place i
pub key_free : (raw : List ℕ) (i : ℕ) {u : ℕ} → u ≡ unit_at 0 (place_at i raw) → u ≡ 0 → eqb u 0 ≡ key_apart raw i
unfolding key_apart
key_free raw i p e = rw (← p, eq-eqb _ 0 e) refl

pub key_all : (raw : List ℕ) (i k : ℕ) {u s : ℕ} {key : List ℕ} {r : Bool} → r ≡ list_all (λ j. other_key key (place_at j raw)) (range_with_len s k)
    → u ≡ unit_at 0 (place_at i raw) → (u ≡ 0 → ⊥) → key ≡ text_at 0 (place_at i raw) → s ≡ i + 1 → s + k ≡ place_count raw → r ≡ key_apart raw i
unfolding key_apart
key_all raw i k {s = s} {key = key} e p n t b h =
    rw (ne_eqb (unit_at 0 (place_at i raw)) 0 (λ z. n (p ∙ z)))
    (e ∙ (range_every (other_key key) (place_count raw) (λ j. place_at j raw) s k h
    ∙ (ap (λ (x : ℕ). every (other_key key) (drop x (listed (place_count raw) (λ j. place_at j raw)))) b
    ∙ ap (λ (x : List ℕ). every (other_key x) (drop (i + 1) (listed (place_count raw) (λ j. place_at j raw)))) t)))

-- every key
keys_from : (raw : List ℕ) (i k : ℕ) → i + k ≡ place_count raw
    → list_all (key_apart raw) (range_with_len i k) ≡ apart (drop i (listed (place_count raw) (λ j. place_at j raw)))
unfolding apart key_apart
keys_from raw i zero h = rw (drop_listed_end (place_count raw) (λ j. place_at j raw) i (omega arith)) refl
keys_from raw i (suc k) h =
    ap (λ (b : Bool). key_apart raw i && b) (keys_from raw (i + 1) k (omega arith))
    ∙ rw (drop_listed (place_count raw) (λ j. place_at j raw) i (omega arith), add-one i) refl

pub keys_all : (raw : List ℕ) {k : ℕ} {r : Bool} → r ≡ list_all (key_apart raw) (range_with_len 0 k) → k ≡ place_count raw → r ≡ keys_apart raw
unfolding keys_apart
keys_all raw {k = k} e n = e ∙ keys_from raw 0 k (omega arith)

-- the keys that are held are distinct exactly where the places are apart
module _ {E : Type 0} (k : Kind E) (law : Lawful k) where
  text_some : (p : List ℕ) → length p ≡ 2336 → eqb (unit_at 0 p) 0 ≡ false → length (text_at 0 p) ≡ 0 → ⊥
  unfolding text_at room_at
  text_some p w h e =
      let l : length (part 32 256 p) ≡ 256 = length_part 32 256 p (omega arith) in
      let n : length (take (unit_at 0 p) (part 32 256 p)) ≡ min (unit_at 0 p) (length (part 32 256 p)) = length-take (unit_at 0 p) (part 32 256 p) in
      let z : unit_at 0 p ≢ 0 = eqb-false (unit_at 0 p) 0 h in
      omega arith

  pub text_none : (p : List ℕ) → eqb (unit_at 0 p) 0 ≡ true → text_at 0 p ≡ []
  unfolding text_at
  text_none p h = rw (eqb-true (unit_at 0 p) 0 h)

  -- a free place has no key, and so another
  other_keys : (a : List ℕ) → (length a ≡ 0 → ⊥) → (ps : List (List ℕ))
      → every (λ m. not (same_name a m)) (keys k (map (place_of k) ps)) ≡ every (other_key a) ps
  unfolding keys every other_key
  other_keys a n [] = refl
  other_keys a n (p ∷ ps) = go (told (eqb (unit_at 0 p) 0)) (other_keys a n ps)
    where
      go : (eqb (unit_at 0 p) 0 ≡ true) ⊎ (eqb (unit_at 0 p) 0 ≡ false)
          → every (λ m. not (same_name a m)) (keys k (map (place_of k) ps)) ≡ every (other_key a) ps
          → every (λ m. not (same_name a m)) (keys k (place_of k p ∷ map (place_of k) ps)) ≡ (not (same_name a (text_at 0 p)) && every (other_key a) ps)
      go (inl h) e = rw (place_free k p (eqb-true (unit_at 0 p) 0 h), text_none p h, same_name_unlike a [] n) e
      go (inr h) e = rw (place_used k p h, law.first p) (ap (λ (b : Bool). not (same_name a (text_at 0 p)) && b) e)

  keys_apart_lem : (ps : List (List ℕ)) → ((j : ℕ) → j < length ps → length (get_or ps j []) ≡ 2336) → distinct (keys k (map (place_of k) ps)) ≡ apart ps
  unfolding keys apart distinct
  keys_apart_lem [] w = refl
  keys_apart_lem (p ∷ ps) w = go (told (eqb (unit_at 0 p) 0)) (keys_apart_lem ps (λ j h. w (suc j) (omega arith)))
    where
      go : (eqb (unit_at 0 p) 0 ≡ true) ⊎ (eqb (unit_at 0 p) 0 ≡ false) → distinct (keys k (map (place_of k) ps)) ≡ apart ps
          → distinct (keys k (place_of k p ∷ map (place_of k) ps)) ≡ ((eqb (unit_at 0 p) 0 || every (other_key (text_at 0 p)) ps) && apart ps)
      go (inl h) e = rw (place_free k p (eqb-true (unit_at 0 p) 0 h), h) e
      go (inr h) e =
          rw (place_used k p h, law.first p, h)
          (λ i. other_keys (text_at 0 p) (text_some p (w 0 (omega arith)) h) ps i && e i)

  pub distinct_apart : (raw : List ℕ) → distinct (keys k (decode k raw)) ≡ keys_apart raw
  unfolding decode keys_apart
  distinct_apart raw =
      ap (λ (ps : List (Place E)). distinct (keys k ps)) (sym (map_listed (place_of k) (place_count raw) (λ i. place_at i raw)))
      ∙ keys_apart_lem (listed (place_count raw) (λ i. place_at i raw))
      (λ j h. let u : j < place_count raw = simp length_listed at h in
      ap length (get_d_listed (place_count raw) (λ i. place_at i raw) j [] u) ∙ length_place raw j u)

  order_tested : (raw : List ℕ) → in_order k raw ≡ (right_size raw && (every (ordered k) (listed (place_count raw) (λ i. place_at i raw)) && keys_apart raw))
  order_tested raw =
      in_order_parts k law raw
      ∙ ap (λ (b : Bool). right_size raw && (every (ordered k) (listed (place_count raw) (λ i. place_at i raw)) && b)) (distinct_apart raw)

pub order_as : (d : Bool) (raw : List ℕ) → in_order_as d raw ≡ (right_size raw && (all_ordered d raw && keys_apart raw))
unfolding in_order_as all_ordered ordered_as choose
order_as true raw = order_tested domains domains_lawful raw
order_as false raw = order_tested referrals referrals_lawful raw

-- a place by its kind, and a free one
ordered_used : {E : Type 0} (k : Kind E) (piece : List ℕ) → (unit_at 0 piece ≡ 0 → ⊥)
    → (k.good (k.reads piece) && same_list (k.writes (k.reads piece)) piece) ≡ ordered k piece
unfolding ordered good_place piece_of
ordered_used {E} k piece n =
    ap (λ (p : Place E). good_place k p && same_list (piece_of k p) piece) (sym (place_used k piece (ne_eqb (unit_at 0 piece) 0 n)))

eqb_turn : (a : ℕ) → eqb 0 a ≡ eqb a 0
eqb_turn a = both_ways _ _ (λ h. eq-eqb a 0 (sym (eqb-true 0 a h))) (λ h. eq-eqb 0 a (sym (eqb-true a 0 h)))

same_zeros : (s : List ℕ) → same_list (replicate (length s) 0) s ≡ zeros s
unfolding same_list zeros every
same_zeros [] = refl
same_zeros (x ∷ s) = λ i. eqb_turn x i && same_zeros s i

ordered_free : {E : Type 0} (k : Kind E) (piece : List ℕ) → unit_at 0 piece ≡ 0 → length piece ≡ 2336 → zeros piece ≡ ordered k piece
unfolding ordered good_place piece_of blank
ordered_free {E} k piece z w =
    sym (same_zeros piece)
    ∙ (ap (λ (n : ℕ). same_list (replicate n 0) piece) w
    ∙ ap (λ (p : Place E). good_place k p && same_list (piece_of k p) piece) (sym (place_free k piece z)))

module _ (d : Bool) (piece : List ℕ) where
  pub place_domain : {r : Bool} → r ≡ (good_domain (domain_of piece) && same_list (domain_units (domain_of piece)) piece) → d ≡ true → (unit_at 0 piece ≡ 0 → ⊥)
      → r ≡ ordered_as d piece
  unfolding ordered_as
  place_domain e h n = e ∙ (ordered_used domains piece n ∙ sym (choose_yes _ _ h))

  pub place_referral : {r : Bool} → r ≡ (good_referral (referral_of piece) && same_list (referral_units (referral_of piece)) piece) → d ≡ false → (unit_at 0 piece ≡ 0 → ⊥)
      → r ≡ ordered_as d piece
  unfolding ordered_as
  place_referral e h n = e ∙ (ordered_used referrals piece n ∙ sym (choose_no _ _ h))

  pub place_blank : {r : Bool} → r ≡ zeros (part 0 2336 piece) → unit_at 0 piece ≡ 0 → length piece ≡ 2336 → r ≡ ordered_as d piece
  unfolding ordered_as
  place_blank e z w = e ∙ (ap zeros (part_whole piece 2336 w) ∙ either d)
    where
      either : (b : Bool) → zeros piece ≡ choose b (ordered domains piece) (ordered referrals piece)
      either true = ordered_free domains piece z w ∙ sym (choose_yes _ _ refl)
      either false = ordered_free referrals piece z w ∙ sym (choose_no _ _ refl)
