-- Laws of a cache in memory, for either kind of entry: reading and writing are inverse, one place changes alone, and order goes place by place.
use mathlib.Core.Path.{◌≡◌, refl, sym, ap, ◌∙◌}
use mathlib.Core.Bool.{true, false, ◌&&◌}
use mathlib.Core.List.{List, [], ◌∷◌, map, flatten}
use Prim.Native.Nat.{ℕ, suc, ◌*◌, ◌/◌, ◌≤◌, ◌<◌}
use native.Mathlib.Omega.{arith}
use lib.ListN.{length, get_or, drop, set, length-map, length-replicate, length-set}
use lib.Dec.{leb, eqb}
use borrow.Author.Tests.{eqb-true, eq-eqb, leb-true, le-leb}
use Rattle.laws.specs.Lists.{every}
use Rattle.laws.specs.Listed.{listed}
use Rattle.laws.proofs.Choices.{choose_yes, choose_no, and_left, and_right, and_both}
use Rattle.laws.proofs.Tests.{both_ways, eq_or_ne}
use Rattle.laws.proofs.Every.{every_at}
use mathlib.Core.Logic.{◌⊎◌, inl, inr}
use lib.Seq.{get_or-set_same, get_or-set_other}
use Rattle.laws.proofs.Listed.{length_listed, get_d_listed, drop_listed, drop_listed_end, listed_same, listed_get_d, set_listed, map_listed, get_d_map, every_listed, listed_every, listed_parts, by_listed_parts, every_set, length_flatten, part_flatten, same_list_true, same_same_list}
use Rattle.cache.specs.places.Layout.{place_count, place_at, unit_at, text_at, blank}
use Rattle.cache.specs.places.Code.{changed}
use Rattle.cache.proofs.places.LayoutLaws.{length_changed, place_changed, place_kept}
use Rattle.cache.specs.order.Entries.{Place, free, used}
use Rattle.cache.specs.order.Order.{distinct}
use Rattle.cache.specs.order.Memory.{Kind, right_size, place_of, piece_of, decode, encode, good_place, keys, good_cache, in_order}
use Rattle.cache.specs.order.Code.{ordered}

-- what the laws ask of a kind of entry: a good entry fills a place, comes back when read, and does not look free
pub record Lawful {E : Type 0} (k : Kind E) : Type 0 where
  pub first : (piece : List ℕ) → k.key (k.reads piece) ≡ text_at 0 piece
  pub long : (e : E) → k.good e ≡ true → length (k.writes e) ≡ 2336
  pub back : (e : E) → k.good e ≡ true → k.reads (k.writes e) ≡ e
  pub shows : (e : E) → k.good e ≡ true → eqb (unit_at 0 (k.writes e)) 0 ≡ false

pub length_blank : length blank ≡ 2336
unfolding blank
length_blank = length-replicate {A = ℕ} 2336 0

-- a right size, and a good cache, test by test
pub record RightSize (raw : List ℕ) : Type 0 where
  pub least : 1 ≤ place_count raw
  pub most : place_count raw ≤ 32
  pub whole : place_count raw * 2336 ≡ length raw

pub size_told : (raw : List ℕ) → right_size raw ≡ true → RightSize raw
unfolding right_size
size_told raw h =
    let r : (leb (place_count raw) 32 && eqb (place_count raw * 2336) (length raw)) ≡ true = and_right (leb 1 (place_count raw)) _ h in
    record {
      least = leb-true _ _ (and_left (leb 1 (place_count raw)) _ h);
      most = leb-true _ _ (and_left (leb (place_count raw) 32) _ r);
      whole = eqb-true _ _ (and_right (leb (place_count raw) 32) _ r);
    }

pub size_right : (raw : List ℕ) → RightSize raw → right_size raw ≡ true
unfolding right_size
size_right raw s =
    and_both {a = leb 1 (place_count raw)} (le-leb _ _ s.least)
    (and_both {a = leb (place_count raw) 32} (le-leb _ _ s.most) (eq-eqb _ _ s.whole))

module _ {E : Type 0} (k : Kind E) (ps : List (Place E)) where
  pub record GoodCache : Type 0 where
    pub least : 1 ≤ length ps
    pub most : length ps ≤ 32
    pub places : every (good_place k) ps ≡ true
    pub apart : distinct (keys k ps) ≡ true

  pub cache_told : good_cache k ps ≡ true → GoodCache
  unfolding good_cache
  cache_told h =
      let r : (leb (length ps) 32 && (every (good_place k) ps && distinct (keys k ps))) ≡ true = and_right (leb 1 (length ps)) _ h in
      let q : (every (good_place k) ps && distinct (keys k ps)) ≡ true = and_right (leb (length ps) 32) _ r in
      record {
        least = leb-true _ _ (and_left (leb 1 (length ps)) _ h);
        most = leb-true _ _ (and_left (leb (length ps) 32) _ r);
        places = and_left _ _ q;
        apart = and_right (every (good_place k) ps) _ q;
      }

  pub good_cache_lem : GoodCache → good_cache k ps ≡ true
  unfolding good_cache
  good_cache_lem g =
      and_both {a = leb 1 (length ps)} (le-leb _ _ g.least)
      (and_both {a = leb (length ps) 32} (le-leb _ _ g.most) (and_both g.places g.apart))

-- reading
module _ {E : Type 0} (k : Kind E) where
  pub length_decode : (raw : List ℕ) → length (decode k raw) ≡ place_count raw
  unfolding decode
  length_decode raw = length_listed (place_count raw) (λ i. place_of k (place_at i raw))

  pub decode_at : (raw : List ℕ) (i : ℕ) (z : Place E) → i < place_count raw → get_or (decode k raw) i z ≡ place_of k (place_at i raw)
  unfolding decode
  decode_at raw i z h = get_d_listed (place_count raw) (λ j. place_of k (place_at j raw)) i z h

  pub drop_decode : (raw : List ℕ) (i : ℕ) → i < place_count raw → drop i (decode k raw) ≡ place_of k (place_at i raw) ∷ drop (suc i) (decode k raw)
  unfolding decode
  drop_decode raw i h = drop_listed (place_count raw) (λ j. place_of k (place_at j raw)) i h

  pub drop_decode_end : (raw : List ℕ) (i : ℕ) → place_count raw ≤ i → drop i (decode k raw) ≡ []
  unfolding decode
  drop_decode_end raw i h = drop_listed_end (place_count raw) (λ j. place_of k (place_at j raw)) i h

  pub place_free : (piece : List ℕ) → unit_at 0 piece ≡ 0 → place_of k piece ≡ free
  unfolding place_of
  place_free piece h = choose_yes _ _ (eq-eqb _ _ h)

  pub place_used : (piece : List ℕ) → eqb (unit_at 0 piece) 0 ≡ false → place_of k piece ≡ used (k.reads piece)
  unfolding place_of
  place_used piece h = choose_no _ _ h

  -- one place changed: every other entry is as it was
  pub decode_changed : (raw : List ℕ) (i : ℕ) → i < place_count raw → (f : List ℕ → List ℕ) → length (f (place_at i raw)) ≡ 2336
      → decode k (changed i f raw) ≡ set (decode k raw) i (place_of k (f (place_at i raw)))
  unfolding decode
  decode_changed raw i h f w =
      ap (λ (n : ℕ). listed (n / 2336) (λ j. place_of k (place_at j (changed i f raw)))) (length_changed raw i h f w)
      ∙ (sym (set_listed (place_count raw) (λ j. place_of k (place_at j raw)) (λ j. place_of k (place_at j (changed i f raw))) i h
      (λ j u v. ap (place_of k) (sym (place_kept raw i h f w j u v))))
      ∙ ap (λ (q : List ℕ). set (listed (place_count raw) (λ j. place_of k (place_at j raw))) i (place_of k q)) (place_changed raw i h f w))

  pub order_good : (raw : List ℕ) → in_order k raw ≡ true → good_cache k (decode k raw) ≡ true
  unfolding in_order
  order_good raw h = and_left _ _ h

  -- memory in order is what its entries write
  pub encode_decode : (raw : List ℕ) → in_order k raw ≡ true → encode k (decode k raw) ≡ raw
  unfolding in_order
  encode_decode raw h = same_list_true _ raw (and_right (good_cache k (decode k raw)) _ h)

-- writing
module _ {E : Type 0} (k : Kind E) (law : Lawful k) where
  pub length_piece : (p : Place E) → good_place k p ≡ true → length (piece_of k p) ≡ 2336
  unfolding piece_of good_place
  length_piece free h = length_blank
  length_piece (used e) h = law.long e h

  pub piece_back : (p : Place E) → good_place k p ≡ true → place_of k (piece_of k p) ≡ p
  unfolding piece_of good_place blank
  piece_back free h = place_free k blank refl
  piece_back (used e) h = place_used k (k.writes e) (law.shows e h) ∙ ap used (law.back e h)

  module _ (ps : List (Place E)) (good : every (good_place k) ps ≡ true) where
    piece_of_lem : (j : ℕ) → j < length ps → get_or (map (piece_of k) ps) j [] ≡ piece_of k (get_or ps j free)
    piece_of_lem j h = get_d_map (piece_of k) ps j free [] h

    long_pieces : (j : ℕ) → j < length (map (piece_of k) ps) → length (get_or (map (piece_of k) ps) j []) ≡ 2336
    long_pieces j h =
        let u : j < length ps = simp length-map at h in
        ap length (piece_of_lem j u) ∙ length_piece (get_or ps j free) (every_at (good_place k) ps good j free u)

    pub length_encode : length (encode k ps) ≡ length ps * 2336
    unfolding encode
    length_encode = length_flatten 2336 (map (piece_of k) ps) long_pieces ∙ simp length-map

    pub place_encode : (i : ℕ) → i < length ps → place_at i (encode k ps) ≡ piece_of k (get_or ps i free)
    unfolding encode place_at
    place_encode i h = part_flatten 2336 (map (piece_of k) ps) long_pieces i (simp length-map h) ∙ piece_of_lem i h

    pub count_encode : place_count (encode k ps) ≡ length ps
    count_encode = omega (arith, length_encode)

    pub decode_encode : decode k (encode k ps) ≡ ps
    unfolding decode
    decode_encode =
        ap (λ (n : ℕ). listed n (λ i. place_of k (place_at i (encode k ps)))) count_encode
        ∙ (listed_same (length ps) (λ i. place_of k (place_at i (encode k ps))) (λ i. get_or ps i free)
        (λ i h. ap (place_of k) (place_encode i h) ∙ piece_back (get_or ps i free) (every_at (good_place k) ps good i free h))
        ∙ listed_get_d ps free)

  -- what is written of good entries is in order
  pub encoded_in_order : (ps : List (Place E)) → good_cache k ps ≡ true → in_order k (encode k ps) ≡ true
  unfolding in_order
  encoded_in_order ps h =
      let e : decode k (encode k ps) ≡ ps = decode_encode ps (cache_told k ps h).places in
      and_both (ap (good_cache k) e ∙ h) (same_same_list _ _ (ap (encode k) e))

  -- one place written: in the memory, and in what it holds
  pub encode_set : (ps : List (Place E)) (i : ℕ) (p : Place E) → every (good_place k) ps ≡ true → good_place k p ≡ true → i < length ps
      → encode k (set ps i p) ≡ changed i (λ q. piece_of k p) (encode k ps)
  unfolding place_at
  encode_set ps i p good h u =
      by_listed_parts (length ps) 2336 (encode k (set ps i p)) (changed i (λ q. piece_of k p) (encode k ps))
      (length_encode (set ps i p) good' ∙ ap (λ (n : ℕ). n * 2336) (length-set ps i p))
      (length_changed (encode k ps) i inside (λ q. piece_of k p) long ∙ length_encode ps good)
      (λ j v. place_encode (set ps i p) good' j (rw (length-set ps i p) v) ∙ at j v (eq_or_ne j i))
    where
      good' : every (good_place k) (set ps i p) ≡ true
      good' = every_set (good_place k) ps i p good h

      long : length (piece_of k p) ≡ 2336
      long = length_piece p h

      inside : i < place_count (encode k ps)
      inside = rw (count_encode ps good) u

      at : (j : ℕ) → j < length ps → (j ≡ i) ⊎ (j ≡ i → ⊥) → piece_of k (get_or (set ps i p) j free) ≡ place_at j (changed i (λ q. piece_of k p) (encode k ps))
      at j v (inl e) =
          rw e (ap (piece_of k) (get_or-set_same ps i p free u) ∙ sym (place_changed (encode k ps) i inside (λ q. piece_of k p) long))
      at j v (inr e) =
          ap (piece_of k) (get_or-set_other ps i j p free e)
          ∙ (sym (place_encode ps good j v)
          ∙ sym (place_kept (encode k ps) i inside (λ q. piece_of k p) long j (rw (count_encode ps good) v) e))

  -- a place of memory in order written anew
  pub changed_encode : (raw : List ℕ) (i : ℕ) (p : Place E) → in_order k raw ≡ true → good_place k p ≡ true → i < place_count raw
      → changed i (λ q. piece_of k p) raw ≡ encode k (set (decode k raw) i p)
  changed_encode raw i p h g u =
      let c : GoodCache k (decode k raw) = cache_told k (decode k raw) (order_good k raw h) in
      ap (changed i (λ q. piece_of k p)) (sym (encode_decode k raw h))
      ∙ sym (encode_set (decode k raw) i p c.places g (rw (length_decode k raw) u))

  -- and it is in order where the keys stay distinct
  pub changed_in_order : (raw : List ℕ) (i : ℕ) (p : Place E) → in_order k raw ≡ true → good_place k p ≡ true → i < place_count raw
      → distinct (keys k (set (decode k raw) i p)) ≡ true → in_order k (changed i (λ q. piece_of k p) raw) ≡ true
  changed_in_order raw i p h g u d =
      let c : GoodCache k (decode k raw) = cache_told k (decode k raw) (order_good k raw h) in
      let l : length (set (decode k raw) i p) ≡ length (decode k raw) = length-set (decode k raw) i p in
      let least : 1 ≤ length (decode k raw) = c.least in
      let most : length (decode k raw) ≤ 32 = c.most in
      ap (in_order k) (changed_encode raw i p h g u)
      ∙ encoded_in_order (set (decode k raw) i p)
      (good_cache_lem k (set (decode k raw) i p) (record {
        least = omega arith;
        most = omega arith;
        places = every_set (good_place k) (decode k raw) i p c.places g;
        apart = d;
      }))

  -- order goes place by place
  module _ (raw : List ℕ) where
    order_down : in_order k raw ≡ true
        → (right_size raw && (every (ordered k) (listed (place_count raw) (λ i. place_at i raw)) && distinct (keys k (decode k raw)))) ≡ true
    unfolding ordered
    order_down h =
        let c : GoodCache k (decode k raw) = cache_told k (decode k raw) (order_good k raw h) in
        let e : encode k (decode k raw) ≡ raw = encode_decode k raw h in
        let n : length (decode k raw) ≡ place_count raw = length_decode k raw in
        let l : length (encode k (decode k raw)) ≡ length (decode k raw) * 2336 = length_encode (decode k raw) c.places in
        let m : length raw ≡ length (encode k (decode k raw)) = ap length (sym e) in
        let least : 1 ≤ length (decode k raw) = c.least in
        let most : length (decode k raw) ≤ 32 = c.most in
        and_both (size_right raw (record { least = omega arith; most = omega arith; whole = omega arith }))
        (and_both
        (listed_every (ordered k) (place_count raw) (λ i. place_at i raw)
        (λ i u.
        let p : get_or (decode k raw) i free ≡ place_of k (place_at i raw) = decode_at k raw i free u in
        let v : i < length (decode k raw) = omega arith in
        and_both (ap (good_place k) (sym p) ∙ every_at (good_place k) (decode k raw) c.places i free v)
        (same_same_list (piece_of k (place_of k (place_at i raw))) (place_at i raw)
        (ap (piece_of k) (sym p) ∙ (sym (place_encode (decode k raw) c.places i v) ∙ ap (place_at i) e)))))
        c.apart)

    order_up : (right_size raw && (every (ordered k) (listed (place_count raw) (λ i. place_at i raw)) && distinct (keys k (decode k raw)))) ≡ true
        → in_order k raw ≡ true
    unfolding ordered in_order decode encode place_at
    order_up h =
        let s : RightSize raw = size_told raw (and_left _ _ h) in
        let o : (i : ℕ) → i < place_count raw → ordered k (place_at i raw) ≡ true =
        every_listed (ordered k) (place_count raw) (λ i. place_at i raw) (and_left _ _ (and_right (right_size raw) _ h)) in
        let n : length (decode k raw) ≡ place_count raw = length_decode k raw in
        let least : 1 ≤ place_count raw = s.least in
        let most : place_count raw ≤ 32 = s.most in
        let f : ℕ → Place E = λ i. place_of k (place_at i raw) in
        and_both
        (good_cache_lem k (decode k raw) (record {
          least = omega arith;
          most = omega arith;
          places = listed_every (good_place k) (place_count raw) f (λ i u. and_left _ _ (o i u));
          apart = and_right (every (ordered k) (listed (place_count raw) (λ i. place_at i raw))) _ (and_right (right_size raw) _ h);
        }))
        (same_same_list (encode k (decode k raw)) raw
        (ap flatten (map_listed (piece_of k) (place_count raw) f
        ∙ listed_same (place_count raw) (λ i. piece_of k (f i)) (λ i. place_at i raw)
        (λ i u. same_list_true (piece_of k (f i)) (place_at i raw) (and_right (good_place k (f i)) _ (o i u))))
        ∙ listed_parts (place_count raw) 2336 raw (sym s.whole)))

    pub in_order_parts : in_order k raw
        ≡ (right_size raw && (every (ordered k) (listed (place_count raw) (λ i. place_at i raw)) && distinct (keys k (decode k raw))))
    in_order_parts = both_ways _ _ order_down order_up
