-- Laws of a cache that is made of names alone.
use mathlib.Core.Path.{◌≡◌, refl, sym, ap, ◌∙◌}
use mathlib.Core.Bool.{true}
use mathlib.Core.List.{List, [], ◌∷◌, ◌++◌, map, flatten}
use mathlib.Core.Logic.{inl}
use Prim.Native.Nat.{ℕ, zero, suc, ◌+◌, ◌-◌, ◌*◌, ◌≤◌, ◌<◌}
use native.Mathlib.Nat.{add_comm, suc-mul}
use native.Mathlib.Omega.{arith}
use lib.ListN.{length, get_or, take, set, replicate, length-map, length-replicate, length-append, replicate-append-replicate}
use lib.Seq.{take_all, length-take-le, set_at, set-get_or, get_or_at}
use Rattle.laws.specs.Lists.{every, pasted}
use Rattle.laws.proofs.Choices.{and_left, and_right, and_both}
use Rattle.laws.proofs.Every.{every_at, every_take, every_append}
use Rattle.laws.proofs.Filling.{filled_next, every_copies}
use Rattle.laws.proofs.Pasting.{pasted_whole}
use Rattle.unc.specs.names.Names.{good_name}
use Rattle.cache.specs.places.Layout.{place_count, place_at, blank}
use Rattle.cache.specs.places.Code.{changed}
use Rattle.cache.specs.order.Entries.{Domain, Place, free, used}
use Rattle.cache.specs.order.Order.{good_domain, distinct}
use Rattle.cache.specs.order.Memory.{domains, domain_units, encode, piece_of, good_place, keys, in_order, right_size}
use Rattle.cache.proofs.order.MemoryLaws.{RightSize, size_told, good_cache_lem, encoded_in_order, place_encode, count_encode, encode_set}
use Rattle.cache.proofs.order.KindLaws.{good_domain_lem, domains_lawful, name_short}
use Rattle.cache.proofs.order.PlaceLaws.{hint_good}
use Rattle.cache_entry.specs.write_entry.Code.{add_text, begun}
use Rattle.cache_entry.proofs.write_entry.WritingLaws.{changed_same}
use Rattle.cache_entry.proofs.write_entry.PieceLaws.{begun_written}
use Rattle.cache_store.specs.entry_after_reply.Stored.{domain_places}

-- a domain without DCs
abbrev bare_domain : List ℕ → Domain
bare_domain n = record { name = n; dcs = []; hint = 0 }

bare_good : (n : List ℕ) → good_name n ≡ true → good_domain (bare_domain n) ≡ true
unfolding every
bare_good n h = good_domain_lem (bare_domain n) (record { named = h; few = omega arith; each = refl; hinted = hint_good [] 0 (inl refl) })

-- memory of zeros holds free places
flat_zeros : (n c : ℕ) (b : List ℕ) → b ≡ replicate n 0 → flatten (replicate c b) ≡ replicate (c * n) 0
unfolding flatten
flat_zeros n zero b e = let q : 0 ≡ 0 * n = omega arith in ap (λ (k : ℕ). replicate {A = ℕ} k 0) q
flat_zeros n (suc c) b e =
    (λ i. e i ++ flat_zeros n c b e i)
    ∙ (replicate-append-replicate n (c * n) 0 ∙ ap (λ (k : ℕ). replicate {A = ℕ} k 0) (add_comm n (c * n) ∙ sym (suc-mul c n)))

map_copies : {A B : Type 0} (f : A → B) (n : ℕ) (a : A) → map f (replicate n a) ≡ replicate n (f a)
map_copies f zero a = refl
map_copies {B = B} f (suc n) a = ap (λ (l : List B). f a ∷ l) (map_copies f n a)

free_zeros : (c : ℕ) → encode domains (replicate c free) ≡ replicate (c * 2336) 0
unfolding encode piece_of blank
free_zeros c = ap flatten (map_copies (piece_of domains) c free) ∙ flat_zeros 2336 c blank refl

pub all_free_lem : (raw : List ℕ) → right_size raw ≡ true → {o : List ℕ} → o ≡ pasted raw 0 (replicate (length raw) 0)
    → o ≡ encode domains (domain_places (place_count raw) [])
unfolding domain_places
all_free_lem raw h e =
    let s : RightSize raw = size_told raw h in
    let q : length raw ≡ (place_count raw - 0) * 2336 = omega (arith, s.whole) in
    e ∙ (pasted_whole raw (replicate (length raw) 0) (length-replicate (length raw) 0)
    ∙ (ap (λ (k : ℕ). replicate {A = ℕ} k 0) q ∙ sym (free_zeros (place_count raw - 0))))

-- the names that are in place are good
module _ (c : ℕ) (names : List (List ℕ)) (good : every good_name names ≡ true) where
  bares_good : (ns : List (List ℕ)) → every good_name ns ≡ true → every (good_place domains) (map (λ n. used (bare_domain n)) ns) ≡ true
  unfolding every good_place
  bares_good [] h = refl
  bares_good (n ∷ ns) h = and_both (bare_good n (and_left (good_name n) _ h)) (bares_good ns (and_right (good_name n) _ h))

  pub places_good : every (good_place domains) (domain_places c names) ≡ true
  unfolding domain_places good_place
  places_good =
      every_append (good_place domains) (map (λ n. used (bare_domain n)) names) (replicate (c - length names) free)
      ∙ and_both (bares_good names good) (every_copies (good_place domains) (c - length names) free refl)

-- one name more, in the next place
module _ (c i : ℕ) (names : List (List ℕ)) (good : every good_name names ≡ true) (h : i < length names) (few : length names ≤ c) (t : List ℕ) (here : get_or names i t ≡ t) where
  placed : List (Place Domain)
  placed = map (λ n. used (bare_domain n)) (take i names)

  length_placed : length placed ≡ i
  unfolding placed
  length_placed = length-map (take i names) _ ∙ length-take-le i names (omega arith)

  free_from : domain_places c (take i names) ≡ placed ++ (free ∷ replicate (c - (i + 1)) free)
  unfolding domain_places placed
  free_from =
      let l : length (take i names) ≡ i = length-take-le i names (omega arith) in
      let q : c - length (take i names) ≡ suc (c - (i + 1)) = omega arith in
      ap (λ (m : ℕ). map (λ n. used (bare_domain n)) (take i names) ++ replicate m free) q

  next_place_lem : set (domain_places c (take i names)) i (used (bare_domain t)) ≡ domain_places c (take (i + 1) names)
  unfolding domain_places placed
  next_place_lem =
      let l : length (take (i + 1) names) ≡ i + 1 = length-take-le (i + 1) names (omega arith) in
      let q : c - (i + 1) ≡ c - length (take (i + 1) names) = omega arith in
      let n : set names i t ≡ names = ap (set names i) (sym here) ∙ set-get_or names i t in
      ap (λ (ps : List (Place Domain)). set ps i (used (bare_domain t))) free_from
      ∙ (set_at placed free (replicate (c - (i + 1)) free) (used (bare_domain t)) i length_placed
      ∙ (filled_next (λ (x : List ℕ). used (bare_domain x)) names i t h refl refl
      ∙ (λ j. map (λ x. used (bare_domain x)) (take (i + 1) (n j)) ++ replicate (q j) free)))

  next_free : get_or (domain_places c (take i names)) i free ≡ free
  next_free = ap (λ (ps : List (Place Domain)). get_or ps i free) free_from ∙ get_or_at placed free (replicate (c - (i + 1)) free) free i length_placed

  inside : i < length (domain_places c (take i names))
  inside = rw free_from (simp length-append (omega (arith, length_placed)))

  taken_good : every (good_place domains) (domain_places c (take i names)) ≡ true
  taken_good = places_good c (take i names) (every_take good_name i names good)

  name_good : good_name t ≡ true
  name_good = ap good_name (sym here) ∙ every_at good_name names good i t h

  name_units_lem : add_text 0 t (place_at i (encode domains (domain_places c (take i names)))) ≡ piece_of domains (used (bare_domain t))
  unfolding begun domain_units piece_of
  name_units_lem =
      let l : length t ≤ 255 = name_short t name_good in
      ap (add_text 0 t) (place_encode domains domains_lawful (domain_places c (take i names)) taken_good i inside ∙ ap (piece_of domains) next_free)
      ∙ begun_written t [] (omega arith)

  pub name_put : {m o : List ℕ} → m ≡ encode domains (domain_places c (take i names)) → o ≡ changed i (add_text 0 t) m → o ≡ encode domains (domain_places c (take (i + 1) names))
  unfolding good_place
  name_put a b =
      let ps : List (Place Domain) = domain_places c (take i names) in
      b ∙ (ap (changed i (add_text 0 t)) a
      ∙ (changed_same (encode domains ps) i (rw (count_encode domains domains_lawful ps taken_good) inside) (add_text 0 t) (λ q. piece_of domains (used (bare_domain t))) name_units_lem
      ∙ (sym (encode_set domains domains_lawful ps i (used (bare_domain t)) taken_good (bare_good t name_good) inside) ∙ ap (encode domains) next_place_lem)))

-- all names are in place
pub names_put : (c : ℕ) (names : List (List ℕ)) (i : ℕ) {m : List ℕ} → m ≡ encode domains (domain_places c (take i names)) → length names ≤ i
    → m ≡ encode domains (domain_places c names)
names_put c names i e h = e ∙ ap (λ (x : List (List ℕ)). encode domains (domain_places c x)) (take_all i names h)

-- such a cache is in order where the names are good and no two are equal
free_keys : (m : ℕ) → keys domains (replicate m free) ≡ []
unfolding keys
free_keys zero = refl
free_keys (suc m) = free_keys m

placed_keys : (ns : List (List ℕ)) (m : ℕ) → keys domains (map (λ n. used (bare_domain n)) ns ++ replicate m free) ≡ ns
unfolding keys
placed_keys [] m = free_keys m
placed_keys (n ∷ ns) m = λ i. n ∷ placed_keys ns m i

pub names_in_order : (c : ℕ) (ns : List (List ℕ)) → 1 ≤ c → c ≤ 32 → length ns ≤ c → every good_name ns ≡ true → distinct ns ≡ true
    → in_order domains (encode domains (domain_places c ns)) ≡ true
unfolding domain_places
names_in_order c ns least most few good apart =
    let l : length (domain_places c ns) ≡ c = simp (length-append, length-map, length-replicate) (omega arith) in
    encoded_in_order domains domains_lawful (domain_places c ns)
    (good_cache_lem domains (domain_places c ns) (record {
      least = omega arith;
      most = omega arith;
      places = places_good c ns good;
      apart = ap distinct (placed_keys ns (c - length ns)) ∙ apart;
    }))
