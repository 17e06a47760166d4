-- Laws of the entries of a listing that are read into the first places, one after another.
use mathlib.Core.Path.{◌≡◌, refl, sym, ap, ◌∙◌}
use mathlib.Core.Bool.{true}
use mathlib.Core.List.{List, [], ◌∷◌, ◌++◌, map, flatten}
use mathlib.Core.Logic.{◌⊎◌, inl, inr}
use Prim.Native.Nat.{ℕ, zero, suc, ◌+◌, ◌-◌, ◌*◌, ◌≤◌, ◌<◌}
use native.Mathlib.Nat.{add_comm, suc-mul}
use native.Mathlib.Numerals.{add-one}
use native.Mathlib.Omega.{arith}
use lib.ListN.{length, get_or, drop, replicate, length-append, length-drop, length-replicate, replicate-append-replicate, drop_of_length-le}
use lib.Seq.{drop-cons}
use Rattle.laws.specs.Lists.{every, pasted}
use Rattle.laws.proofs.Choices.{and_left, and_right}
use Rattle.laws.proofs.Every.{every_drop, every_at}
use Rattle.laws.proofs.Orders.{lt_or_le}
use Rattle.laws.proofs.Pasting.{pasted_join, pasted_whole}
use Rattle.cache.specs.places.Layout.{place_count, blank}
use Rattle.cache.specs.places.Code.{changed}
use Rattle.cache.specs.order.Entries.{Referral, free, used}
use Rattle.cache.specs.order.Memory.{referrals, referral_units, right_size, piece_of, encode}
use Rattle.cache.proofs.order.KindLaws.{referrals_lawful}
use Rattle.cache.proofs.order.MemoryLaws.{size_told}
use Rattle.listing_write.specs.Form.{path_line, ended, lines_text, setting_lines, entry_lines, entry_text, listing}
use Rattle.listing_read.specs.listing_rules.Entries.{entry_said, entries_said}
use Rattle.listing_read.specs.listing_rules.Read.{listable, is_listing, placed}
use Rattle.listing_read.proofs.listing_rules.SaidLaws.{listable_told, listing_sound}
use Rattle.listing_read.specs.fill_cache.Code.{said_at, rest_after, EntryRead, LinesAt}

-- the units of the places: first an entry's, then the rest
entry_first : (n : ℕ) (e : Referral) (es : List Referral) → encode referrals (placed n (e ∷ es)) ≡ referral_units e ++ encode referrals (placed (n - 1) es)
unfolding encode placed piece_of flatten
entry_first n e es =
    let q : n - length (e ∷ es) ≡ n - 1 - length es = omega arith in
    ap (λ (k : ℕ). referral_units e ++ flatten (map (piece_of referrals) (map used es ++ replicate k free))) q

-- free places are zeros
free_zeros : (k m : ℕ) → blank ≡ replicate k 0 → encode referrals (replicate m free) ≡ replicate (m * k) 0
unfolding encode piece_of flatten
free_zeros k zero e = let q : 0 ≡ 0 * k = omega arith in ap (λ (j : ℕ). replicate {A = ℕ} j 0) q
free_zeros k (suc m) e =
    (λ i. e i ++ free_zeros k m e i)
    ∙ (replicate-append-replicate k (m * k) 0 ∙ ap (λ (j : ℕ). replicate {A = ℕ} j 0) (add_comm k (m * k) ∙ sym (suc-mul m k)))

none_placed : (n : ℕ) → encode referrals (placed n []) ≡ replicate (n * 2336) 0
unfolding placed blank
none_placed n = let q : n - 0 ≡ n = omega arith in ap (λ (j : ℕ). encode referrals (replicate j free)) q ∙ free_zeros 2336 n refl

long_place : (e : Referral) → listable e ≡ true → length (referral_units e) ≡ 2336
long_place e h = referrals_lawful.long e (listable_told e h).good

long_placed : (n : ℕ) (es : List Referral) → every listable es ≡ true → length es ≤ n → length (encode referrals (placed n es)) ≡ n * 2336
unfolding every
long_placed n [] h k = ap length (none_placed n) ∙ length-replicate (n * 2336) 0
long_placed n (e ∷ es) h k =
    let l = long_place e (and_left (listable e) _ h) in
    let r = long_placed (n - 1) es (and_right (listable e) _ h) (omega arith) in
    ap length (entry_first n e es) ∙ (length-append (referral_units e) (encode referrals (placed (n - 1) es)) ∙ (let q : length (referral_units e) + length (encode referrals (placed (n - 1) es)) ≡ n * 2336 = omega arith in q))

module _ (text : List ℕ) (form : is_listing text ≡ true) where
  each : every listable (entries_said text) ≡ true
  each = (listing_sound text form).each

  -- the text of the entries from entry i on stands at n
  abbrev pub Stands : ℕ → ℕ → Type 0
  Stands i n = drop n text ≡ listing (map used (drop i (entries_said text)))

  pub at_start : Stands 0 0
  at_start = (listing_sound text form).form

  pub entry_left : (i n : ℕ) → Stands i n → n < length text → i < length (entries_said text)
  unfolding listing
  entry_left i n s h = go (lt_or_le i (length (entries_said text)))
    where
      go : (i < length (entries_said text)) ⊎ (length (entries_said text) ≤ i) → i < length (entries_said text)
      go (inl l) = l
      go (inr l) =
          let e : drop n text ≡ [] = s ∙ ap (λ (x : List Referral). listing (map used x)) (drop_of_length-le (entries_said text) l) in
          absurd (let z = ap length e in let w = length-drop n text in omega arith)

  pub none_left : (i n : ℕ) → Stands i n → length text ≤ n → length (entries_said text) ≤ i
  unfolding listing entry_text lines_text entry_lines setting_lines path_line ended
  none_left i n s h = go (lt_or_le i (length (entries_said text)))
    where
      go : (i < length (entries_said text)) ⊎ (length (entries_said text) ≤ i) → length (entries_said text) ≤ i
      go (inr l) = l
      go (inl l) =
          let e : [] ≡ listing (map used (drop i (entries_said text))) = sym (drop_of_length-le text h) ∙ s in
          let f : [] ≡ listing (map used (get_or (entries_said text) i (entry_said []) ∷ drop (suc i) (entries_said text))) = e ∙ ap (λ (x : List Referral). listing (map used x)) (drop-cons (entries_said text) i (entry_said []) l) in
          absurd (let z = ap length f in omega arith)

  module _ (i n : ℕ) (s : Stands i n) (l : i < length (entries_said text)) where
    cut : drop i (entries_said text) ≡ said_at text i ∷ drop (i + 1) (entries_said text)
    unfolding said_at
    cut = rw (add-one i) (drop-cons (entries_said text) i (entry_said []) l)

    pub lines_here : LinesAt text i n (entry_lines (said_at text i))
    unfolding listing entry_text rest_after
    lines_here = record { form = form; inside = l; stands = s ∙ ap (λ (x : List Referral). listing (map used x)) cut }

    pub stands_next : (r : ℕ) → LinesAt text i r [] → Stands (i + 1) r
    unfolding lines_text rest_after
    stands_next r a = a.stands

    -- the next entry begins later
    pub falls : (r : ℕ) → LinesAt text i r [] → length text - r < length text - n
    unfolding lines_text entry_lines setting_lines path_line ended
    falls r a =
        let p = ap length a.stands in
        let q = ap length lines_here.stands in
        let u = length-drop r text in
        let v = length-drop n text in
        omega (arith, simp length-append at q)

    module _ (raw refs : List ℕ) (size : right_size raw ≡ true) (few : length (entries_said text) ≤ place_count raw) (same : length refs ≡ length raw) where
      pub entry_put : (goal : List ℕ) {o : List ℕ} {r : ℕ} → goal ≡ pasted refs (i * 2336) (encode referrals (placed (place_count raw - i) (drop i (entries_said text))))
          → EntryRead text i refs o r → goal ≡ pasted o ((i + 1) * 2336) (encode referrals (placed (place_count raw - (i + 1)) (drop (i + 1) (entries_said text))))
      unfolding changed said_at
      entry_put goal {o} e w =
          let z = size_told raw size in
          let es : List Referral = drop (i + 1) (entries_said text) in
          let c : ℕ = place_count raw - i in
          let k : length es ≡ length (entries_said text) - (i + 1) = length-drop (i + 1) (entries_said text) in
          let p = long_place (said_at text i) (every_at listable (entries_said text) each i (entry_said []) l) in
          let q = long_placed (c - 1) es (every_drop listable (i + 1) (entries_said text) each) (omega arith) in
          let m : i * 2336 + length (referral_units (said_at text i)) ≡ (i + 1) * 2336 = omega arith in
          let d : c - 1 ≡ place_count raw - (i + 1) = omega arith in
          e
          ∙ (ap (λ (x : List Referral). pasted refs (i * 2336) (encode referrals (placed c x))) cut
          ∙ (ap (pasted refs (i * 2336)) (entry_first c (said_at text i) es)
          ∙ (sym (pasted_join refs (i * 2336) (referral_units (said_at text i)) (encode referrals (placed (c - 1) es)) (omega (arith, z.whole)))
          ∙ (λ j. pasted (sym w.memory j) (m j) (encode referrals (placed (d j) es))))))

  module _ (raw : List ℕ) (size : right_size raw ≡ true) (few : length (entries_said text) ≤ place_count raw) where
    pub fill_starts : encode referrals (placed (place_count raw) (entries_said text)) ≡ pasted raw (0 * 2336) (encode referrals (placed (place_count raw - 0) (drop 0 (entries_said text))))
    fill_starts =
        let z = size_told raw size in
        let c : place_count raw ≡ place_count raw - 0 = omega arith in
        let a : 0 ≡ 0 * 2336 = omega arith in
        sym (pasted_whole raw (encode referrals (placed (place_count raw) (entries_said text))) (long_placed (place_count raw) (entries_said text) each few ∙ z.whole))
        ∙ (λ j. pasted raw (a j) (encode referrals (placed (c j) (entries_said text))))

    pub fill_ends : (i : ℕ) (refs : List ℕ) {o : List ℕ} → length (entries_said text) ≤ i → i ≤ place_count raw → length refs ≡ length raw
        → encode referrals (placed (place_count raw) (entries_said text)) ≡ pasted refs (i * 2336) (encode referrals (placed (place_count raw - i) (drop i (entries_said text))))
        → o ≡ pasted refs (i * 2336) (replicate (length refs - i * 2336) 0) → o ≡ encode referrals (placed (place_count raw) (entries_said text))
    fill_ends i refs h k same e w =
        let z = size_told raw size in
        let q : (place_count raw - i) * 2336 ≡ length refs - i * 2336 = omega (arith, z.whole) in
        w
        ∙ sym
        (e
        ∙ (ap (λ (x : List Referral). pasted refs (i * 2336) (encode referrals (placed (place_count raw - i) x))) (drop_of_length-le (entries_said text) h)
        ∙ ap (pasted refs (i * 2336)) (none_placed (place_count raw - i) ∙ ap (λ (j : ℕ). replicate {A = ℕ} j 0) q)))
