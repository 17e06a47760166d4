-- Laws of reading a domain reply: the number of each way, and the cache after it.
use mathlib.Core.Path.{◌≡◌, refl, sym, ap, ◌∙◌}
use mathlib.Core.Bool.{Bool, true, false, true≢false}
use mathlib.Core.List.{List, [], ◌∷◌, map}
use mathlib.Core.Logic.{◌⊎◌, inl, inr}
use Prim.Native.Nat.{ℕ, ◌≤◌, ◌<◌, min}
use native.Mathlib.Omega.{arith}
use lib.ListN.{length, length-map, length-take}
use lib.Seq.{take_all}
use lib.Dec.{leb}
use borrow.Author.Tests.{leb-true, le-leb, lt-leb, ne_eqb}
use Rattle.std.specs.Prelude.{Result, Ok, Err, ⊤}
use Rattle.laws.specs.Choice.{choose}
use Rattle.laws.specs.Lists.{every}
use Rattle.laws.proofs.Choices.{choose_yes, choose_no, and_left, and_right, and_both, and_no_left, and_no_right}
use Rattle.laws.proofs.Orders.{told}
use Rattle.laws.proofs.Tests.{eq_or_ne}
use Rattle.unc.specs.names.Names.{good_name}
use Rattle.cache.specs.places.Layout.{place_count}
use Rattle.cache.specs.order.Memory.{domains, right_size, encode, in_order}
use Rattle.cache.proofs.order.MemoryLaws.{RightSize, size_told}
use Rattle.reply_read.specs.referral.Replies.{Reply, malformed, nothing, says, entries}
use Rattle.std.specs.Prelude.{Result, Ok, Err, is_err}
use Rattle.reply_read.specs.declared.referral.Unread.{Unread}
use Rattle.reply_read.specs.name_lists.NameLists.{read_domains, domain_at, good_domain_name}
use Rattle.reply_read.specs.name_lists.Code.{domain_name, answer_of}
use Rattle.reply_read.proofs.name_lists.ListLaws.{domain_read}
use Rattle.reply_read.proofs.name_lists.SaysLaws.{SoundDomains, says_domains, domain_name_good}
use Rattle.cache_store.specs.entry_after_reply.Stored.{once, domain_places}
use Rattle.cache_store.specs.domain_cache.Code.{domains_refusal, shown, WellFormed, Gathered}
use Rattle.cache_store.specs.domain_cache.Domains.{good_size, names_number, domains_number, names_in, cache_after, domains_after}
use Rattle.cache_store.specs.declared.domain_cache.Names.{Names}
use Rattle.cache_store.proofs.domain_cache.OnceLaws.{once_every, once_distinct}
use Rattle.cache_store.proofs.domain_cache.NamesLaws.{names_in_order}
use Rattle.cache_store.specs.declared.domain_cache.DomainsError.{DomainsError}
use Rattle.cache_store.specs.declared.domain_cache.DomainsError.TheVariants.{NotInOrder, BadSize, TooMany, Unreadable}

-- the cache after any number but 0, and after 0
unchanged : (n : ℕ) (names : List (List ℕ)) (raw : List ℕ) → (n ≡ 0 → ⊥) → raw ≡ cache_after n names raw
unfolding cache_after
unchanged n names raw h = sym (choose_no (encode domains (domain_places (place_count raw) (once names))) raw (ne_eqb n 0 h))

replaced : (names : List (List ℕ)) (raw : List ℕ) → encode domains (domain_places (place_count raw) (once names)) ≡ cache_after 0 names raw
unfolding cache_after
replaced names raw = sym (choose_yes (encode domains (domain_places (place_count raw) (once names))) raw refl)

-- sizes
pub size_small : (size : ℕ) → size < 1024 → good_size size ≡ false
unfolding good_size
size_small size h = and_no_left (leb size 57344) (lt-leb 1024 size h)

pub size_large : (size : ℕ) → 57344 < size → good_size size ≡ false
unfolding good_size
size_large size h = and_no_right (leb 1024 size) (lt-leb size 57344 h)

pub size_fine : (size : ℕ) → 1024 ≤ size → size ≤ 57344 → good_size size ≡ true
unfolding good_size
size_fine size h k = and_both {a = leb 1024 size} (le-leb 1024 size h) (le-leb size 57344 k)

-- a well-formed reply, its names gathered
module _ (r : List ℕ) (v : Names) (g : Gathered r v) (raw : List ℕ) (right : right_size raw ≡ true) where
  names : List (List ℕ)
  names = map (domain_name r) (entries r)

  counted : v.count ≡ min 33 (length (once names))
  unfolding names
  counted =
      let room : length v.kept ≡ 33 = g.fit.room in
      let few : v.count ≤ 33 = g.fit.few in
      let l : length (shown r v) ≡ v.count = simp (length-map, length-take) (omega arith) in
      sym l ∙ (ap length g.are ∙ length-take 33 (once names))

  pub too_many : place_count raw < v.count
      → (domains_refusal (Err TooMany) ≡ names_number (place_count raw) (says (map (domain_name r) (entries r)))) × (raw ≡ cache_after (domains_refusal (Err TooMany)) (map (domain_name r) (entries r)) raw)
  unfolding names names_number domains_refusal
  too_many h =
      let u : place_count raw < length (once names) = omega (arith, counted) in
      (sym (choose_no 0 6 (lt-leb (length (once names)) (place_count raw) u)), unchanged 6 names raw (λ z. omega arith))

  pub all_placed : v.count ≤ place_count raw → {o : List ℕ} → o ≡ encode domains (domain_places (place_count raw) (shown r v))
      → (domains_refusal (Ok tt) ≡ names_number (place_count raw) (says (map (domain_name r) (entries r)))) × (o ≡ cache_after (domains_refusal (Ok tt)) (map (domain_name r) (entries r)) raw)
  unfolding names names_number domains_refusal
  all_placed h e =
      let most : place_count raw ≤ 32 = (size_told raw right).most in
      let u : length (once names) ≤ place_count raw = omega (arith, counted) in (
        sym (choose_yes 0 6 (le-leb (length (once names)) (place_count raw) u)),
        e ∙ (ap (λ (x : List (List ℕ)). encode domains (domain_places (place_count raw) x)) (g.are ∙ take_all 33 (once names) (omega arith)) ∙ replaced names raw),
      )

-- a result that is no error
no_error : (a : Result (Unit {0}) Unread) → is_err a ≡ false → a ≡ Ok tt
no_error (Ok u) h = refl
no_error (Err e) h = absurd (true≢false h)

-- the ways of the whole call
unread : (places : ℕ) (x : Reply (List (List ℕ))) → (Ok tt ≡ answer_of x → ⊥) → names_number places x ≡ 7
unfolding names_number answer_of
unread places malformed h = refl
unread places nothing h = refl
unread places (says ns) h = absurd (h refl)

module _ (size : ℕ) (r raw : List ℕ) where
  refused : (n : ℕ) → n ≡ domains_number size r raw → (n ≡ 0 → ⊥) → (n ≡ domains_number size r raw) × (raw ≡ domains_after size r raw)
  unfolding domains_after
  refused n e h = (e, unchanged (domains_number size r raw) (names_in (read_domains size r)) raw (λ z. h (e ∙ z)))

  pub not_in_order : {b : Bool} → b ≡ right_size raw → b ≡ false → (domains_refusal (Err NotInOrder) ≡ domains_number size r raw) × (raw ≡ domains_after size r raw)
  unfolding domains_refusal domains_number
  not_in_order e h = refused 4 (sym (choose_no _ 4 (sym e ∙ h))) (λ z. omega arith)

  module _ (right : right_size raw ≡ true) where
    pub bad_size : good_size size ≡ false → (domains_refusal (Err BadSize) ≡ domains_number size r raw) × (raw ≡ domains_after size r raw)
    unfolding domains_refusal domains_number
    bad_size h = refused 3 (sym (choose_yes _ 4 right ∙ choose_no _ 3 h)) (λ z. omega arith)

    module _ (fine : good_size size ≡ true) where
      number_is : domains_number size r raw ≡ names_number (place_count raw) (read_domains size r)
      unfolding domains_number
      number_is = choose_yes _ 4 right ∙ choose_yes _ 3 fine

      pub unreadable : {a : Result (Unit {0}) Unread} → a ≡ answer_of (read_domains size r) → is_err a ≡ true → (domains_refusal (Err Unreadable) ≡ domains_number size r raw) × (raw ≡ domains_after size r raw)
      unfolding domains_refusal
      unreadable e h = refused 7 (sym (number_is ∙ unread (place_count raw) (read_domains size r) (λ z. true≢false (sym h ∙ ap is_err (e ∙ sym z))))) (λ z. omega arith)

      module _ {a : Result (Unit {0}) Unread} (e : a ≡ answer_of (read_domains size r)) (h : is_err a ≡ false) where
        sound : SoundDomains size r
        sound = says_domains size r (sym (no_error a h) ∙ e)

        pub well_formed : size < 4294967296 → WellFormed r
        well_formed u =
            let l : length r ≤ size = sound.within in
            record { header = sound.header; short = omega arith; good = sound.good }

        pub was_read : (v : Result ⊤ DomainsError) {o : List ℕ} → domains_refusal v ≡ names_number (place_count raw) (says (map (domain_name r) (entries r)))
            → o ≡ cache_after (domains_refusal v) (map (domain_name r) (entries r)) raw → (domains_refusal v ≡ domains_number size r raw) × (o ≡ domains_after size r raw)
        unfolding domains_after names_in
        was_read v p q =
            let n : domains_refusal v ≡ domains_number size r raw = p ∙ (ap (names_number (place_count raw)) (sym sound.is) ∙ sym number_is) in
            (n, q ∙ (λ i. cache_after (n i) (names_in (sym sound.is i)) raw))

-- a domain reply that was read: its names are good
names_good : (r : List ℕ) (es : List ℕ) → every (good_domain_name r) es ≡ true → every good_name (map (domain_name r) es) ≡ true
unfolding every domain_name domain_at
names_good r [] h = refl
names_good r (e ∷ es) h =
    and_both (domain_name_good _ (domain_read r e (and_left (good_domain_name r e) _ h)))
    (names_good r es (and_right (good_domain_name r e) _ h))

few_names : (c : ℕ) (ns : List (List ℕ)) → ◌≡◌ {A = ℕ} (choose (leb (length (once ns)) c) 0 6) 0 → leb (length (once ns)) c ≡ true
few_names c ns h = go (told (leb (length (once ns)) c))
  where
    go : (leb (length (once ns)) c ≡ true) ⊎ (leb (length (once ns)) c ≡ false) → leb (length (once ns)) c ≡ true
    go (inl t) = t
    go (inr t) = absurd (let z : ◌≡◌ {A = ℕ} 6 0 = sym (choose_no 0 6 t) ∙ h in omega arith)

record Accepted (size : ℕ) (r raw : List ℕ) : Type 0 where
  right : right_size raw ≡ true
  few : length (once (names_in (read_domains size r))) ≤ place_count raw
  good : every good_name (names_in (read_domains size r)) ≡ true

module _ (size : ℕ) (r raw : List ℕ) (h : domains_number size r raw ≡ 0) where
  accepted : Accepted size r raw
  unfolding domains_number names_number answer_of names_in
  accepted = sized (told (right_size raw)) (told (good_size size))
    where
      read : right_size raw ≡ true → (x : Reply (List (List ℕ))) → read_domains size r ≡ x → names_number (place_count raw) x ≡ 0 → Accepted size r raw
      read t malformed e k = absurd (let z : ◌≡◌ {A = ℕ} 7 0 = k in omega arith)
      read t nothing e k = absurd (let z : ◌≡◌ {A = ℕ} 7 0 = k in omega arith)
      read t (says ns) e k =
          let w : SoundDomains size r = says_domains size r (sym (ap answer_of e)) in
          let n : map (domain_name r) (entries r) ≡ names_in (read_domains size r) = sym (ap names_in w.is) in
          record {
            right = t;
            few = leb-true (length (once (names_in (read_domains size r)))) (place_count raw) (ap (λ (x : Reply (List (List ℕ))). leb (length (once (names_in x))) (place_count raw)) e ∙ few_names (place_count raw) ns k);
            good = ap (every good_name) (sym n) ∙ names_good r (entries r) w.good;
          }

      sized : (right_size raw ≡ true) ⊎ (right_size raw ≡ false) → (good_size size ≡ true) ⊎ (good_size size ≡ false) → Accepted size r raw
      sized (inl t) (inl u) = read t (read_domains size r) refl (sym (choose_yes _ 4 t ∙ choose_yes _ 3 u) ∙ h)
      sized (inl t) (inr u) = absurd (let z : ◌≡◌ {A = ℕ} 3 0 = sym (choose_yes _ 4 t ∙ choose_no _ 3 u) ∙ h in omega arith)
      sized (inr t) u = absurd (let z : ◌≡◌ {A = ℕ} 4 0 = sym (choose_no _ 4 t) ∙ h in omega arith)

  -- it leaves a cache in order
  pub domains_in_order : in_order domains (domains_after size r raw) ≡ true
  unfolding domains_after
  domains_in_order =
      let s : RightSize raw = size_told raw accepted.right in
      ap (in_order domains) (ap (λ (n : ℕ). cache_after n (names_in (read_domains size r)) raw) h ∙ sym (replaced (names_in (read_domains size r)) raw))
      ∙ names_in_order (place_count raw) (once (names_in (read_domains size r))) s.least s.most accepted.few
      (once_every good_name (names_in (read_domains size r)) accepted.good) (once_distinct (names_in (read_domains size r)))

-- a refusal changes nothing
pub domains_unchanged : (size : ℕ) (r raw : List ℕ) → (domains_number size r raw ≡ 0 → ⊥) → domains_after size r raw ≡ raw
unfolding domains_after
domains_unchanged size r raw h = sym (unchanged (domains_number size r raw) (names_in (read_domains size r)) raw h)

-- so that a cache in order stays so
pub domains_stay_in_order : (size : ℕ) (r raw : List ℕ) → in_order domains raw ≡ true → in_order domains (domains_after size r raw) ≡ true
domains_stay_in_order size r raw h = go (eq_or_ne (domains_number size r raw) 0)
  where
    go : (domains_number size r raw ≡ 0) ⊎ (domains_number size r raw ≡ 0 → ⊥) → in_order domains (domains_after size r raw) ≡ true
    go (inl e) = domains_in_order size r raw e
    go (inr n) = ap (in_order domains) (domains_unchanged size r raw n) ∙ h
