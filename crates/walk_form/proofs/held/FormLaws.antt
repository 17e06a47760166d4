-- What a walk in form is, for the callers of its test.
use mathlib.Core.Path.{◌≡◌, refl, sym, ap, ◌∙◌}
use mathlib.Core.Bool.{Bool, true, false, ◌&&◌, ◌||◌}
use mathlib.Core.List.{List, [], ◌++◌, append_assoc}
use mathlib.Core.Logic.{◌⊎◌, inl, inr}
use Prim.Native.Nat.{ℕ, ◌+◌, ◌-◌, ◌≤◌, ◌<◌, min}
use native.Mathlib.Omega.{arith}
use lib.ListN.{length, take, drop, length-append, length-take, length-drop}
use lib.Seq.{take_all, take_at, take-append-le, drop_at, length-take-le}
use lib.Dec.{leb, eqb}
use borrow.Author.Tests.{leb-true, le-leb, eqb-true, eq-eqb}
use Rattle.laws.specs.Lists.{roomed}
use Rattle.laws.specs.Listed.{same_list}
use Rattle.laws.proofs.Choices.{and_left, and_right, and_both}
use Rattle.laws.proofs.Orders.{told, lt_or_le}
use Rattle.laws.proofs.Tests.{not_both}
use Rattle.laws.proofs.Pasting.{length_roomed, take_roomed}
use Rattle.laws.proofs.Listed.{same_list_true, same_same_list}
use Rattle.unc.specs.names.Names.{good_name}
use Rattle.unc.specs.names.Paths.{first_of, matches, normalised_count}
use Rattle.unc.proofs.names.FormLaws.{normal_long}
use Rattle.cache.specs.order.Order.{good_prefix}
use Rattle.walk_steps.specs.walk_texts.Texts.{texts_of}
use Rattle.walk_steps.proofs.walk_texts.TextLaws.{length_texts, path_in_lem}
use Rattle.walk_steps.specs.steps.Steps.{Resting}
use Rattle.walk_steps.specs.steps.Held.{next_of, tried_of}
use Rattle.walk_steps.specs.declared.steps.Kind.{Kind}
use Rattle.walk_steps.specs.declared.steps.Kind.TheVariants.{Dc, Root, Link, Sysvol, Io}
use Rattle.walk_steps.specs.declared.steps.Asking.{Asking}
use Rattle.walk_steps.specs.declared.steps.Next.{Next}
use Rattle.walk_steps.specs.declared.steps.Next.TheVariants.{Asks, Ends}
use Rattle.walk_form.specs.declared.held.Walk.{Walk}
use Rattle.cache_store.specs.domain_cache.Domains.{good_size}
use Rattle.walk_form.specs.held.Walks.{lent, path_in, tried_in, boot_in, good_limit, good_settings, names_domain, names_prefix, no_party, one_party, asked_in_form}
use Rattle.walk_form.specs.held.Walks.{has_tried, end_tried, good_tried, next_in_form, in_form, walk_of, texts_after}
use Rattle.walk_form.proofs.held.RoomLaws.{lent_path, lent_tried}

-- the settings
pub record Settled (limit size : ℕ) (boot : List ℕ) : Type 0 where
  pub limit_least : 1 ≤ limit
  pub limit_most : limit ≤ 64
  pub size_least : 1024 ≤ size
  pub size_most : size ≤ 57344
  pub boot_good : good_name boot ≡ true

pub size_told : (size : ℕ) → good_size size ≡ true → (1024 ≤ size) × (size ≤ 57344)
unfolding good_size
size_told size h = (leb-true 1024 size (and_left _ _ h), leb-true size 57344 (and_right (leb 1024 size) _ h))

pub settings_told : (limit size : ℕ) (boot : List ℕ) → good_settings limit size boot ≡ true → Settled limit size boot
unfolding good_settings good_limit
settings_told limit size boot h =
    let l : (leb 1 limit && leb limit 64) ≡ true = and_left _ _ h in
    let r : (good_size size && good_name boot) ≡ true = and_right (leb 1 limit && leb limit 64) _ h in
    let s : (1024 ≤ size) × (size ≤ 57344) = size_told size (and_left _ _ r) in
    record {
      limit_least = leb-true 1 limit (and_left _ _ l);
      limit_most = leb-true limit 64 (and_right (leb 1 limit) _ l);
      size_least = s.0;
      size_most = s.1;
      boot_good = and_right (good_size size) _ r;
    }

pub name_short : (s : List ℕ) → good_name s ≡ true → length s ≤ 255
unfolding good_name
name_short s h = leb-true (length s) 255 (and_left _ _ h)

-- a walk in form with its texts
pub record Formed (w : Walk) (texts : List ℕ) : Type 0 where
  pub long : length texts ≡ 768
  pub path_length : length (path_in w texts) ≡ w.path
  pub path_most : w.path ≤ 256
  pub tried_length : length (tried_in w texts) ≡ w.tried
  pub tried_most : w.tried ≤ 256
  pub boot_length : length (boot_in w texts) ≡ w.boot
  pub boot_most : w.boot ≤ 255
  pub rooms : texts ≡ lent (path_in w texts) (tried_in w texts) (boot_in w texts)
  pub limit_least : 1 ≤ w.limit
  pub limit_most : w.limit ≤ 64
  pub size_least : 1024 ≤ w.size
  pub size_most : w.size ≤ 57344
  pub boot_good : good_name (boot_in w texts) ≡ true
  pub moves : w.moves ≤ w.limit
  pub next : next_in_form (path_in w texts) (tried_in w texts) w.next ≡ true

module _ (w : Walk) (texts : List ℕ) where
  lengths : length texts ≡ 768 → lent (path_in w texts) (tried_in w texts) (boot_in w texts) ≡ texts → Settled w.limit w.size (boot_in w texts)
      → leb w.moves w.limit ≡ true → next_in_form (path_in w texts) (tried_in w texts) w.next ≡ true → Formed w texts
  unfolding path_in tried_in boot_in
  lengths long e s m n =
      let p : w.path ≤ 256 = lent_path texts long w.path w.tried w.boot e in
      let t : w.tried ≤ 256 = lent_tried texts long w.path w.tried w.boot e in
      let u : length (take w.boot (drop 512 texts)) ≤ 255 = name_short _ s.boot_good in
      let k : length (take w.boot (drop 512 texts)) ≡ min w.boot (length (drop 512 texts)) = length-take w.boot (drop 512 texts) in
      let l : length (drop 512 texts) ≡ length texts - 512 = length-drop 512 texts in
      let o : length (drop 256 texts) ≡ length texts - 256 = length-drop 256 texts in
      record {
        long = long;
        path_length = length-take-le w.path texts (omega arith);
        path_most = p;
        tried_length = length-take-le w.tried (drop 256 texts) (omega arith);
        tried_most = t;
        boot_length = length-take-le w.boot (drop 512 texts) (omega arith);
        boot_most = omega arith;
        rooms = sym e;
        limit_least = s.limit_least;
        limit_most = s.limit_most;
        size_least = s.size_least;
        size_most = s.size_most;
        boot_good = s.boot_good;
        moves = leb-true w.moves w.limit m;
        next = n;
      }

  pub form_told : in_form w texts ≡ true → Formed w texts
  unfolding in_form
  form_told h =
      let t = and_right (eqb (length texts) 768) _ h in
      let r = and_right (same_list (lent (path_in w texts) (tried_in w texts) (boot_in w texts)) texts) _ t in
      let m = and_right (good_settings w.limit w.size (boot_in w texts)) _ r in
      lengths
      (eqb-true (length texts) 768 (and_left _ _ h))
      (same_list_true _ texts (and_left _ _ t))
      (settings_told w.limit w.size (boot_in w texts) (and_left _ _ r))
      (and_left _ _ m)
      (and_right (leb w.moves w.limit) _ m)

-- the texts of such a walk, as its first two rooms and its last
module _ {w : Walk} {texts : List ℕ} (f : Formed w texts) where
  two_rooms : length (texts_of (path_in w texts) (tried_in w texts)) ≡ 512
  two_rooms =
      let p : length (path_in w texts) ≤ 256 = rw f.path_length f.path_most in
      let t : length (tried_in w texts) ≤ 256 = rw f.tried_length f.tried_most in
      length_texts (path_in w texts) (tried_in w texts) p t

  as_rooms : texts ≡ texts_of (path_in w texts) (tried_in w texts) ++ roomed 256 (boot_in w texts)
  unfolding lent
  as_rooms = f.rooms

  pub first_rooms : take 512 texts ≡ texts_of (path_in w texts) (tried_in w texts)
  first_rooms = ap (take 512) as_rooms ∙ take_at (texts_of (path_in w texts) (tried_in w texts)) (roomed 256 (boot_in w texts)) 512 two_rooms

  pub last_room : drop 512 texts ≡ roomed 256 (boot_in w texts)
  last_room = ap (drop 512) as_rooms ∙ drop_at (texts_of (path_in w texts) (tried_in w texts)) (roomed 256 (boot_in w texts)) 512 two_rooms

-- a walk that waits
pub record Waiting (path tried : List ℕ) (q : Asking) : Type 0 where
  pub good : good_prefix path ≡ true
  pub tried_form : good_tried (has_tried q.kind) tried ≡ true
  pub form : asked_in_form path q q.kind ≡ true

pub waiting_told : (path tried : List ℕ) (q : Asking) → next_in_form path tried (Asks q) ≡ true → Waiting path tried q
unfolding next_in_form good_prefix
waiting_told path tried q h =
    let r = and_right (leb 2 (normalised_count path)) _ h in
    record {
      good = and_left _ _ h;
      tried_form = and_left _ _ r;
      form = and_right (good_tried (has_tried q.kind) tried) _ r;
    }

-- the entry of a link request and of an I/O try
pub record Prefixed (path : List ℕ) (q : Asking) : Type 0 where
  pub within : q.entry ≤ length path
  pub good : good_prefix (take q.entry path) ≡ true
  pub matching : matches (take q.entry path) path ≡ true

-- of a root request: none and no party, or the domain
abbrev pub Rooted : List ℕ → Asking → Type 0
Rooted path q = ((q.entry ≡ 0) × ((q.party ≡ 0) × (q.began ≡ 0))) ⊎ (q.entry ≡ length (first_of 1 path))

module _ (path : List ℕ) (q : Asking) where
  prefix_told : names_prefix path q ≡ true → Prefixed path q
  unfolding names_prefix good_prefix
  prefix_told h =
      let r = and_right (leb q.entry (length path)) _ h in
      record {
        within = leb-true q.entry (length path) (and_left _ _ h);
        good = and_left _ _ r;
        matching = and_right (leb 2 (normalised_count (take q.entry path))) _ r;
      }

  domain_told : names_domain path q ≡ true → q.entry ≡ length (first_of 1 path)
  unfolding names_domain
  domain_told h = eqb-true q.entry (length (first_of 1 path)) h

  party_told : no_party q ≡ true → (q.party ≡ 0) × (q.began ≡ 0)
  unfolding no_party
  party_told h = (eqb-true q.party 0 (and_left _ _ h), eqb-true q.began 0 (and_right (eqb q.party 0) _ h))

  size_of : (k : Kind) → has_tried k ≡ false → asked_in_form path q k ≡ true → good_size q.size ≡ true
  unfolding asked_in_form has_tried
  size_of Dc n h = and_left _ _ (and_right (no_party q) _ (and_right (names_domain path q) _ h))
  size_of Root n h = and_left _ _ (and_right ((eqb q.entry 0 && no_party q) || names_domain path q) _ h)
  size_of Link n h = and_right (names_prefix path q) _ h
  size_of Sysvol n h = and_left _ _ (and_right (one_party q) _ (and_right (names_domain path q) _ h))
  size_of Io n h = absurd (not_both refl n)

none_tried : (k : Kind) (t : List ℕ) → has_tried k ≡ false → good_tried (has_tried k) t ≡ true → t ≡ []
unfolding good_tried
none_tried k t n h =
    let z : length t ≡ 0 = eqb-true (length t) 0 (ap (λ b. good_tried b t) (sym n) ∙ h) in
    sym (take_all 0 t (omega arith))

pub count_short : (s : List ℕ) → 1 ≤ normalised_count s → length s ≤ 256
count_short s h = go (lt_or_le 256 (length s))
  where
    go : (256 < length s) ⊎ (length s ≤ 256) → length s ≤ 256
    go (inl l) =
        let z : 0 ≡ normalised_count s = normal_long s l in
        absurd (omega arith)
    go (inr l) = l

module _ {path tried : List ℕ} {q : Asking} (w : Waiting path tried q) where
  asked_as : {k : Kind} → q.kind ≡ k → asked_in_form path q k ≡ true
  asked_as e = ap (asked_in_form path q) (sym e) ∙ w.form

  pub link_named : q.kind ≡ Link → Prefixed path q
  unfolding asked_in_form
  link_named e = prefix_told path q (and_left _ _ (asked_as e))

  pub io_named : q.kind ≡ Io → Prefixed path q
  unfolding asked_in_form
  io_named e = prefix_told path q (and_left _ _ (asked_as e))

  pub dc_named : q.kind ≡ Dc → q.entry ≡ length (first_of 1 path)
  unfolding asked_in_form
  dc_named e = domain_told path q (and_left _ _ (asked_as e))

  pub sysvol_named : q.kind ≡ Sysvol → q.entry ≡ length (first_of 1 path)
  unfolding asked_in_form
  sysvol_named e = domain_told path q (and_left _ _ (asked_as e))

  pub root_named : q.kind ≡ Root → Rooted path q
  unfolding asked_in_form
  root_named e = go (told (eqb q.entry 0 && no_party q)) (and_left _ _ (asked_as e))
    where
      go : ((eqb q.entry 0 && no_party q) ≡ true) ⊎ ((eqb q.entry 0 && no_party q) ≡ false)
          → ((eqb q.entry 0 && no_party q) || names_domain path q) ≡ true → Rooted path q
      go (inl y) h = inl (eqb-true q.entry 0 (and_left _ _ y), party_told path q (and_right (eqb q.entry 0) _ y))
      go (inr n) h = inr (domain_told path q (rw n at h))

  -- a request: its size, and no path tried
  pub request_size : has_tried q.kind ≡ false → (1024 ≤ q.size) × (q.size ≤ 57344)
  request_size n = size_told q.size (size_of path q q.kind n w.form)

  pub request_tried : has_tried q.kind ≡ false → tried ≡ []
  request_tried n = none_tried q.kind tried n w.tried_form

  pub io_count : q.kind ≡ Io → 1 ≤ normalised_count tried
  unfolding has_tried good_tried
  io_count e = leb-true 1 (normalised_count tried) (ap (λ k. good_tried (has_tried k) tried) (sym e) ∙ w.tried_form)

-- texts of a next move in form fit their rooms
tried_short : (has : Bool) (t : List ℕ) → good_tried has t ≡ true → length t ≤ 256
unfolding good_tried
tried_short true t h = count_short t (leb-true 1 (normalised_count t) h)
tried_short false t h =
    let z : length t ≡ 0 = eqb-true (length t) 0 h in
    omega arith

pub texts_short : (path tried : List ℕ) (n : Next) → next_in_form path tried n ≡ true → (length path ≤ 256) × (length tried ≤ 256)
unfolding next_in_form
texts_short path tried (Asks q) h =
    let c : 2 ≤ normalised_count path = leb-true 2 (normalised_count path) (and_left _ _ h) in (
      count_short path (omega arith),
      tried_short (has_tried q.kind) tried (and_left _ _ (and_right (leb 2 (normalised_count path)) _ h)),
    )
texts_short path tried (Ends e status) h = (
  count_short path (leb-true 1 (normalised_count path) (and_left _ _ h)),
  tried_short (end_tried e) tried (and_left _ _ (and_right (leb 1 (normalised_count path)) _ h)),
)

-- texts that fit are read back from what is lent
module _ (n : ℕ) (a c : List ℕ) (t : List ℕ) (la : length a ≡ n) where
  second_in : take (length t) (drop n ((a ++ roomed n t) ++ c)) ≡ t
  unfolding roomed
  second_in =
      ap (λ (x : List ℕ). take (length t) (drop n x)) (append_assoc a (roomed n t) c)
      ∙ (ap (take (length t)) (drop_at a (roomed n t ++ c) n la)
      ∙ (take-append-le (length t) (roomed n t) c (simp length-append (omega arith)) ∙ take_roomed n t))

module _ (path tried boot : List ℕ) (hp : length path ≤ 256) (ht : length tried ≤ 256) where
  pub lent_path_in : take (length path) (lent path tried boot) ≡ path
  unfolding lent
  lent_path_in =
      let l : length (texts_of path tried) ≡ 512 = length_texts path tried hp ht in
      take-append-le (length path) (texts_of path tried) (roomed 256 boot) (omega arith) ∙ path_in_lem path tried

  pub lent_tried_in : take (length tried) (drop 256 (lent path tried boot)) ≡ tried
  unfolding lent texts_of
  lent_tried_in = second_in 256 (roomed 256 path) (roomed 256 boot) tried (length_roomed 256 path hp)

  pub lent_boot_in : take (length boot) (drop 512 (lent path tried boot)) ≡ boot
  unfolding lent
  lent_boot_in =
      ap (take (length boot)) (drop_at (texts_of path tried) (roomed 256 boot) 512 (length_texts path tried hp ht)) ∙ take_roomed 256 boot

  pub length_lent : length boot ≤ 256 → length (lent path tried boot) ≡ 768
  unfolding lent
  length_lent hb =
      let l : length (texts_of path tried) ≡ 512 = length_texts path tried hp ht in
      let m : length (roomed 256 boot) ≡ 256 = length_roomed 256 boot hb in
      length-append (texts_of path tried) (roomed 256 boot) ∙ (λ i. l i + m i)

-- the walk that a rest leaves is in form where its settings and its next move are
module _ (limit : ℕ) (boot : List ℕ) (x : Resting) where
  pub form_of_rest : good_settings limit x.core.size boot ≡ true → next_in_form x.core.path (tried_of x.rest) (next_of x.rest) ≡ true
      → in_form (walk_of limit boot x) (texts_after boot x) ≡ true
  unfolding in_form walk_of texts_after path_in tried_in boot_in
  form_of_rest s n =
      let z : (length x.core.path ≤ 256) × (length (tried_of x.rest) ≤ 256) = texts_short x.core.path (tried_of x.rest) (next_of x.rest) n in
      let u : length boot ≤ 255 = name_short boot (settings_told limit x.core.size boot s).boot_good in
      let p = lent_path_in x.core.path (tried_of x.rest) boot z.0 z.1 in
      let t = lent_tried_in x.core.path (tried_of x.rest) boot z.0 z.1 in
      let b = lent_boot_in x.core.path (tried_of x.rest) boot z.0 z.1 in
      and_both (eq-eqb _ 768 (length_lent x.core.path (tried_of x.rest) boot z.0 z.1 (omega arith)))
      (and_both (same_same_list _ _ (λ i. lent (p i) (t i) (b i)))
      (and_both (ap (good_settings limit x.core.size) b ∙ s)
      (and_both (le-leb (limit - x.left) limit (omega arith)) ((λ i. next_in_form (p i) (t i) (next_of x.rest)) ∙ n))))
