-- Laws of DC and domain replies.
use mathlib.Core.Path.{◌≡◌, refl, sym, ap, ◌∙◌}
use mathlib.Core.Bool.{Bool, true, false, ◌&&◌, true≢false}
use mathlib.Core.List.{List, [], ◌∷◌, ◌++◌, map}
use mathlib.Core.Logic.{◌⊎◌, inl, inr}
use Prim.Native.Nat.{ℕ, suc, ◌+◌, ◌-◌, ◌*◌, ◌≤◌, ◌<◌, min}
use native.Mathlib.Omega.{arith}
use lib.Dec.{eqb}
use lib.ListN.{length, get_or, take, drop, set, length-drop}
use lib.Seq.{take_all}
use borrow.Author.Tests.{eq-eqb, ne_eqb, eqb-true, leb-true}
use Rattle.std.specs.Bool.{then_some}
use Rattle.laws.specs.Choice.{choose}
use Rattle.laws.specs.Lists.{every}
use Rattle.laws.proofs.Choices.{choose_yes, choose_no, and_left, and_right, and_both, and_no_left}
use Rattle.laws.proofs.Orders.{lt_or_le}
use Rattle.laws.proofs.Filling.{filled_next, filled_whole, every_set}
use Rattle.unc.specs.names.Names.{good_name}
use Rattle.reply_bytes.specs.texts.Bytes.{Text, terminated, unterminated, text_from}
use Rattle.reply_bytes.specs.texts.Code.{spanned, Inside, part_of}
use Rattle.reply_bytes.specs.declared.texts.Span.{Span}
use Rattle.reply_bytes.proofs.texts.UnitLaws.{length_spanned, part_spanned}
use Rattle.reply_read.specs.referral.Replies.{is_read, with_first, all_read, readable, version_at, fits, entry_flag, size_at}
use Rattle.reply_read.specs.name_lists.NameLists.{bare, dc_of, domain_said, bytes_past, texts_at, good_dcs, domain_at, good_domain_name}
use Rattle.reply_read.specs.referral.Replies.{read_or}
use Rattle.reply_read.specs.referral.Code.{is_inside, text_shown, units_read, unread}
use Rattle.reply_read.specs.name_lists.Code.{dc_shown, dc_placed, domain_name, answer_of}
use Rattle.reply_read.specs.declared.name_lists.NextDc.{NextDc}
use Rattle.reply_read.specs.declared.referral.Unread.{Unread}
use Rattle.reply_read.specs.declared.referral.Unread.TheVariants.{Malformed, Nothing}
use Rattle.std.specs.Prelude.{Ok, Err, Option, None, Some}
use Rattle.reply_read.proofs.referral.EntryLaws.{read_some, fits_room}
use Rattle.reply_read.proofs.referral.TargetLaws.{inside_test}

-- a span without its first unit
pub rest_spanned : (r : List ℕ) (s : Span) → 0 < s.units → spanned r (part_of s 1 s.units) ≡ drop 1 (spanned r s)
rest_spanned r s h =
    let l : length (spanned r s) ≡ s.units = length_spanned r s in
    part_spanned r s 1 s.units (omega arith) (omega arith)
    ∙ take_all (s.units - 1) (drop 1 (spanned r s)) (simp length-drop (omega arith))

-- a span that is handed on where a test holds
pub kept_shown : (r : List ℕ) (t : Bool) (s : Span) → text_shown r (then_some t s) ≡ choose t (Some (spanned r s)) None
unfolding text_shown choose
kept_shown r true s = refl
kept_shown r false s = refl

-- the ways of `bare`, `dc_of` and `domain_said`
module _ (u : List ℕ) where
  pub bare_stays : (get_or u 0 0 ≡ 92 → ⊥) → u ≡ bare u
  unfolding bare
  bare_stays h = sym (choose_no (drop 1 u) u (ne_eqb (get_or u 0 0) 92 h))

  pub bare_drops : get_or u 0 0 ≡ 92 → drop 1 u ≡ bare u
  unfolding bare
  bare_drops h = sym (choose_yes (drop 1 u) u (eq-eqb (get_or u 0 0) 92 h))

  pub dc_told : {b : List ℕ} {t : Bool} → b ≡ bare u → t ≡ good_name b → choose t (Some b) None ≡ dc_of (terminated u)
  unfolding dc_of
  dc_told e f = λ i. choose ((f ∙ ap good_name e) i) (Some (e i)) None

  pub domain_unled : (get_or u 0 0 ≡ 92 → ⊥) → domain_said (terminated u) ≡ None
  unfolding domain_said
  domain_unled h = choose_no (Some (drop 1 u)) None (and_no_left _ (ne_eqb (get_or u 0 0) 92 h))

  pub domain_told : {b : List ℕ} {t : Bool} → get_or u 0 0 ≡ 92 → b ≡ drop 1 u → t ≡ good_name b → choose t (Some b) None ≡ domain_said (terminated u)
  unfolding domain_said
  domain_told g e f = rw (eq-eqb (get_or u 0 0) 92 g) (λ i. choose ((f ∙ ap good_name e) i) (Some (e i)) None)

pub domain_unended : {t : Text} → t ≡ unterminated → domain_said t ≡ None
unfolding domain_said
domain_unended e = ap domain_said e

pub dc_unended : {t : Text} → t ≡ unterminated → dc_of t ≡ None
unfolding dc_of
dc_unended e = ap dc_of e

-- What reading a DC name answers, and what is known of it where it is taken.
module _ (r : List ℕ) (i : ℕ) where
  pub no_dc_lem : {v : Option NextDc} → v ≡ None → {x : Option (List ℕ)} → x ≡ None → (dc_shown r v ≡ x) × (dc_placed r i v ≡ true)
  unfolding dc_shown dc_placed
  no_dc_lem h e = rw h (sym e, refl)

  pub some_dc : (d : NextDc) {x : Option (List ℕ)} → x ≡ Some (spanned r d.name) → Inside r d.name → d.next ≡ i → (dc_shown r (Some d) ≡ x) × (dc_placed r i (Some d) ≡ true)
  unfolding dc_shown dc_placed
  some_dc d e h k = (sym e, and_both (inside_test r d.name h) (eq-eqb d.next i k))

module _ (r : List ℕ) {v : Option NextDc} where
  pub dc_bad : v ≡ None → {x : Option (List ℕ)} → dc_shown r v ≡ x → x ≡ None
  unfolding dc_shown
  dc_bad e f = sym f ∙ ap (dc_shown r) e

  module _ (d : NextDc) (e : v ≡ Some d) where
    pub dc_good : {x : Option (List ℕ)} → dc_shown r v ≡ x → x ≡ Some (spanned r d.name)
    unfolding dc_shown
    dc_good f = sym f ∙ ap (dc_shown r) e

    module _ (i : ℕ) (h : dc_placed r i v ≡ true) where
      placed : (is_inside r d.name && eqb d.next i) ≡ true
      unfolding dc_placed
      placed = sym (ap (dc_placed r i) e) ∙ h

      pub dc_next : d.next ≡ i
      dc_next = eqb-true d.next i (and_right (is_inside r d.name) _ placed)

      pub dc_inside : Inside r d.name
      unfolding is_inside
      dc_inside = leb-true (d.name.from + 2 * d.name.units) (length r) (and_left _ _ placed)

-- where the next text starts
pub past_ended : {t : Text} (at : ℕ) (r : List ℕ) (s : Span) → t ≡ terminated (spanned r s) → at + 2 * (s.units + 1) ≡ at + bytes_past t
unfolding bytes_past
past_ended at r s e =
    ap (λ (n : ℕ). at + 2 * (n + 1)) (sym (length_spanned r s)) ∙ ap (λ (x : Text). at + bytes_past x) (sym e)

-- Texts one after another, i of n passed.
module _ (r : List ℕ) (n i at : ℕ) where
  texts_cons : i < n → texts_at (n - i) at r ≡ text_from r at ∷ texts_at (n - (i + 1)) (at + bytes_past (text_from r at)) r
  unfolding texts_at
  texts_cons h = let q : n - i ≡ suc (n - (i + 1)) = omega arith in ap (λ (m : ℕ). texts_at m at r) q

  texts_none : n ≤ i → texts_at (n - i) at r ≡ []
  unfolding texts_at
  texts_none h = let q : n - i ≡ 0 = omega arith in ap (λ (m : ℕ). texts_at m at r) q

  pub names_miss : i < n → dc_of (text_from r at) ≡ None → every is_read (map dc_of (texts_at (n - i) at r)) ≡ false
  unfolding every is_read
  names_miss h k =
      ap (λ (x : List Text). every is_read (map dc_of x)) (texts_cons h)
      ∙ ap (λ (x : Option (List ℕ)). is_read x && every is_read (map dc_of (texts_at (n - (i + 1)) (at + bytes_past (text_from r at)) r))) k

  pub names_left : i < n → every is_read (map dc_of (texts_at (n - i) at r)) ≡ true → dc_of (text_from r at) ≡ None → ⊥
  names_left h g k = true≢false (sym g ∙ names_miss h k)

  module _ (s : Span) (a : dc_of (text_from r at) ≡ Some (spanned r s)) {z : ℕ} (b : z ≡ at + bytes_past (text_from r at)) where
    pub names_hit : i < n → every is_read (map dc_of (texts_at (n - i) at r)) ≡ every is_read (map dc_of (texts_at (n - (i + 1)) z r))
    unfolding every is_read
    names_hit h =
        ap (λ (x : List Text). every is_read (map dc_of x)) (texts_cons h)
        ∙ (ap (λ (x : Option (List ℕ)). is_read x && every is_read (map dc_of (texts_at (n - (i + 1)) (at + bytes_past (text_from r at)) r))) a
        ∙ ap (λ (x : ℕ). every is_read (map dc_of (texts_at (n - (i + 1)) x r))) (sym b))

    -- one name stored
    pub name_next : (l : List Span) {all : List (List ℕ)} → all ≡ map (spanned r) (take i l) ++ map units_read (take (8 - i) (map dc_of (texts_at (n - i) at r)))
        → i < length l → i < n → i < 8 → all ≡ map (spanned r) (take (i + 1) (set l i s)) ++ map units_read (take (8 - (i + 1)) (map dc_of (texts_at (n - (i + 1)) z r)))
    unfolding units_read
    name_next l g h k m =
        let p : 8 - i ≡ suc (8 - (i + 1)) = omega arith in
        g
        ∙ filled_next (spanned r) l i s h
        ((λ j. map units_read (take (p j) (map dc_of (texts_cons k j))))
        ∙ (λ j. units_read (dc_of (text_from r at)) ∷ map units_read (take (8 - (i + 1)) (map dc_of (texts_at (n - (i + 1)) (sym b j) r)))))
        (sym (ap units_read a))

  pub names_end : n ≤ i → every is_read (map dc_of (texts_at (n - i) at r)) ≡ true
  unfolding every
  names_end h = ap (λ (x : List Text). every is_read (map dc_of x)) (texts_none h)

  -- the names are all stored
  pub name_all : (m : ℕ) (l : List Span) {all : List (List ℕ)} → all ≡ map (spanned r) (take i l) ++ map units_read (take (8 - i) (map dc_of (texts_at (n - i) at r)))
      → m ≡ min n 8 → i ≤ m → m ≤ i → map (spanned r) (take (min n 8) l) ≡ all
  name_all m l g b h k =
      let q : min n 8 ≡ i = omega arith in
      ap (λ (x : ℕ). map (spanned r) (take x l)) q ∙ filled_whole (spanned r) l i g (go (lt_or_le i n))
    where
      go : (i < n) ⊎ (n ≤ i) → map units_read (take (8 - i) (map dc_of (texts_at (n - i) at r))) ≡ []
      go (inl y) = let p : 8 - i ≡ 0 = omega arith in ap (λ (x : ℕ). map units_read (take x (map dc_of (texts_at (n - i) at r)))) p
      go (inr y) = ap (λ (x : List Text). map units_read (take (8 - i) (map dc_of x))) (texts_none y) ∙ ap (map units_read) (lib.Seq.take-nil (8 - i))

pub texts_all : (r : List ℕ) (n from : ℕ) → texts_at n from r ≡ texts_at (n - 0) from r
texts_all r n from = let q : n ≡ n - 0 = omega arith in ap (λ (m : ℕ). texts_at m from r) q

pub names_start : (r : List ℕ) (n from : ℕ) → every is_read (map dc_of (texts_at n from r)) ≡ every is_read (map dc_of (texts_at (n - 0) from r))
names_start r n from = ap (λ (x : List Text). every is_read (map dc_of x)) (texts_all r n from)

pub name_start : (r : List ℕ) (n from : ℕ) → map units_read (take 8 (map dc_of (texts_at n from r))) ≡ map units_read (take 8 (map dc_of (texts_at (n - 0) from r)))
name_start r n from = ap (λ (x : List Text). map units_read (take 8 (map dc_of x))) (texts_all r n from)

pub span_next : (r : List ℕ) (l : List Span) (i : ℕ) (s : Span) → every (is_inside r) l ≡ true → Inside r s → every (is_inside r) (set l i s) ≡ true
span_next r l i s h k = every_set (is_inside r) l i s h (inside_test r s k)

-- a good DC reply reaches past the fixed part of its first entry
pub dcs_long : (r : List ℕ) {t : Bool} → t ≡ good_dcs r → t ≡ true → 26 ≤ length r
unfolding good_dcs
dcs_long r f h =
    let w : (18 ≤ size_at r 8) × (8 + size_at r 8 ≤ length r) = fits_room 18 r 8 refl (and_left _ _ (and_right (readable (version_at r 8)) _ (sym f ∙ h))) in
    omega (arith, w.0, w.1)

-- one entry of a domain reply
module _ (r : List ℕ) (e : ℕ) where
  domain_parts : good_domain_name r e ≡ (eqb (version_at r e) 3 && (fits 18 r e && (entry_flag 2 r e && is_read (domain_at r e))))
  unfolding good_domain_name
  domain_parts = refl

  pub domain_read : good_domain_name r e ≡ true → is_read (domain_at r e) ≡ true
  domain_read h = and_right (entry_flag 2 r e) _ (and_right (fits 18 r e) _ (and_right (eqb (version_at r e) 3) _ (sym domain_parts ∙ h)))

  pub domain_fit : {t : Bool} → t ≡ good_domain_name r e → t ≡ true → (18 ≤ size_at r e) × (e + size_at r e ≤ length r)
  unfolding good_domain_name
  domain_fit f h = fits_room 18 r e refl (and_left _ _ (and_right (eqb (version_at r e) 3) _ (sym f ∙ h)))

-- the names of good entries are read
pub domains_read : (r es : List ℕ) → every (good_domain_name r) es ≡ true → all_read (map (domain_at r) es) ≡ Some (map (domain_name r) es)
unfolding every all_read with_first domain_name
domains_read r [] h = refl
domains_read r (e ∷ es) h =
    ap (λ (x : Option (List ℕ)). all_read (x ∷ map (domain_at r) es)) (read_some (domain_at r e) (domain_read r e (and_left (good_domain_name r e) _ h)))
    ∙ ap (with_first (domain_name r e)) (domains_read r es (and_right (good_domain_name r e) _ h))

-- which way a reply is read
pub answer_ok : {A : Type 0} {x : Option A} {a : A} → x ≡ Some a → Ok tt ≡ answer_of (read_or x)
unfolding read_or answer_of
answer_ok e = sym (ap (λ (y : Option _). answer_of (read_or y)) e)

pub answer_err : (A : Type 0) (e : Unread) → Err e ≡ answer_of {A = A} (unread e)
unfolding answer_of unread
answer_err A Malformed = refl
answer_err A Nothing = refl
