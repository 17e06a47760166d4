-- What is known of DC and domain replies that say something: for the crates above.
use mathlib.Core.Path.{◌≡◌, refl, sym, ap, ◌∙◌, subst}
use mathlib.Core.Bool.{Bool, true, false, ◌&&◌, not}
use mathlib.Core.List.{List, [], ◌∷◌, map}
use Prim.Native.Nat.{ℕ, zero, suc, ◌+◌, ◌-◌, ◌≤◌, ◌<◌, min}
use native.Mathlib.Omega.{arith}
use lib.Dec.{eqb}
use lib.ListN.{length, get_or, take, drop, length-take}
use borrow.Author.Tests.{eqb-false}
use Rattle.laws.specs.Choice.{choose}
use Rattle.laws.specs.Lists.{every}
use Rattle.laws.proofs.Choices.{and_left, and_right, and_both}
use Rattle.laws.proofs.Every.{every_take}
use Rattle.laws.proofs.Maps.{map_take}
use Rattle.unc.specs.names.Names.{good_name}
use Rattle.reply_bytes.specs.texts.Bytes.{u16_at, Text, terminated, unterminated}
use Rattle.reply_bytes.specs.texts.Code.{spanned}
use Rattle.reply_read.specs.referral.Replies.{referral_count, starts, entries, size_at, version_at, fits, entry_flag, readable, is_read, all_read, Reply, malformed, nothing, says}
use Rattle.reply_read.specs.referral.Code.{units_read, text_shown}
use Rattle.std.specs.Prelude.{Ok, None, Some, Option}
use Rattle.reply_bytes.specs.declared.texts.Span.{Span}
use Rattle.reply_read.proofs.referral.TextLaws.{text_good, text_bad}
use Rattle.reply_read.proofs.referral.EntryLaws.{unread, all_read_lem, starts_cons}
use Rattle.reply_read.proofs.referral.SaysLaws.{Read, read_says, some_is}
use Rattle.reply_read.specs.name_lists.NameLists.{bare, dc_of, domain_said, texts_at, dc_names, good_dcs, read_dcs, domain_at, good_domain_name, read_domains}
use Rattle.reply_read.specs.name_lists.Code.{domain_name, answer_of}
use Rattle.reply_read.proofs.name_lists.ListLaws.{domain_fit, domain_read, domains_read}

-- names that are read are good names
chosen_good : (b : Bool) (s : List ℕ) → (b ≡ true → good_name s ≡ true) → is_read (choose b (Some s) None) ≡ true → good_name (units_read (choose b (Some s) None)) ≡ true
unfolding choose units_read
chosen_good true s f h = f refl
chosen_good false s f h = absurd (unread refl h)

dc_name_good : (t : Text) → is_read (dc_of t) ≡ true → good_name (units_read (dc_of t)) ≡ true
unfolding dc_of
dc_name_good unterminated h = absurd (unread refl h)
dc_name_good (terminated s) h = chosen_good (good_name (bare s)) (bare s) (λ e. e) h

pub domain_name_good : (t : Text) → is_read (domain_said t) ≡ true → good_name (units_read (domain_said t)) ≡ true
unfolding domain_said
domain_name_good unterminated h = absurd (unread refl h)
domain_name_good (terminated s) h = chosen_good (eqb (get_or s 0 0) 92 && good_name (drop 1 s)) (drop 1 s) (λ e. and_right (eqb (get_or s 0 0) 92) _ e) h

dcs_all : (ts : List Text) → every is_read (map dc_of ts) ≡ true → every good_name (map units_read (map dc_of ts)) ≡ true
unfolding every
dcs_all [] h = refl
dcs_all (t ∷ ts) h = and_both (dc_name_good t (and_left _ _ h)) (dcs_all ts (and_right (is_read (dc_of t)) _ h))

length_map : {A B : Type 0} (f : A → B) (l : List A) → length (map f l) ≡ length l
length_map f [] = refl
length_map f (x ∷ l) = ap suc (length_map f l)

length_texts : (n i : ℕ) (r : List ℕ) → length (texts_at n i r) ≡ n
unfolding texts_at
length_texts zero i r = refl
length_texts (suc n) i r = ap suc (length_texts n _ r)

length_names : (r : List ℕ) → length (dc_names r) ≡ u16_at r 22
unfolding dc_names
length_names r = length_map dc_of (texts_at (u16_at r 22) (8 + u16_at r 24) r) ∙ length_texts (u16_at r 22) (8 + u16_at r 24) r

pub dcs_read : (r : List ℕ) → good_dcs r ≡ true → (every is_read (dc_names r) ≡ true) × (u16_at r 22 ≡ 0 → ⊥)
unfolding good_dcs
dcs_read r h =
    let q : (not (eqb (u16_at r 22) 0) && every is_read (dc_names r)) ≡ true =
    and_right (entry_flag 2 r 8) _ (and_right (fits 18 r 8) _ (and_right (readable (version_at r 8)) _ h)) in
    (and_right (not (eqb (u16_at r 22) 0)) _ q, eqb-false (u16_at r 22) 0 (borrow.Author.Tests.not-true _ (and_left _ _ q)))

-- the first 8 names of a good DC reply are read
pub dcs_kept : (r : List ℕ) → good_dcs r ≡ true → all_read (take 8 (dc_names r)) ≡ Some (map units_read (take 8 (dc_names r)))
dcs_kept r h = all_read_lem (take 8 (dc_names r)) (every_take is_read 8 (dc_names r) (dcs_read r h).0)

-- What a DC reply says: 1 to 8 good names.
pub record SoundDcs (xs : List (List ℕ)) : Type 0 where
  pub some : 1 ≤ length xs
  pub most : length xs ≤ 8
  pub good : every good_name xs ≡ true

pub says_dcs : (size : ℕ) (r : List ℕ) (xs : List (List ℕ)) → read_dcs size r ≡ says xs → SoundDcs xs
unfolding read_dcs dc_names
says_dcs size r xs h = subst SoundDcs (some_is _ xs (sym (dcs_kept r w.passed) ∙ w.same)) sound
  where
    w : Read size r (good_dcs r) (all_read (take 8 (dc_names r))) xs
    w = read_says size r (good_dcs r) (all_read (take 8 (dc_names r))) xs h

    count : length (map units_read (take 8 (dc_names r))) ≡ min 8 (u16_at r 22)
    count = length_map units_read (take 8 (dc_names r)) ∙ (length-take 8 (dc_names r) ∙ ap (min 8) (length_names r))

    sound : SoundDcs (map units_read (take 8 (dc_names r)))
    sound =
        let q : u16_at r 22 ≡ 0 → ⊥ = (dcs_read r w.passed).1 in
        record {
          some = omega (arith, count);
          most = omega (arith, count);
          good = ap (every good_name) (map_take units_read 8 (dc_names r))
              ∙ every_take good_name 8 (map units_read (dc_names r)) (dcs_all (texts_at (u16_at r 22) (8 + u16_at r 24) r) (dcs_read r w.passed).0);
        }

-- A domain reply that says something: its names are those of its entries, all of them good.
pub record SoundDomains (size : ℕ) (r : List ℕ) : Type 0 where
  pub is : read_domains size r ≡ says (map (domain_name r) (entries r))
  pub header : 8 ≤ length r
  pub within : length r ≤ size
  pub some : 0 < referral_count r
  pub good : every (good_domain_name r) (entries r) ≡ true

says_of : {A : Type 0} (x : Reply A) → Ok tt ≡ answer_of x → (B : Type 0) → ((a : A) → x ≡ says a → B) → B
unfolding answer_of
says_of malformed h B f = absurd cc
says_of nothing h B f = absurd cc
says_of (says a) h B f = f a refl

pub says_domains : (size : ℕ) (r : List ℕ) → Ok tt ≡ answer_of (read_domains size r) → SoundDomains size r
unfolding read_domains
says_domains size r h = says_of (read_domains size r) h (SoundDomains size r) made
  where
    made : (xs : List (List ℕ)) → read_domains size r ≡ says xs → SoundDomains size r
    made xs e =
        let w : Read size r (every (good_domain_name r) (entries r)) (all_read (map (domain_at r) (entries r))) xs =
        read_says size r (every (good_domain_name r) (entries r)) (all_read (map (domain_at r) (entries r))) xs e in
        let q : xs ≡ map (domain_name r) (entries r) = some_is xs _ (sym w.same ∙ domains_read r (entries r) w.passed) in
        record {
          is = e ∙ (λ i. says (q i));
          header = w.header;
          within = w.within;
          some = w.counted;
          good = w.passed;
        }

-- a domain name that is taken
pub name_taken : (r : List ℕ) (e : ℕ) {v : Option Span} (s : Span) → text_shown r v ≡ domain_at r e → v ≡ Some s → spanned r s ≡ domain_name r e
unfolding domain_name units_read
name_taken r e s f h = sym (ap units_read (text_good r s h f))

-- The entries one after another, i of n passed, all that are left being good: the one at e fits and has a good name.
module _ (r : List ℕ) (n i e : ℕ) (h : i < n) (k : every (good_domain_name r) (starts (n - i) e r) ≡ true) where
  left_good : good_domain_name r e ≡ true
  unfolding every
  left_good = and_left _ _ (ap (every (good_domain_name r)) (sym (starts_cons (λ x. true) r n i e h)) ∙ k)

  pub left_fits : (18 ≤ size_at r e) × (e + size_at r e ≤ length r)
  left_fits = domain_fit r e refl left_good

  pub left_name : good_name (domain_name r e) ≡ true
  unfolding domain_name domain_at
  left_name = domain_name_good _ (domain_read r e left_good)

  pub left_read : {v : Option Span} → text_shown r v ≡ domain_at r e → v ≡ None → ⊥
  left_read f h = unread (text_bad r h f) (domain_read r e left_good)

  pub left_next : {z : ℕ} → z ≡ e + size_at r e → every (good_domain_name r) (starts (n - (i + 1)) z r) ≡ true
  unfolding every
  left_next g =
      ap (λ (x : ℕ). every (good_domain_name r) (starts (n - (i + 1)) x r)) g
      ∙ and_right (good_domain_name r e) _ (ap (every (good_domain_name r)) (sym (starts_cons (λ x. true) r n i e h)) ∙ k)
