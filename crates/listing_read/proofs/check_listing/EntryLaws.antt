-- Laws of the lines of an entry: that they pass the tests line by line is that they list an entry that a listing can say.
use mathlib.Core.Path.{◌≡◌, refl, sym, ap, subst, ◌∙◌}
use mathlib.Core.Bool.{Bool, true, false, true≢false, ◌&&◌, not}
use mathlib.Core.List.{List, [], ◌∷◌, ◌++◌, map}
use mathlib.Core.Logic.{◌⊎◌, inl, inr}
use Prim.Native.Nat.{ℕ, zero, suc, ◌+◌, ◌≤◌, ◌<◌}
use native.Mathlib.Omega.{arith}
use lib.ListN.{length, drop}
use lib.Seq.{drop-append_seam}
use lib.Dec.{eqb, leb, ltb}
use borrow.Author.Tests.{ne_eqb, leb-true, le-leb, ltb-true, lt-ltb}
use Rattle.laws.specs.Choice.{choose}
use Rattle.laws.specs.Lists.{every}
use Rattle.laws.specs.Listed.{same_list}
use Rattle.laws.proofs.Choices.{choose_yes, choose_no, and_both, and_left, and_right, and_yes_left, or_told}
use Rattle.laws.proofs.Listed.{same_list_true, same_same_list}
use Rattle.laws.proofs.Orders.{told}
use Rattle.cache.specs.places.Layout.{flag_unit}
use Rattle.unc.specs.names.Paths.{Target}
use Rattle.cache.specs.order.Entries.{Referral}
use Rattle.cache.specs.order.Order.{good_prefix, good_target, first_opens_none}
use Rattle.cache.proofs.order.KindLaws.{GoodReferral, referral_told, good_referral_lem}
use Rattle.listing_spelling.specs.spell.Spelling.{spelled, decimal}
use Rattle.listing_spelling.specs.unspell.Reading.{unit, unspelled, is_spelled, decimal_of}
use Rattle.listing_spelling.proofs.unspell.UnspelledLaws.{unspelled_spelled}
use Rattle.listing_spelling.proofs.unspell.NumberLaws.{decimal_says}
use Rattle.listing_write.specs.Form.{prefix_key, kind_key, interlink_key, failback_key, ttl_key, taken_key, hint_key, target_key, kind_word, path_line, number_line, target_lines, setting_lines, count_lines, entry_lines}
use Rattle.listing_read.specs.line.Lines.{value_of, number_said}
use Rattle.listing_read.specs.line.Code.{is_path_line}
use Rattle.listing_read.specs.listing_rules.Entries.{target_said, entry_said}
use Rattle.listing_read.proofs.listing_rules.SaidLaws.{Listable}
use Rattle.std.specs.Prelude.{Option, Some, None}
use Rattle.listing_read.specs.check_listing.Code.{at_most, is_number_line, is_kind_line, later_line, good_line, least_for, hint_step, step_of, tested_after, good_lines, good_entry_lines}
use Rattle.listing_read.proofs.check_listing.StepLaws.{target_line}
use Rattle.listing_read.proofs.check_listing.SpelledLaws.{units_said}

-- a line of a path
pub record PathSaid (key line : List ℕ) : Type 0 where
  pub form : path_line key (unspelled (value_of key line)) ≡ line
  pub good : good_prefix (unspelled (value_of key line)) ≡ true
  pub units : every unit (unspelled (value_of key line)) ≡ true

value_of_lem : (key v : List ℕ) → value_of key (key ++ v) ≡ v
unfolding value_of
value_of_lem key v = drop-append_seam key v

pub path_told : (key line : List ℕ) → is_path_line key line ≡ true → PathSaid key line
unfolding is_path_line path_line is_spelled
path_told key line h =
    let s : List ℕ = unspelled (value_of key line) in
    let e = same_list_true (key ++ spelled s) line (and_left (same_list (key ++ spelled s) line) _ h) in
    record {
      form = e;
      good = and_right (same_list (key ++ spelled s) line) _ h;
      units = units_said (value_of key line) (same_same_list _ _ (sym (value_of_lem key (spelled s)) ∙ ap (value_of key) e));
    }

pub path_good_lem : (key s : List ℕ) → every unit s ≡ true → good_prefix s ≡ true → is_path_line key (path_line key s) ≡ true
unfolding is_path_line path_line
path_good_lem key s h g =
    let e : unspelled (value_of key (key ++ spelled s)) ≡ s = ap unspelled (value_of_lem key (spelled s)) ∙ unspelled_spelled s h in
    and_both (same_same_list _ _ (ap (λ (x : List ℕ). key ++ spelled x) e)) (ap good_prefix e ∙ g)

-- a line of a number
pub record NumberTold (key : List ℕ) (most : ℕ) (line : List ℕ) : Type 0 where
  pub form : number_line key (decimal_of (value_of key line)) ≡ line
  pub small : decimal_of (value_of key line) < 4294967296
  pub within : decimal_of (value_of key line) ≤ most

number_test : (key line : List ℕ) → Bool
number_test key line = ltb (decimal_of (value_of key line)) 4294967296 && same_list (number_line key (decimal_of (value_of key line))) line

number_yes : (key line : List ℕ) → number_test key line ≡ true → number_said key line ≡ Some (decimal_of (value_of key line))
unfolding number_said number_test
number_yes key line h = choose_yes _ _ h

number_no : (key line : List ℕ) → number_test key line ≡ false → number_said key line ≡ None
unfolding number_said number_test
number_no key line h = choose_no _ _ h

test_told : (key : List ℕ) (most : ℕ) (line : List ℕ) → number_test key line ≡ true → decimal_of (value_of key line) ≤ most → NumberTold key most line
unfolding number_test
test_told key most line h w = record {
  form = same_list_true _ line (and_right (ltb (decimal_of (value_of key line)) 4294967296) _ h);
  small = ltb-true _ _ (and_left (ltb (decimal_of (value_of key line)) 4294967296) _ h);
  within = w;
}

pub number_told : (key : List ℕ) (most : ℕ) (line : List ℕ) → is_number_line key most line ≡ true → NumberTold key most line
unfolding is_number_line at_most
number_told key most line h = go (told (number_test key line))
  where
    go : (number_test key line ≡ true) ⊎ (number_test key line ≡ false) → NumberTold key most line
    go (inl k) = test_told key most line k (leb-true _ most (sym (ap (at_most most) (number_yes key line k)) ∙ h))
    go (inr k) = absurd (true≢false (sym h ∙ ap (at_most most) (number_no key line k)))

number_passes : (key : List ℕ) (n : ℕ) → n < 4294967296 → number_said key (number_line key n) ≡ Some n
unfolding number_said number_line
number_passes key n h =
    let e : decimal_of (value_of key (key ++ decimal n)) ≡ n = ap decimal_of (value_of_lem key (decimal n)) ∙ decimal_says n h in
    choose_yes _ _ (and_both (lt-ltb _ _ (subst (λ (x : ℕ). x < 4294967296) (sym e) h)) (same_same_list _ _ (ap (λ (x : ℕ). key ++ decimal x) e))) ∙ ap Some e

pub number_good : (key : List ℕ) (most n : ℕ) → n < 4294967296 → n ≤ most → is_number_line key most (number_line key n) ≡ true
unfolding is_number_line at_most
number_good key most n h k = ap (at_most most) (number_passes key n h) ∙ le-leb n most k

-- the line of a flag
flag_back : (n : ℕ) → n ≤ 1 → flag_unit (eqb n 1) ≡ n
unfolding flag_unit choose
flag_back zero h = refl
flag_back (suc zero) h = refl
flag_back (suc (suc n)) h = absurd (let z : suc (suc n) ≤ 1 = h in omega arith)

flag_small : (b : Bool) → flag_unit b ≤ 1
unfolding flag_unit choose
flag_small true = omega arith
flag_small false = omega arith

flag_form : (key line : List ℕ) → NumberTold key 1 line → number_line key (flag_unit (eqb (decimal_of (value_of key line)) 1)) ≡ line
flag_form key line t = ap (number_line key) (flag_back (decimal_of (value_of key line)) t.within) ∙ t.form

pub flag_good : (key : List ℕ) (b : Bool) → is_number_line key 1 (number_line key (flag_unit b)) ≡ true
flag_good key b = number_good key 1 (flag_unit b) (let z = flag_small b in omega arith) (flag_small b)

-- the line of the kind
kind_word_lem : (b : Bool) → same_list (kind_word b) (kind_word true) ≡ b
unfolding kind_word same_list
kind_word_lem true = refl
kind_word_lem false = refl

kind_form : (line : List ℕ) → is_kind_line line ≡ true → kind_key ++ kind_word (same_list (drop 5 line) (kind_word true)) ≡ line
unfolding is_kind_line
kind_form line h = go (or_told (same_list (kind_key ++ kind_word true) line) _ h)
  where
    said : (b : Bool) → kind_key ++ kind_word b ≡ line → kind_key ++ kind_word (same_list (drop 5 line) (kind_word true)) ≡ line
    said b e = ap (λ (x : Bool). kind_key ++ kind_word x) (ap (λ (x : List ℕ). same_list (drop 5 x) (kind_word true)) (sym e) ∙ kind_word_lem b) ∙ e

    go : (same_list (kind_key ++ kind_word true) line ≡ true) ⊎ (same_list (kind_key ++ kind_word false) line ≡ true) → kind_key ++ kind_word (same_list (drop 5 line) (kind_word true)) ≡ line
    go (inl e) = said true (same_list_true _ line e)
    go (inr e) = said false (same_list_true _ line e)

kind_good : (b : Bool) → is_kind_line (kind_key ++ kind_word b) ≡ true
unfolding is_kind_line kind_word same_list
kind_good true = refl
kind_good false = refl

-- the tests of a list of lines, line by line
chosen : (b : Bool) (n : ℕ) (f : ℕ → Bool) → tested_after (choose b (Some n) None) f ≡ (b && f n)
unfolding tested_after choose
chosen true n f = refl
chosen false n f = refl

lines_cons : (j m : ℕ) (l : List ℕ) (ls : List (List ℕ)) → (j ≡ 6 → ⊥) → good_lines j m (l ∷ ls) ≡ (good_line j l && good_lines (suc j) m ls)
unfolding good_lines step_of
lines_cons j m l ls h =
    ap (λ (x : Option ℕ). tested_after x (λ (k : ℕ). good_lines (suc j) k ls)) (choose_no _ _ (ne_eqb j 6 h))
    ∙ chosen (good_line j l) m (λ (k : ℕ). good_lines (suc j) k ls)

hint_cons : (m : ℕ) (l : List ℕ) (ls : List (List ℕ)) → good_lines 6 m (l ∷ ls) ≡ (is_number_line hint_key 4294967295 l && good_lines 7 (8 + decimal_of (value_of hint_key l)) ls)
unfolding good_lines step_of hint_step least_for tested_after is_number_line at_most choose
hint_cons m l ls = go (told (number_test hint_key l))
  where
    go : (number_test hint_key l ≡ true) ⊎ (number_test hint_key l ≡ false)
        → tested_after (least_for (number_said hint_key l)) (λ (k : ℕ). good_lines 7 k ls) ≡ (at_most 4294967295 (number_said hint_key l) && good_lines 7 (8 + decimal_of (value_of hint_key l)) ls)
    go (inl k) =
        let d : ℕ = decimal_of (value_of hint_key l) in
        let z = test_told hint_key d l k (omega arith) in
        ap (λ (x : Option ℕ). tested_after (least_for x) (λ (i : ℕ). good_lines 7 i ls)) (number_yes hint_key l k)
        ∙ sym (ap (λ (x : Option ℕ). at_most 4294967295 x && good_lines 7 (8 + d) ls) (number_yes hint_key l k) ∙ and_yes_left (good_lines 7 (8 + d) ls) (le-leb d 4294967295 (omega (arith, z.small))))
    go (inr k) =
        ap (λ (x : Option ℕ). tested_after (least_for x) (λ (i : ℕ). good_lines 7 i ls)) (number_no hint_key l k)
        ∙ sym (ap (λ (x : Option ℕ). at_most 4294967295 x && good_lines 7 (8 + decimal_of (value_of hint_key l)) ls) (number_no hint_key l k))

-- the lines of targets
pub record TargetsTold (ts : List (List ℕ)) (j m : ℕ) : Type 0 where
  pub each : every (is_path_line target_key) ts ≡ true
  pub few : j + length ts ≤ 15
  pub enough : m ≤ j + length ts

lines_none : (j m : ℕ) → good_lines j m [] ≡ leb m j
unfolding good_lines
lines_none j m = refl

target_cons : (j m : ℕ) (t : List ℕ) (ts : List (List ℕ)) → 7 ≤ j → good_lines j m (t ∷ ts) ≡ ((ltb j 15 && is_path_line target_key t) && good_lines (suc j) m ts)
target_cons j m t ts h = lines_cons j m t ts (λ e. omega arith) ∙ ap (λ (x : Bool). x && good_lines (suc j) m ts) (target_line j t h)

targets_told : (ts : List (List ℕ)) (j m : ℕ) → 7 ≤ j → j ≤ 15 → good_lines j m ts ≡ true → TargetsTold ts j m
unfolding every
targets_told [] j m a b h = record { each = refl; few = omega arith; enough = omega (arith, leb-true m j (sym (lines_none j m) ∙ h)) }
targets_told (t ∷ ts) j m a b h =
    let k = sym (target_cons j m t ts a) ∙ h in
    let k₁ = and_left (ltb j 15 && is_path_line target_key t) (good_lines (suc j) m ts) k in
    let l = ltb-true j 15 (and_left (ltb j 15) (is_path_line target_key t) k₁) in
    let w = targets_told ts (suc j) m (omega arith) (omega arith) (and_right (ltb j 15 && is_path_line target_key t) (good_lines (suc j) m ts) k) in
    record { each = and_both (and_right (ltb j 15) (is_path_line target_key t) k₁) w.each; few = omega (arith, w.few); enough = omega (arith, w.enough) }

targets_good : (ts : List (List ℕ)) (j m : ℕ) → 7 ≤ j → every (is_path_line target_key) ts ≡ true → j + length ts ≤ 15 → m ≤ j + length ts → good_lines j m ts ≡ true
unfolding every
targets_good [] j m a h f n = lines_none j m ∙ le-leb m j (omega arith)
targets_good (t ∷ ts) j m a h f n =
    target_cons j m t ts a
    ∙ and_both (and_both (lt-ltb j 15 (omega arith)) (and_left (is_path_line target_key t) _ h))
    (targets_good ts (suc j) m (omega arith) (and_right (is_path_line target_key t) _ h) (omega arith) (omega arith))

-- the seven lines before them
module _ (a b c d e f g : List ℕ) (ts : List (List ℕ)) where
  pub seven : good_entry_lines (a ∷ b ∷ c ∷ d ∷ e ∷ f ∷ g ∷ ts)
      ≡ (is_path_line prefix_key a
      && (is_kind_line b
      && (is_number_line interlink_key 1 c
      && (is_number_line failback_key 1 d
      && (is_number_line ttl_key 4294967295 e
      && (is_number_line taken_key 4294967295 f && (is_number_line hint_key 4294967295 g && good_lines 7 (8 + decimal_of (value_of hint_key g)) ts)))))))
  unfolding good_entry_lines good_line later_line choose
  seven =
      lines_cons 0 8 a (b ∷ c ∷ d ∷ e ∷ f ∷ g ∷ ts) (λ z. omega arith)
      ∙ ap (λ (x : Bool). is_path_line prefix_key a && x)
      (lines_cons 1 8 b (c ∷ d ∷ e ∷ f ∷ g ∷ ts) (λ z. omega arith)
      ∙ ap (λ (x : Bool). is_kind_line b && x)
      (lines_cons 2 8 c (d ∷ e ∷ f ∷ g ∷ ts) (λ z. omega arith)
      ∙ ap (λ (x : Bool). is_number_line interlink_key 1 c && x)
      (lines_cons 3 8 d (e ∷ f ∷ g ∷ ts) (λ z. omega arith)
      ∙ ap (λ (x : Bool). is_number_line failback_key 1 d && x)
      (lines_cons 4 8 e (f ∷ g ∷ ts) (λ z. omega arith)
      ∙ ap (λ (x : Bool). is_number_line ttl_key 4294967295 e && x)
      (lines_cons 5 8 f (g ∷ ts) (λ z. omega arith) ∙ ap (λ (x : Bool). is_number_line taken_key 4294967295 f && x) (hint_cons 8 g ts))))))

-- fewer lines are none
short : (g : List (List ℕ)) (j m : ℕ) → 8 ≤ m → j + length g ≤ 6 → good_lines j m g ≡ true → ⊥
short [] j m a b h = let z = leb-true m j (sym (lines_none j m) ∙ h) in omega arith
short (l ∷ g) j m a b h = short g (suc j) m a (omega arith) (and_right (good_line j l) _ (sym (lines_cons j m l g (λ z. omega arith)) ∙ h))

-- what lines of targets say
saids_length : (ts : List (List ℕ)) → length (map target_said ts) ≡ length ts
saids_length [] = refl
saids_length (t ∷ ts) = ap suc (saids_length ts)

saids_form : (ts : List (List ℕ)) → every (is_path_line target_key) ts ≡ true → target_lines (map target_said ts) ≡ ts
unfolding every target_lines target_said value_of
saids_form [] h = refl
saids_form (t ∷ ts) h = λ i. (path_told target_key t (and_left (is_path_line target_key t) _ h)).form i ∷ saids_form ts (and_right (is_path_line target_key t) _ h) i

saids_good : (ts : List (List ℕ)) → every (is_path_line target_key) ts ≡ true → every good_target (map target_said ts) ≡ true
unfolding every good_target target_said value_of
saids_good [] h = refl
saids_good (t ∷ ts) h = and_both (path_told target_key t (and_left (is_path_line target_key t) _ h)).good (saids_good ts (and_right (is_path_line target_key t) _ h))

saids_units : (ts : List (List ℕ)) → every (is_path_line target_key) ts ≡ true → every (λ t. every unit t.path) (map target_said ts) ≡ true
unfolding every target_said value_of
saids_units [] h = refl
saids_units (t ∷ ts) h = and_both (path_told target_key t (and_left (is_path_line target_key t) _ h)).units (saids_units ts (and_right (is_path_line target_key t) _ h))

saids_one : (ts : List (List ℕ)) → every (λ t. not t.opens) (map target_said ts) ≡ true
unfolding every target_said
saids_one [] = refl
saids_one (t ∷ ts) = saids_one ts

saids_first : (ts : List (List ℕ)) → first_opens_none (map target_said ts) ≡ true
unfolding first_opens_none target_said
saids_first [] = refl
saids_first (t ∷ ts) = refl

-- the parts of the test
record Head (a b c d e f g : List ℕ) (ts : List (List ℕ)) : Type 0 where
  prefixed : PathSaid prefix_key a
  kind : is_kind_line b ≡ true
  interlink : NumberTold interlink_key 1 c
  failback : NumberTold failback_key 1 d
  ttl : NumberTold ttl_key 4294967295 e
  taken : NumberTold taken_key 4294967295 f
  hint : NumberTold hint_key 4294967295 g
  targets : TargetsTold ts 7 (8 + decimal_of (value_of hint_key g))

head_told : (a b c d e f g : List ℕ) (ts : List (List ℕ)) → good_entry_lines (a ∷ b ∷ c ∷ d ∷ e ∷ f ∷ g ∷ ts) ≡ true → Head a b c d e f g ts
head_told a b c d e f g ts h =
    let h₀ = sym (seven a b c d e f g ts) ∙ h in
    let h₁ = and_right (is_path_line prefix_key a) _ h₀ in
    let h₂ = and_right (is_kind_line b) _ h₁ in
    let h₃ = and_right (is_number_line interlink_key 1 c) _ h₂ in
    let h₄ = and_right (is_number_line failback_key 1 d) _ h₃ in
    let h₅ = and_right (is_number_line ttl_key 4294967295 e) _ h₄ in
    let h₆ = and_right (is_number_line taken_key 4294967295 f) _ h₅ in
    record {
      prefixed = path_told prefix_key a (and_left (is_path_line prefix_key a) _ h₀);
      kind = and_left (is_kind_line b) _ h₁;
      interlink = number_told interlink_key 1 c (and_left (is_number_line interlink_key 1 c) _ h₂);
      failback = number_told failback_key 1 d (and_left (is_number_line failback_key 1 d) _ h₃);
      ttl = number_told ttl_key 4294967295 e (and_left (is_number_line ttl_key 4294967295 e) _ h₄);
      taken = number_told taken_key 4294967295 f (and_left (is_number_line taken_key 4294967295 f) _ h₅);
      hint = number_told hint_key 4294967295 g (and_left (is_number_line hint_key 4294967295 g) _ h₆);
      targets = targets_told ts 7 _ (omega arith) (omega arith) (and_right (is_number_line hint_key 4294967295 g) _ h₆);
    }

-- Sound: lines that pass list the entry that they say, and a listing can say it
pub record EntryTold (g : List (List ℕ)) : Type 0 where
  pub form : entry_lines (entry_said g) ≡ g
  pub good : Listable (entry_said g)

module _ (a b c d e f g : List ℕ) (ts : List (List ℕ)) (w : Head a b c d e f g ts) where
  head_form : entry_lines (entry_said (a ∷ b ∷ c ∷ d ∷ e ∷ f ∷ g ∷ ts)) ≡ a ∷ b ∷ c ∷ d ∷ e ∷ f ∷ g ∷ ts
  unfolding entry_lines setting_lines count_lines entry_said value_of
  head_form =
      let q = flag_form interlink_key c w.interlink in
      let r = flag_form failback_key d w.failback in
      λ i. w.prefixed.form i ∷ kind_form b w.kind i ∷ q i ∷ r i ∷ w.ttl.form i ∷ w.taken.form i ∷ w.hint.form i ∷ saids_form ts w.targets.each i

  head_good : GoodReferral (entry_said (a ∷ b ∷ c ∷ d ∷ e ∷ f ∷ g ∷ ts))
  unfolding entry_said value_of
  head_good =
      let n = saids_length ts in
      let x = w.targets.few in
      let y = w.targets.enough in
      record {
        prefixed = w.prefixed.good;
        some = omega arith;
        few = omega arith;
        each = saids_good ts w.targets.each;
        first = saids_first ts;
        hinted = omega arith;
      }

  head_listable : Listable (entry_said (a ∷ b ∷ c ∷ d ∷ e ∷ f ∷ g ∷ ts))
  unfolding entry_said value_of
  head_listable = record {
    good = good_referral_lem (entry_said (a ∷ b ∷ c ∷ d ∷ e ∷ f ∷ g ∷ ts)) head_good;
    one = saids_one ts;
    ttl = w.ttl.small;
    taken = w.taken.small;
    prefixed = w.prefixed.units;
    paths = saids_units ts w.targets.each;
  }

entry_short : (g : List (List ℕ)) → length g ≤ 6 → good_entry_lines g ≡ true → ⊥
unfolding good_entry_lines
entry_short g l h = short g 0 8 (omega arith) (omega arith) h

pub entry_told : (g : List (List ℕ)) → good_entry_lines g ≡ true → EntryTold g
entry_told [] h = absurd (entry_short [] (omega arith) h)
entry_told (a ∷ []) h = absurd (entry_short (a ∷ []) (omega arith) h)
entry_told (a ∷ b ∷ []) h = absurd (entry_short (a ∷ b ∷ []) (omega arith) h)
entry_told (a ∷ b ∷ c ∷ []) h = absurd (entry_short (a ∷ b ∷ c ∷ []) (omega arith) h)
entry_told (a ∷ b ∷ c ∷ d ∷ []) h = absurd (entry_short (a ∷ b ∷ c ∷ d ∷ []) (omega arith) h)
entry_told (a ∷ b ∷ c ∷ d ∷ e ∷ []) h = absurd (entry_short (a ∷ b ∷ c ∷ d ∷ e ∷ []) (omega arith) h)
entry_told (a ∷ b ∷ c ∷ d ∷ e ∷ f ∷ []) h = absurd (entry_short (a ∷ b ∷ c ∷ d ∷ e ∷ f ∷ []) (omega arith) h)
entry_told (a ∷ b ∷ c ∷ d ∷ e ∷ f ∷ g ∷ ts) h =
    let w = head_told a b c d e f g ts h in
    record { form = head_form a b c d e f g ts w; good = head_listable a b c d e f g ts w }

-- Complete: the lines of every such entry pass
targets_length : (ts : List Target) → length (target_lines ts) ≡ length ts
unfolding target_lines
targets_length [] = refl
targets_length (t ∷ ts) = ap suc (targets_length ts)

targets_pass : (ts : List Target) → every good_target ts ≡ true → every (λ t. every unit t.path) ts ≡ true → every (is_path_line target_key) (target_lines ts) ≡ true
unfolding every target_lines good_target
targets_pass [] h k = refl
targets_pass (t ∷ ts) h k =
    and_both (path_good_lem target_key t.path (and_left (every unit t.path) _ k) (and_left (good_prefix t.path) _ h))
    (targets_pass ts (and_right (good_prefix t.path) _ h) (and_right (every unit t.path) _ k))

hint_value : (n : ℕ) → n < 4294967296 → decimal_of (value_of hint_key (number_line hint_key n)) ≡ n
unfolding number_line
hint_value n h = ap decimal_of (value_of_lem hint_key (decimal n)) ∙ decimal_says n h

pub entry_good : (e : Referral) → Listable e → good_entry_lines (entry_lines e) ≡ true
unfolding entry_lines setting_lines count_lines
entry_good e l =
    let r = referral_told e l.good in
    let x = r.few in
    let y = r.hinted in
    let n : e.hint < 4294967296 = omega arith in
    let v = hint_value e.hint n in
    let z = targets_length e.targets in
    seven _ _ _ _ _ _ _ (target_lines e.targets)
    ∙ and_both (path_good_lem prefix_key e.prefix l.prefixed r.prefixed)
    (and_both (kind_good e.settings.root)
    (and_both (flag_good interlink_key e.settings.interlink)
    (and_both (flag_good failback_key e.settings.failback)
    (and_both (number_good ttl_key 4294967295 e.settings.ttl l.ttl (omega (arith, l.ttl)))
    (and_both (number_good taken_key 4294967295 e.settings.taken l.taken (omega (arith, l.taken)))
    (and_both (number_good hint_key 4294967295 e.hint n (omega arith))
    (targets_good (target_lines e.targets) 7 _ (omega arith) (targets_pass e.targets r.each l.paths) (omega arith) (omega arith))))))))
