-- Laws of what lines say: the entries that were listed.
use mathlib.Core.Path.{◌≡◌, refl, sym, ap, ◌∙◌}
use mathlib.Core.Bool.{Bool, true, false, not}
use mathlib.Core.List.{List, [], ◌∷◌, map}
use Prim.Native.Nat.{ℕ, ◌<◌}
use native.Mathlib.Omega.{arith}
use lib.Dec.{eqb}
use borrow.Author.Tests.{ltb-true, lt-ltb, not-true}
use Rattle.laws.specs.Choice.{choose}
use Rattle.laws.specs.Lists.{every}
use Rattle.laws.specs.Listed.{same_list}
use Rattle.laws.proofs.Choices.{and_both, and_left, and_right}
use Rattle.laws.proofs.Listed.{same_list_true, same_same_list}
use Rattle.cache.specs.places.Layout.{flag_unit}
use Rattle.unc.specs.names.Paths.{Target}
use Rattle.cache.specs.order.Entries.{Referral, used}
use Rattle.cache.specs.order.Order.{good_referral, distinct}
use Rattle.cache.proofs.order.KindLaws.{referral_told}
use Rattle.listing_spelling.specs.spell.Spelling.{spelled, decimal_in, decimal}
use Rattle.listing_write.specs.Form.{kind_word, path_line, number_line, target_lines, setting_lines, count_lines, entry_lines, listing}
use Rattle.listing_spelling.specs.unspell.Reading.{unit, unspelled, decimal_of, value_from}
use Rattle.listing_spelling.proofs.unspell.UnspelledLaws.{unspelled_spelled}
use Rattle.listing_spelling.proofs.unspell.NumberLaws.{decimal_says}
use Rattle.listing_read.specs.listing_rules.Entries.{lines_of, groups, target_said, entry_said, entries_said}
use Rattle.listing_read.specs.listing_rules.Read.{number, one_set, listable, listables, is_listing}
use Rattle.listing_read.proofs.listing_rules.LineLaws.{lines_cut, all_later, all_text, all_lines, groups_all}

-- the parts of being listable
pub record Listable (e : Referral) : Type 0 where
  pub good : good_referral e ≡ true
  pub one : every (λ t. not t.opens) e.targets ≡ true
  pub ttl : e.settings.ttl < 4294967296
  pub taken : e.settings.taken < 4294967296
  pub prefixed : every unit e.prefix ≡ true
  pub paths : every (λ t. every unit t.path) e.targets ≡ true

pub listable_told : (e : Referral) → listable e ≡ true → Listable e
unfolding listable one_set number
listable_told e h =
    let h₁ = and_right (good_referral e) _ h in
    let h₂ = and_right (one_set e) _ h₁ in
    let h₃ = and_right (number e.settings.ttl) _ h₂ in
    let h₄ = and_right (number e.settings.taken) _ h₃ in
    record {
      good = and_left (good_referral e) _ h;
      one = and_left (one_set e) _ h₁;
      ttl = ltb-true _ _ (and_left (number e.settings.ttl) _ h₂);
      taken = ltb-true _ _ (and_left (number e.settings.taken) _ h₃);
      prefixed = and_left (every unit e.prefix) _ h₄;
      paths = and_right (every unit e.prefix) _ h₄;
    }

pub told_listable : (e : Referral) → Listable e → listable e ≡ true
unfolding listable one_set number
told_listable e l =
    and_both l.good (and_both l.one (and_both (lt-ltb _ _ l.ttl) (and_both (lt-ltb _ _ l.taken) (and_both l.prefixed l.paths))))

-- what is said after a key
says_path : (s : List ℕ) → every unit s ≡ true → unspelled (spelled s) ≡ s
says_path s h = unspelled_spelled s h

flag_says : (b : Bool) → eqb (decimal_of (decimal (flag_unit b))) 1 ≡ b
unfolding flag_unit choose decimal_of value_from decimal decimal_in
flag_says true = refl
flag_says false = refl

kind_says : (b : Bool) → same_list (kind_word b) (kind_word true) ≡ b
unfolding kind_word same_list
kind_says true = refl
kind_says false = refl

targets_say : (ts : List Target) → every (λ t. not t.opens) ts ≡ true → every (λ t. every unit t.path) ts ≡ true → map target_said (target_lines ts) ≡ ts
unfolding target_lines target_said path_line every
targets_say [] h k = refl
targets_say (t ∷ ts) h k =
    let p = says_path t.path (and_left (every unit t.path) _ k) in
    let o = sym (not-true t.opens (and_left (not t.opens) _ h)) in
    λ i. record { path = p i; opens = o i } ∷ targets_say ts (and_right (not t.opens) _ h) (and_right (every unit t.path) _ k) i

pub entry_says : (e : Referral) → Listable e → entry_said (entry_lines e) ≡ e
unfolding entry_said entry_lines setting_lines count_lines path_line number_line
entry_says e l =
    let g = referral_told e l.good in
    let p = says_path e.prefix l.prefixed in
    let h = decimal_says e.hint (omega (arith, g.hinted, g.few)) in
    λ i. record {
      prefix = p i;
      settings = record {
        root = kind_says e.settings.root i;
        interlink = flag_says e.settings.interlink i;
        failback = flag_says e.settings.failback i;
        ttl = decimal_says e.settings.ttl l.ttl i;
        taken = decimal_says e.settings.taken l.taken i;
      };
      targets = targets_say e.targets l.one l.paths i;
      hint = h i;
    }

entries_say : (es : List Referral) → every listable es ≡ true → map entry_said (map entry_lines es) ≡ es
unfolding every
entries_say [] h = refl
entries_say (e ∷ es) h = λ i. entry_says e (listable_told e (and_left (listable e) _ h)) i ∷ entries_say es (and_right (listable e) _ h) i

-- what is listed is what the listing says
pub listed_says : (es : List Referral) → every listable es ≡ true → entries_said (listing (map used es)) ≡ es
unfolding entries_said
listed_says es h =
    ap (λ (x : List ℕ). map entry_said (groups (lines_of x))) (all_text es)
    ∙ (ap (λ (x : List (List ℕ)). map entry_said (groups x)) (lines_cut (all_lines es) (all_later es))
    ∙ (ap (map entry_said) (groups_all es) ∙ entries_say es h))

-- Sound: a text that is read is the listing of what it says, and that is in order
pub record Said (text : List ℕ) (es : List Referral) : Type 0 where
  pub form : text ≡ listing (map used es)
  pub each : every listable es ≡ true
  pub apart : distinct (map (λ e. e.prefix) es) ≡ true

pub listing_sound : (text : List ℕ) → is_listing text ≡ true → Said text (entries_said text)
unfolding is_listing listables
listing_sound text h =
    let k = and_right (same_list (listing (map used (entries_said text))) text) _ h in
    record {
      form = sym (same_list_true _ text (and_left (same_list (listing (map used (entries_said text))) text) _ h));
      each = and_left (every listable (entries_said text)) _ k;
      apart = and_right (every listable (entries_said text)) _ k;
    }

-- Complete: every listing of entries in order is read, as those entries; so a text has at most one reading
pub said_same : (text : List ℕ) (es : List Referral) → Said text es → entries_said text ≡ es
said_same text es s = ap entries_said s.form ∙ listed_says es s.each

pub listing_complete : (text : List ℕ) (es : List Referral) → Said text es → is_listing text ≡ true
unfolding is_listing listables
listing_complete text es s =
    let e = said_same text es s in
    and_both (same_same_list _ text (ap (λ (x : List Referral). listing (map used x)) e ∙ sym s.form))
    (and_both (ap (every listable) e ∙ s.each) (ap (λ (x : List Referral). distinct (map (λ y. y.prefix) x)) e ∙ s.apart))
