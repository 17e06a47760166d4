-- Laws of lines: a text of lines is cut into them again.
use mathlib.Core.Path.{◌≡◌, refl, sym, ap, ◌∙◌}
use mathlib.Core.Bool.{Bool, true, false, not}
use mathlib.Core.List.{List, [], ◌∷◌, ◌++◌, map}
use mathlib.Core.Logic.{◌⊎◌, inl, inr}
use Prim.Native.Nat.{ℕ, zero, suc, ◌+◌, ◌/◌, ◌%◌, ◌≤◌, ◌<◌}
use native.Mathlib.Omega.{arith}
use lib.ListN.{get_or}
use lib.Dec.{leb, eqb}
use borrow.Author.Tests.{leb-true, le-leb, lt-leb, ne_eqb, not-true}
use Rattle.laws.specs.Choice.{choose}
use Rattle.laws.specs.Lists.{every}
use Rattle.laws.proofs.Choices.{choose_yes, choose_no, and_both, and_left, and_right, eqb_refl}
use Rattle.laws.proofs.Every.{every_append}
use Rattle.laws.proofs.Orders.{told, lt_or_le}
use Rattle.cache.specs.places.Layout.{flag_unit}
use Rattle.unc.specs.names.Paths.{Target}
use Rattle.cache.specs.order.Entries.{Referral, used}
use Rattle.listing_spelling.specs.spell.Spelling.{stands, digit_unit, hex_units, spelled_unit, spelled, decimal_in, decimal}
use Rattle.listing_spelling.proofs.spell.SpellingLaws.{unit_stands, unit_escaped}
use Rattle.listing_spelling.proofs.spell.DecimalLaws.{in_low, in_high}
use Rattle.listing_write.specs.Form.{prefix_key, kind_key, interlink_key, failback_key, ttl_key, taken_key, hint_key, target_key, kind_word, path_line, number_line, ended, lines_text, target_lines, setting_lines, count_lines, entry_lines, entry_text, listing}
use Rattle.listing_write.proofs.FormLaws.{lines_append}
use Rattle.listing_read.specs.listing_rules.Entries.{on_first, lines_of, opens_entry, groups}

-- a unit past 0A hex
pub later : ℕ → Bool
later u = leb 11 u

both : (p q : List ℕ) → every later p ≡ true → every later q ≡ true → every later (p ++ q) ≡ true
both p q h k = every_append later p q ∙ and_both h k

digit_later : (d : ℕ) → later (digit_unit d) ≡ true
unfolding later digit_unit
digit_later d = go (lt_or_le d 10)
  where
    go : (d < 10) ⊎ (10 ≤ d) → leb 11 (choose (leb d 9) (48 + d) (55 + d)) ≡ true
    go (inl l) = ap (leb 11) (choose_yes _ _ (le-leb d 9 (omega arith))) ∙ le-leb 11 (48 + d) (omega arith)
    go (inr l) = ap (leb 11) (choose_no _ _ (lt-leb d 9 (omega arith))) ∙ le-leb 11 (55 + d) (omega arith)

unit_later : (u : ℕ) → every later (spelled_unit u) ≡ true
unfolding every later stands hex_units
unit_later u = go (told (stands u))
  where
    go : (stands u ≡ true) ⊎ (stands u ≡ false) → every later (spelled_unit u) ≡ true
    go (inl k) =
        ap (every later) (unit_stands u k)
        ∙ and_both (le-leb 11 u (let z = leb-true 33 u (and_left (leb 33 u) _ k) in omega arith)) refl
    go (inr k) =
        ap (every later) (unit_escaped u k)
        ∙ and_both (digit_later (u / 4096 % 16)) (and_both (digit_later (u / 256 % 16)) (and_both (digit_later (u / 16 % 16)) (and_both (digit_later (u % 16)) refl)))

pub spelled_later : (s : List ℕ) → every later (spelled s) ≡ true
unfolding every spelled
spelled_later [] = refl
spelled_later (u ∷ s) = both (spelled_unit u) (spelled s) (unit_later u) (spelled_later s)

one_later : (n : ℕ) → 11 ≤ n → every later (n ∷ []) ≡ true
unfolding every later
one_later n h = and_both (le-leb 11 n h) refl

in_later : (k n : ℕ) → every later (decimal_in k n) ≡ true
unfolding decimal_in every
in_later zero n = refl
in_later (suc k) n = go (in_later k (n / 10)) (lt_or_le n 10)
  where
    go : every later (decimal_in k (n / 10)) ≡ true → (n < 10) ⊎ (10 ≤ n) → every later (decimal_in (suc k) n) ≡ true
    go e (inl l) = ap (every later) (in_low k n l) ∙ one_later (48 + n) (omega arith)
    go e (inr l) = ap (every later) (in_high k n l) ∙ both (decimal_in k (n / 10)) ((48 + n % 10) ∷ []) e (one_later (48 + n % 10) (omega arith))

pub decimal_later : (n : ℕ) → every later (decimal n) ≡ true
unfolding decimal
decimal_later n = in_later 10 n

-- a line cut off
pub line_cut : (l rest : List ℕ) → every later l ≡ true → lines_of (ended l ++ rest) ≡ l ∷ lines_of rest
unfolding lines_of ended every later on_first
line_cut [] rest h = choose_yes _ _ (eqb_refl 10)
line_cut (u ∷ l) rest h =
    let z = leb-true 11 u (and_left (leb 11 u) _ h) in
    choose_no _ _ (ne_eqb u 10 (λ e. omega arith)) ∙ ap (on_first u) (line_cut l rest (and_right (leb 11 u) _ h))

pub lines_cut : (ls : List (List ℕ)) → every (every later) ls ≡ true → lines_of (lines_text ls) ≡ ls
unfolding lines_text every lines_of
lines_cut [] h = refl
lines_cut (l ∷ ls) h =
    line_cut l (lines_text ls) (and_left (every later l) _ h) ∙ ap (λ (x : List (List ℕ)). l ∷ x) (lines_cut ls (and_right (every later l) _ h))

-- the lines of an entry have no end inside
kind_later : (b : Bool) → every later (kind_key ++ kind_word b) ≡ true
unfolding every later kind_word
kind_later true = refl
kind_later false = refl

path_later : (key s : List ℕ) → every later key ≡ true → every later (path_line key s) ≡ true
unfolding path_line
path_later key s h = both key (spelled s) h (spelled_later s)

number_later : (key : List ℕ) (n : ℕ) → every later key ≡ true → every later (number_line key n) ≡ true
unfolding number_line
number_later key n h = both key (decimal n) h (decimal_later n)

targets_later : (ts : List Target) → every (every later) (target_lines ts) ≡ true
unfolding every target_lines later
targets_later [] = refl
targets_later (t ∷ ts) = and_both (path_later target_key t.path refl) (targets_later ts)

pub entry_later : (e : Referral) → every (every later) (entry_lines e) ≡ true
unfolding every entry_lines setting_lines count_lines later
entry_later e =
    and_both (path_later prefix_key e.prefix refl)
    (and_both (kind_later e.settings.root)
    (and_both (number_later interlink_key (flag_unit e.settings.interlink) refl)
    (and_both (number_later failback_key (flag_unit e.settings.failback) refl)
    (and_both (number_later ttl_key e.settings.ttl refl) (and_both (number_later taken_key e.settings.taken refl) (and_both (number_later hint_key e.hint refl) (targets_later e.targets)))))))

-- all lines of a list of entries
pub all_lines : List Referral → List (List ℕ)
all_lines [] = []
all_lines (e ∷ es) = entry_lines e ++ all_lines es

pub all_text : (es : List Referral) → listing (map used es) ≡ lines_text (all_lines es)
unfolding listing lines_text all_lines entry_text
all_text [] = refl
all_text (e ∷ es) = ap (λ (x : List ℕ). lines_text (entry_lines e) ++ x) (all_text es) ∙ sym (lines_append (entry_lines e) (all_lines es))

pub all_later : (es : List Referral) → every (every later) (all_lines es) ≡ true
unfolding every all_lines
all_later [] = refl
all_later (e ∷ es) = every_append (every later) (entry_lines e) (all_lines es) ∙ and_both (entry_later e) (all_later es)

-- an entry's lines are one group
plain_line : List ℕ → Bool
plain_line l = not (eqb (get_or l 0 0) 112)

group_one : (l : List ℕ) (ms rest : List (List ℕ)) → every plain_line ms ≡ true → opens_entry rest ≡ true → groups ((l ∷ ms) ++ rest) ≡ (l ∷ ms) ∷ groups rest
unfolding groups opens_entry every on_first plain_line
group_one l [] rest h o = choose_yes _ _ o
group_one l (m ∷ ms) rest h o =
    choose_no _ _ (not-true _ (and_left (not (eqb (get_or m 0 0) 112)) _ h)) ∙ ap (on_first l) (group_one m ms rest (and_right (not (eqb (get_or m 0 0) 112)) _ h) o)

targets_plain : (ts : List Target) → every plain_line (target_lines ts) ≡ true
unfolding every target_lines plain_line path_line
targets_plain [] = refl
targets_plain (t ∷ ts) = and_both refl (targets_plain ts)

one : (e : Referral) (rest : List (List ℕ)) → opens_entry rest ≡ true → groups (entry_lines e ++ rest) ≡ entry_lines e ∷ groups rest
unfolding entry_lines setting_lines count_lines every plain_line number_line
one e rest o = group_one (path_line prefix_key e.prefix) _ rest (targets_plain e.targets) o

opens_all : (es : List Referral) → opens_entry (all_lines es) ≡ true
unfolding opens_entry all_lines entry_lines setting_lines path_line
opens_all [] = refl
opens_all (e ∷ es) = refl

pub groups_all : (es : List Referral) → groups (all_lines es) ≡ map entry_lines es
unfolding all_lines groups
groups_all [] = refl
groups_all (e ∷ es) = one e (all_lines es) (opens_all es) ∙ ap (λ (x : List (List (List ℕ))). entry_lines e ∷ x) (groups_all es)
