-- Laws of a text that begins with a line: where the line ends, what it says, and what stands after it.
use Rattle.std.specs.Prelude.{Option, None, Some, unwrap_or}
use mathlib.Core.Path.{◌≡◌, refl, sym, ap, ◌∙◌}
use mathlib.Core.Bool.{true, false}
use mathlib.Core.List.{List, [], ◌∷◌, ◌++◌, append_assoc}
use mathlib.Core.Logic.{◌⊎◌, inl, inr}
use Prim.Native.Nat.{ℕ, suc, ◌+◌, ◌-◌, ◌≤◌, ◌<◌}
use native.Mathlib.Omega.{arith}
use lib.ListN.{length, get_or, take, drop, length-append, length-drop}
use lib.Seq.{drop-drop, drop_at, take_at}
use lib.Dec.{eqb}
use borrow.Author.Tests.{lt-ltb}
use Rattle.laws.specs.Choice.{choose}
use Rattle.laws.specs.Lists.{every}
use Rattle.laws.proofs.Choices.{choose_yes, choose_no, and_both}
use Rattle.laws.proofs.Every.{every_at}
use Rattle.laws.proofs.Listed.{same_same_list}
use Rattle.laws.proofs.Orders.{told}
use Rattle.cache.specs.order.Entries.{Referral}
use Rattle.listing_spelling.specs.spell.Spelling.{spelled, decimal}
use Rattle.listing_write.specs.Form.{prefix_key, ttl_key, taken_key, hint_key, target_key, path_line, number_line, ended, lines_text, target_lines, setting_lines, count_lines, entry_lines}
use Rattle.listing_read.specs.line.Lines.{line_length}
use Rattle.listing_spelling.specs.unspell.Reading.{unit, unspelled, is_spelled, decimal_of}
use Rattle.listing_spelling.specs.unspell.Code.{is_decimal, decimal_form}
use Rattle.listing_spelling.proofs.unspell.UnspelledLaws.{unspelled_spelled}
use Rattle.listing_spelling.proofs.unspell.NumberLaws.{decimal_says}
use Rattle.listing_read.specs.listing_rules.Entries.{on_first, lines_of}
use Rattle.listing_read.proofs.listing_rules.LineLaws.{later, line_cut, entry_later}
use Rattle.listing_read.specs.fill_cache.Code.{value_at, NumberAt, PathAt}

-- the first line of a text
first_length : (u : ℕ) (ls : List (List ℕ)) → length (get_or (on_first u ls) 0 []) ≡ suc (length (get_or ls 0 []))
unfolding on_first
first_length u [] = refl
first_length u (l ∷ ls) = refl

line_lengths : (t : List ℕ) → line_length t ≡ length (get_or (lines_of t) 0 [])
unfolding line_length lines_of
line_lengths [] = refl
line_lengths (u ∷ s) = go (line_lengths s) (told (eqb u 10))
  where
    go : line_length s ≡ length (get_or (lines_of s) 0 []) → (eqb u 10 ≡ true) ⊎ (eqb u 10 ≡ false)
        → choose (eqb u 10) 0 (suc (line_length s)) ≡ length (get_or (choose (eqb u 10) ([] ∷ lines_of s) (on_first u (lines_of s))) 0 [])
    go e (inl k) =
        choose_yes _ _ k ∙ ap (λ (x : List (List ℕ)). length (get_or x 0 [])) (sym (choose_yes ([] ∷ lines_of s) (on_first u (lines_of s)) k))
    go e (inr k) =
        choose_no _ _ k
        ∙ (ap suc e
        ∙ (sym (first_length u (lines_of s)) ∙ ap (λ (x : List (List ℕ)). length (get_or x 0 [])) (sym (choose_no ([] ∷ lines_of s) (on_first u (lines_of s)) k))))

line_length_lem : (l rest : List ℕ) → every later l ≡ true → line_length (ended l ++ rest) ≡ length l
line_length_lem l rest h = line_lengths (ended l ++ rest) ∙ ap (λ (x : List (List ℕ)). length (get_or x 0 [])) (line_cut l rest h)

-- the lines of a listing have no end inside: those of any entry, so each kind of line
sample : List ℕ → ℕ → Referral
sample s n = record {
  prefix = s;
  settings = record {
    root = true;
    interlink = true;
    failback = true;
    ttl = n;
    taken = n;
  };
  targets = record { path = s; opens = false } ∷ [];
  hint = n;
}

pub prefix_later : (s : List ℕ) → every later (path_line prefix_key s) ≡ true
unfolding sample entry_lines setting_lines count_lines target_lines
prefix_later s = every_at (every later) (entry_lines (sample s 0)) (entry_later (sample s 0)) 0 [] (omega arith)

pub target_later : (s : List ℕ) → every later (path_line target_key s) ≡ true
unfolding sample entry_lines setting_lines count_lines target_lines
target_later s = every_at (every later) (entry_lines (sample s 0)) (entry_later (sample s 0)) 7 [] (omega arith)

pub ttl_later : (n : ℕ) → every later (number_line ttl_key n) ≡ true
unfolding sample entry_lines setting_lines count_lines target_lines
ttl_later n = every_at (every later) (entry_lines (sample [] n)) (entry_later (sample [] n)) 4 [] (omega arith)

pub taken_later : (n : ℕ) → every later (number_line taken_key n) ≡ true
unfolding sample entry_lines setting_lines count_lines target_lines
taken_later n = every_at (every later) (entry_lines (sample [] n)) (entry_later (sample [] n)) 5 [] (omega arith)

pub hint_later : (n : ℕ) → every later (number_line hint_key n) ≡ true
unfolding sample entry_lines setting_lines count_lines target_lines
hint_later n = every_at (every later) (entry_lines (sample [] n)) (entry_later (sample [] n)) 6 [] (omega arith)

-- a line and its value
record Line (key v t : List ℕ) : Type 0 where
  long : line_length t ≡ length key + length v
  inside : line_length t < length t
  value : value_at (length key) t ≡ v

line_told : (key v rest : List ℕ) {t : List ℕ} → t ≡ ended (key ++ v) ++ rest → every later (key ++ v) ≡ true → Line key v t
unfolding value_at ended
line_told key v rest {t} e h =
    let f : t ≡ key ++ (v ++ (10 ∷ rest)) = e ∙ (append_assoc (key ++ v) (10 ∷ []) rest ∙ append_assoc key v (10 ∷ rest)) in
    let n : line_length t ≡ length key + length v = ap line_length e ∙ (line_length_lem (key ++ v) rest h ∙ length-append key v) in
    let m : length t ≡ length key + (length v + length (10 ∷ rest)) = ap length f ∙ simp length-append in
    let d : drop (length key) t ≡ v ++ (10 ∷ rest) = ap (drop (length key)) f ∙ drop_at key (v ++ (10 ∷ rest)) (length key) refl in
    let k : line_length t - length key ≡ length v = omega arith in
    record {
      long = n;
      inside = omega arith;
      value = (λ i. take (k i) (d i)) ∙ take_at v (10 ∷ rest) (length v) refl;
    }

-- what stands after it
pub line_passed : (text : List ℕ) (n : ℕ) (l rest : List ℕ) {r : ℕ} → drop n text ≡ ended l ++ rest → every later l ≡ true
    → r ≡ n + line_length (drop n text) + 1 → drop r text ≡ rest
unfolding ended
line_passed text n l rest {r} e h q =
    let m : line_length (drop n text) ≡ length l = ap line_length e ∙ line_length_lem l rest h in
    let k : length (l ++ (10 ∷ [])) ≡ length l + 1 = length-append l (10 ∷ []) in
    let s : r ≡ n + length (l ++ (10 ∷ [])) = omega arith in
    ap (λ (x : ℕ). drop x text) s
    ∙ (sym (drop-drop (length (l ++ (10 ∷ []))) n text)
    ∙ (ap (drop (length (l ++ (10 ∷ [])))) e ∙ drop_at (l ++ (10 ∷ [])) rest (length (l ++ (10 ∷ []))) refl))

pub first_line : (l : List ℕ) (ls : List (List ℕ)) (rest : List ℕ) → lines_text (l ∷ ls) ++ rest ≡ ended l ++ (lines_text ls ++ rest)
unfolding lines_text
first_line l ls rest = append_assoc (ended l) (lines_text ls) rest

-- a line of a number
decimal_good : (n : ℕ) → n < 4294967296 → is_decimal (decimal n) ≡ true
unfolding is_decimal
decimal_good n h =
    let e = decimal_says n h in
    and_both (lt-ltb (decimal_of (decimal n)) 4294967296 (omega arith)) (same_same_list (decimal (decimal_of (decimal n))) (decimal n) (ap decimal e))

module _ (key rest : List ℕ) (n : ℕ) (small : n < 4294967296) (clear : every later (number_line key n) ≡ true) {t : List ℕ} (e : t ≡ ended (number_line key n) ++ rest) where
  line : Line key (decimal n) t
  unfolding number_line
  line = line_told key (decimal n) rest e clear

  pub number_there : NumberAt (length key) t
  number_there = record { ended = line.inside; keyed = omega (arith, line.long); good = ap is_decimal line.value ∙ decimal_good n small }

  pub number_says : decimal_of (value_at (length key) t) ≡ n
  number_says = ap decimal_of line.value ∙ decimal_says n small

-- a line of a path
spelled_good : (s : List ℕ) → every unit s ≡ true → is_spelled (spelled s) ≡ true
unfolding is_spelled
spelled_good s h = same_same_list _ _ (ap spelled (unspelled_spelled s h))

module _ (key rest s : List ℕ) (keyed : length key ≡ 7) (units : every unit s ≡ true) (short : length s ≤ 256)
    (clear : every later (path_line key s) ≡ true) {t : List ℕ} (e : t ≡ ended (path_line key s) ++ rest) where
  pline : Line key (spelled s) t
  unfolding path_line
  pline = line_told key (spelled s) rest e clear

  pvalue : value_at 7 t ≡ spelled s
  pvalue = ap (λ (k : ℕ). value_at k t) (sym keyed) ∙ pline.value

  pub path_says : unspelled (value_at 7 t) ≡ s
  path_says = ap unspelled pvalue ∙ unspelled_spelled s units

  pub path_there : PathAt t
  path_there = record {
    ended = pline.inside;
    keyed = omega (arith, pline.long);
    good = ap is_spelled pvalue ∙ spelled_good s units;
    short = omega (arith, ap length path_says);
  }

-- the part of a text that is the value
pub value_slice : (text : List ℕ) (n k : ℕ) {e : ℕ} → e ≡ n + line_length (drop n text) → k ≤ line_length (drop n text)
    → take (e - (n + k)) (drop (n + k) text) ≡ value_at k (drop n text)
unfolding value_at
value_slice text n k {e} q h =
    let m : e - (n + k) ≡ line_length (drop n text) - k = omega arith in
    λ i. take (m i) (sym (drop-drop k n text) i)

pub line_inside : (text : List ℕ) (n : ℕ) → line_length (drop n text) < length (drop n text) → n + line_length (drop n text) < length text
line_inside text n h = omega (arith, length-drop n text)

-- the value that was read is a number
pub number_known : (s : List ℕ) {r : Option ℕ} → is_decimal s ≡ true → r ≡ decimal_form s → unwrap_or r 0 ≡ decimal_of s
unfolding decimal_form
number_known s h e = ap (λ (r : Option ℕ). unwrap_or r 0) (e ∙ choose_yes (Some (decimal_of s)) None h)
