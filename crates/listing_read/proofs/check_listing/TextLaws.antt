-- Laws of walking a text line by line.
use mathlib.Core.Path.{◌≡◌, refl, sym, ap, ◌∙◌}
use mathlib.Core.Bool.{Bool, true, false, true≢false, ◌&&◌, not}
use mathlib.Core.List.{List, [], ◌∷◌}
use mathlib.Core.Logic.{◌⊎◌, inl, inr}
use Prim.Native.Nat.{ℕ, suc, ◌+◌, ◌-◌, ◌≤◌, ◌<◌}
use native.Mathlib.Numerals.{add-one}
use native.Mathlib.Omega.{arith}
use lib.ListN.{length, drop, take, get_or, length-drop}
use lib.Dec.{eqb, leb}
use borrow.Author.Tests.{eq-eqb, ne_eqb, lt-leb, le-leb}
use Rattle.laws.specs.Choice.{choose}
use Rattle.laws.specs.Lists.{every}
use Rattle.laws.proofs.Choices.{choose_yes, choose_no, and_no_left, and_yes_left}
use Rattle.laws.proofs.Orders.{told}
use Rattle.laws.proofs.Tests.{eq_or_ne}
use Rattle.unc.specs.names.Names.{same_name}
use Rattle.cache.specs.order.Order.{distinct}
use Rattle.listing_read.specs.line.Lines.{line_length}
use Rattle.listing_read.specs.listing_rules.Entries.{on_first, lines_of, opens_entry, groups}
use Rattle.std.specs.Prelude.{Option, Some, None}
use Rattle.std.proofs.Common.{zero-add}
use Rattle.listing_read.specs.check_listing.Code.{step_of, tested_after, good_lines, good_entry_lines, counted, prefix_lines, apart_from, is_ended, FirstLine}

-- the first line of a text
length_here : (u : ℕ) (s : List ℕ) → u ≡ 10 → line_length (u ∷ s) ≡ 0
unfolding line_length
length_here u s e = choose_yes _ _ (eq-eqb u 10 e)

length_later : (u : ℕ) (s : List ℕ) → (u ≡ 10 → ⊥) → line_length (u ∷ s) ≡ suc (line_length s)
unfolding line_length
length_later u s e = choose_no _ _ (ne_eqb u 10 e)

pub lines_here : (u : ℕ) (s : List ℕ) → u ≡ 10 → lines_of (u ∷ s) ≡ [] ∷ lines_of s
unfolding lines_of
lines_here u s e = choose_yes _ _ (eq-eqb u 10 e)

pub lines_later : (u : ℕ) (s : List ℕ) → (u ≡ 10 → ⊥) → lines_of (u ∷ s) ≡ on_first u (lines_of s)
unfolding lines_of
lines_later u s e = choose_no _ _ (ne_eqb u 10 e)

cut_here : (u : ℕ) (s : List ℕ) {n : ℕ} → n ≡ 0 → [] ∷ lines_of s ≡ take n (u ∷ s) ∷ lines_of (drop (suc n) (u ∷ s))
cut_here u s e = rw e

cut_later : (u : ℕ) (s : List ℕ) {n m : ℕ} → n ≡ suc m → lines_of s ≡ take m s ∷ lines_of (drop (suc m) s) → on_first u (lines_of s) ≡ take n (u ∷ s) ∷ lines_of (drop (suc n) (u ∷ s))
unfolding on_first
cut_later u s e k = rw (e, k)

cut_last : (u : ℕ) {n m : ℕ} → n ≡ suc m → m ≡ 0 → on_first u (lines_of []) ≡ take n (u ∷ []) ∷ lines_of (drop (suc n) (u ∷ []))
unfolding on_first lines_of
cut_last u e k = rw (e, k)

none_long : line_length [] ≡ 0
unfolding line_length
none_long = refl

pub cut : (u : ℕ) (s : List ℕ) → lines_of (u ∷ s) ≡ take (line_length (u ∷ s)) (u ∷ s) ∷ lines_of (drop (suc (line_length (u ∷ s))) (u ∷ s))
cut u [] = go (eq_or_ne u 10)
  where
    go : (u ≡ 10) ⊎ (u ≡ 10 → ⊥) → lines_of (u ∷ []) ≡ take (line_length (u ∷ [])) (u ∷ []) ∷ lines_of (drop (suc (line_length (u ∷ []))) (u ∷ []))
    go (inl e) = lines_here u [] e ∙ cut_here u [] (length_here u [] e)
    go (inr e) = lines_later u [] e ∙ cut_last u (length_later u [] e) none_long
cut u (v ∷ s) = go (eq_or_ne u 10) (cut v s)
  where
    go : (u ≡ 10) ⊎ (u ≡ 10 → ⊥) → lines_of (v ∷ s) ≡ take (line_length (v ∷ s)) (v ∷ s) ∷ lines_of (drop (suc (line_length (v ∷ s))) (v ∷ s))
        → lines_of (u ∷ v ∷ s) ≡ take (line_length (u ∷ v ∷ s)) (u ∷ v ∷ s) ∷ lines_of (drop (suc (line_length (u ∷ v ∷ s))) (u ∷ v ∷ s))
    go (inl e) k = lines_here u (v ∷ s) e ∙ cut_here u (v ∷ s) (length_here u (v ∷ s) e)
    go (inr e) k = lines_later u (v ∷ s) e ∙ cut_later u (v ∷ s) (length_later u (v ∷ s) e) k

pub first_unit : (u : ℕ) (s : List ℕ) → eqb (get_or (take (line_length (u ∷ s)) (u ∷ s)) 0 0) 112 ≡ eqb u 112
first_unit u s = go (eq_or_ne u 10)
  where
    go : (u ≡ 10) ⊎ (u ≡ 10 → ⊥) → eqb (get_or (take (line_length (u ∷ s)) (u ∷ s)) 0 0) 112 ≡ eqb u 112
    go (inl e) = ap (λ (n : ℕ). eqb (get_or (take n (u ∷ s)) 0 0) 112) (length_here u s e) ∙ ap (λ (n : ℕ). eqb n 112) (sym e)
    go (inr e) = ap (λ (n : ℕ). eqb (get_or (take n (u ∷ s)) 0 0) 112) (length_later u s e)

-- the first line of a text and the text after it
pub first_line : (t : List ℕ) (end : ℕ) {line after : List ℕ} → (length t ≡ 0 → ⊥) → end ≡ 0 + line_length (drop 0 t) → line ≡ take end t → after ≡ drop (end + 1) t → FirstLine t line after
first_line [] end n e p q = absurd (n refl)
first_line (u ∷ s) end {line} {after} n e p q =
    let k : end ≡ line_length (u ∷ s) = e ∙ zero-add (line_length (u ∷ s)) in
    record {
      lines = cut u s ∙ (λ i. sym (p ∙ ap (λ (j : ℕ). take j (u ∷ s)) k) i ∷ lines_of (sym (q ∙ ap (λ (j : ℕ). drop j (u ∷ s)) (add-one end ∙ ap suc k)) i));
      shorter = omega (arith, ap length q, length-drop (end + 1) (u ∷ s));
    }

pub no_line : (t : List ℕ) → length t ≡ 0 → lines_of t ≡ []
unfolding lines_of
no_line [] h = refl
no_line (u ∷ s) h = absurd (let z : suc (length s) ≡ 0 = h in omega arith)

-- what opens an entry
pub opens_none : (t : List ℕ) → length t ≡ 0 → opens_entry (lines_of t) ≡ true
unfolding opens_entry
opens_none t h = ap opens_entry (no_line t h)

pub opens_some : (t : List ℕ) → 0 < length t → opens_entry (lines_of t) ≡ eqb (get_or t 0 0) 112
unfolding opens_entry
opens_some [] h = absurd (let z : 0 < 0 = h in omega arith)
opens_some (u ∷ s) h = ap opens_entry (cut u s) ∙ first_unit u s

-- whether the last line is ended
ended_last : (u : ℕ) (s : List ℕ) → eqb (get_or (u ∷ s) (length s) 0) 10 ≡ is_ended (u ∷ s)
unfolding is_ended
ended_last u [] = refl
ended_last u (v ∷ s) = ended_last v s

pub ended_none : (t : List ℕ) → length t ≡ 0 → is_ended t ≡ true
unfolding is_ended
ended_none [] h = refl
ended_none (u ∷ s) h = absurd (let z : suc (length s) ≡ 0 = h in omega arith)

pub ended_some : (t : List ℕ) → 0 < length t → is_ended t ≡ eqb (get_or t (length t - 1) 0) 10
ended_some [] h = absurd (let z : 0 < 0 = h in omega arith)
ended_some (u ∷ s) h = sym (ended_last u s) ∙ ap (λ (n : ℕ). eqb (get_or (u ∷ s) n 0) 10) (let e : length s ≡ suc (length s) - 1 = omega arith in e)

-- what is left to test in line j of an entry of at least m lines, after n entries
pub rested : ℕ → ℕ → ℕ → List (List (List ℕ)) → Option ℕ
rested j m n [] = Some n
rested j m n (g ∷ gs) = choose (good_lines j m g && every good_entry_lines gs) (Some (n + suc (length gs))) None

groups_open : (l : List ℕ) (ls : List (List ℕ)) → opens_entry ls ≡ true → groups (l ∷ ls) ≡ (l ∷ []) ∷ groups ls
unfolding groups
groups_open l ls h = choose_yes _ _ h

groups_on : (l : List ℕ) (ls : List (List ℕ)) → opens_entry ls ≡ false → groups (l ∷ ls) ≡ on_first l (groups ls)
unfolding groups
groups_on l ls h = choose_no _ _ h

start_all : (gs : List (List (List ℕ))) → choose (every good_entry_lines gs) (Some (length gs)) None ≡ rested 0 8 0 gs
unfolding rested every good_entry_lines choose
start_all [] = refl
start_all (g ∷ gs) = ap (λ (n : ℕ). choose (good_lines 0 8 g && every good_entry_lines gs) (Some n) None) (let e : suc (length gs) ≡ 0 + suc (length gs) = omega arith in e)

pub rested_start : (ls : List (List ℕ)) → counted ls ≡ rested 0 8 0 (groups ls)
unfolding counted
rested_start ls = start_all (groups ls)

pub rested_end : (j m n : ℕ) (ls : List (List ℕ)) → ls ≡ [] → rested j m n (groups ls) ≡ Some n
unfolding rested groups
rested_end j m n ls e = ap (λ (x : List (List ℕ)). rested j m n (groups x)) e

-- a line that is wrong
wrong_lines : (j m : ℕ) (l : List ℕ) (g : List (List ℕ)) → step_of j m l ≡ None → good_lines j m (l ∷ g) ≡ false
unfolding good_lines tested_after
wrong_lines j m l g e = ap (λ (x : Option ℕ). tested_after x (λ (k : ℕ). good_lines (suc j) k g)) e

wrong_group : (j m n : ℕ) (l : List ℕ) (g : List (List ℕ)) (gs : List (List (List ℕ))) → step_of j m l ≡ None → rested j m n ((l ∷ g) ∷ gs) ≡ None
unfolding rested
wrong_group j m n l g gs e = choose_no _ _ (and_no_left _ (wrong_lines j m l g e))

wrong_first : (j m n : ℕ) (l : List ℕ) (gs : List (List (List ℕ))) → step_of j m l ≡ None → rested j m n (on_first l gs) ≡ None
unfolding on_first
wrong_first j m n l [] e = wrong_group j m n l [] [] e
wrong_first j m n l (g ∷ gs) e = wrong_group j m n l g gs e

pub rested_wrong : (j m n : ℕ) (l : List ℕ) (ls : List (List ℕ)) → step_of j m l ≡ None → rested j m n (groups (l ∷ ls)) ≡ None
rested_wrong j m n l ls e = go (told (opens_entry ls))
  where
    go : (opens_entry ls ≡ true) ⊎ (opens_entry ls ≡ false) → rested j m n (groups (l ∷ ls)) ≡ None
    go (inl h) = ap (rested j m n) (groups_open l ls h) ∙ wrong_group j m n l [] (groups ls) e
    go (inr h) = ap (rested j m n) (groups_on l ls h) ∙ wrong_first j m n l (groups ls) e

-- a line that is right
right_lines : (j m k : ℕ) (l : List ℕ) (g : List (List ℕ)) → step_of j m l ≡ Some k → good_lines j m (l ∷ g) ≡ good_lines (suc j) k g
unfolding good_lines tested_after
right_lines j m k l g e = ap (λ (x : Option ℕ). tested_after x (λ (i : ℕ). good_lines (suc j) i g)) e

last_lines : (j k : ℕ) → good_lines j k [] ≡ leb k j
unfolding good_lines
last_lines j k = refl

-- inside an entry
some_group : (ls : List (List ℕ)) → opens_entry ls ≡ false → groups ls ≡ [] → ⊥
unfolding opens_entry groups on_first
some_group [] h e = true≢false h
some_group (l ∷ ls) h e = go (told (opens_entry ls)) (groups ls) refl
  where
    never : (x : List (List ℕ)) (xs : List (List (List ℕ))) → x ∷ xs ≡ [] → ⊥
    never x xs k = let z : suc (length xs) ≡ 0 = ap length k in omega arith

    first : (gs : List (List (List ℕ))) → on_first l gs ≡ [] → ⊥
    first [] k = never (l ∷ []) [] k
    first (g ∷ gs) k = never (l ∷ g) gs k

    go : (opens_entry ls ≡ true) ⊎ (opens_entry ls ≡ false) → (gs : List (List (List ℕ))) → groups ls ≡ gs → ⊥
    go (inl o) gs k = never (l ∷ []) (groups ls) (sym (groups_open l ls o) ∙ e)
    go (inr o) gs k = first (groups ls) (sym (groups_on l ls o) ∙ e)

on_group : (j m n k : ℕ) (l : List ℕ) (gs : List (List (List ℕ))) → step_of j m l ≡ Some k → (gs ≡ [] → ⊥) → rested j m n (on_first l gs) ≡ rested (suc j) k n gs
unfolding on_first rested
on_group j m n k l [] e h = absurd (h refl)
on_group j m n k l (g ∷ gs) e h = ap (λ (b : Bool). choose (b && every good_entry_lines gs) (Some (n + suc (length gs))) None) (right_lines j m k l g e)

pub rested_on : (j m n k : ℕ) (l : List ℕ) (ls : List (List ℕ)) → step_of j m l ≡ Some k → opens_entry ls ≡ false → rested j m n (groups (l ∷ ls)) ≡ rested (j + 1) k n (groups ls)
rested_on j m n k l ls e h =
    ap (rested j m n) (groups_on l ls h)
    ∙ (on_group j m n k l (groups ls) e (some_group ls h) ∙ ap (λ (i : ℕ). rested i k n (groups ls)) (sym (add-one j)))

-- at its end
pub rested_short : (j m n k : ℕ) (l : List ℕ) (ls : List (List ℕ)) → step_of j m l ≡ Some k → opens_entry ls ≡ true → j + 1 < k → rested j m n (groups (l ∷ ls)) ≡ None
unfolding rested
rested_short j m n k l ls e h s =
    ap (rested j m n) (groups_open l ls h)
    ∙ choose_no _ _ (and_no_left _ (right_lines j m k l [] e ∙ (last_lines (suc j) k ∙ lt-leb k (suc j) (omega arith))))

all_right : (n : ℕ) (b : Bool) (gs : List (List (List ℕ))) → b ≡ true → choose (b && every good_entry_lines gs) (Some (n + suc (length gs))) None ≡ rested 0 8 (n + 1) gs
unfolding rested every choose good_entry_lines
all_right n b [] e = ap (λ (x : Bool). choose (x && true) (Some (n + 1)) None) e
all_right n b (g ∷ gs) e =
    (λ i. choose (e i && (good_lines 0 8 g && every good_entry_lines gs)) (Some (n + suc (suc (length gs)))) None)
    ∙ ap (λ (x : ℕ). choose (good_lines 0 8 g && every good_entry_lines gs) (Some x) None) (let z : n + suc (suc (length gs)) ≡ n + 1 + suc (length gs) = omega arith in z)

pub rested_done : (j m n k : ℕ) (l : List ℕ) (ls : List (List ℕ)) → step_of j m l ≡ Some k → opens_entry ls ≡ true → k ≤ j + 1 → rested j m n (groups (l ∷ ls)) ≡ rested 0 8 (n + 1) (groups ls)
unfolding rested
rested_done j m n k l ls e h s =
    ap (rested j m n) (groups_open l ls h)
    ∙ all_right n (good_lines j m (l ∷ [])) (groups ls) (right_lines j m k l [] e ∙ (last_lines (suc j) k ∙ le-leb k (suc j) (omega arith)))

-- lines of prefixes
pub prefixes_other : (l : List ℕ) (ls : List (List ℕ)) → eqb (get_or l 0 0) 112 ≡ false → prefix_lines (l ∷ ls) ≡ prefix_lines ls
unfolding prefix_lines
prefixes_other l ls h = choose_no _ _ h

pub prefixes_one : (l : List ℕ) (ls : List (List ℕ)) → eqb (get_or l 0 0) 112 ≡ true → prefix_lines (l ∷ ls) ≡ l ∷ prefix_lines ls
unfolding prefix_lines
prefixes_one l ls h = choose_yes _ _ h

pub prefixes_none : (ls : List (List ℕ)) → ls ≡ [] → prefix_lines ls ≡ []
unfolding prefix_lines
prefixes_none ls e = ap prefix_lines e

-- the walks over the lines, each with what the calls answered
module _ {t line rest : List ℕ} (first : FirstLine t line rest) where
  abbrev after : List (List ℕ)
  after = lines_of rest

  module _ (j m n : ℕ) {r : Option ℕ} (step : r ≡ step_of j m line) where
    cut_rested : rested j m n (groups (lines_of t)) ≡ rested j m n (groups (line ∷ after))
    cut_rested = ap (λ (x : List (List ℕ)). rested j m n (groups x)) first.lines

    pub count_wrong : r ≡ None → rested j m n (groups (lines_of t)) ≡ None
    count_wrong h = cut_rested ∙ rested_wrong j m n line after (sym step ∙ h)

    pub count_on : {k : ℕ} {b : Bool} → r ≡ Some k → b ≡ opens_entry after → b ≡ false → rested j m n (groups (lines_of t)) ≡ rested (j + 1) k n (groups after)
    count_on h e f = cut_rested ∙ rested_on j m n _ line after (sym step ∙ h) (sym e ∙ f)

    pub count_short : {k : ℕ} {b : Bool} → r ≡ Some k → b ≡ opens_entry after → b ≡ true → j + 1 < k → rested j m n (groups (lines_of t)) ≡ None
    count_short h e f s = cut_rested ∙ rested_short j m n _ line after (sym step ∙ h) (sym e ∙ f) s

    pub count_done : {k : ℕ} {b : Bool} → r ≡ Some k → b ≡ opens_entry after → b ≡ true → k ≤ j + 1 → rested j m n (groups (lines_of t)) ≡ rested 0 8 (n + 1) (groups after)
    count_done h e f s = cut_rested ∙ rested_done j m n _ line after (sym step ∙ h) (sym e ∙ f) s

  other : eqb (get_or line 0 0) 112 ≡ false → prefix_lines (lines_of t) ≡ prefix_lines after
  other h = ap prefix_lines first.lines ∙ prefixes_other line after h

  one : eqb (get_or line 0 0) 112 ≡ true → prefix_lines (lines_of t) ≡ line ∷ prefix_lines after
  one h = ap prefix_lines first.lines ∙ prefixes_one line after h

  module _ (l : List ℕ) where
    pub apart_other : {b : Bool} → b ≡ eqb (get_or line 0 0) 112 → b ≡ false → apart_from l (lines_of t) ≡ apart_from l after
    unfolding apart_from
    apart_other e h = ap (every (λ (x : List ℕ). not (same_name l x))) (other (sym e ∙ h))

    apart_one : eqb (get_or line 0 0) 112 ≡ true → apart_from l (lines_of t) ≡ (not (same_name l line) && apart_from l after)
    unfolding apart_from every
    apart_one h = ap (every (λ (x : List ℕ). not (same_name l x))) (one h)

    pub apart_same : {p b : Bool} → p ≡ eqb (get_or line 0 0) 112 → p ≡ true → b ≡ same_name l line → b ≡ true → false ≡ apart_from l (lines_of t)
    apart_same g h e f = sym (apart_one (sym g ∙ h) ∙ and_no_left (apart_from l after) (ap not (sym e ∙ f)))

    pub apart_next : {p b : Bool} → p ≡ eqb (get_or line 0 0) 112 → p ≡ true → b ≡ same_name l line → b ≡ false → apart_from l (lines_of t) ≡ apart_from l after
    apart_next g h e f = apart_one (sym g ∙ h) ∙ and_yes_left (apart_from l after) (ap not (sym e ∙ f))

  pub distinct_other : {b : Bool} → b ≡ eqb (get_or line 0 0) 112 → b ≡ false → distinct (prefix_lines (lines_of t)) ≡ distinct (prefix_lines after)
  distinct_other e h = ap distinct (other (sym e ∙ h))

  distinct_one : eqb (get_or line 0 0) 112 ≡ true → distinct (prefix_lines (lines_of t)) ≡ (apart_from line after && distinct (prefix_lines after))
  unfolding apart_from distinct
  distinct_one h = ap distinct (one h)

  pub distinct_same : {p b : Bool} → p ≡ eqb (get_or line 0 0) 112 → p ≡ true → b ≡ apart_from line after → b ≡ false → false ≡ distinct (prefix_lines (lines_of t))
  distinct_same g h e f = sym (distinct_one (sym g ∙ h) ∙ and_no_left (distinct (prefix_lines after)) (sym e ∙ f))

  pub distinct_next : {p b : Bool} → p ≡ eqb (get_or line 0 0) 112 → p ≡ true → b ≡ apart_from line after → b ≡ true → distinct (prefix_lines (lines_of t)) ≡ distinct (prefix_lines after)
  distinct_next g h e f = distinct_one (sym g ∙ h) ∙ and_yes_left (distinct (prefix_lines after)) (sym e ∙ f)

module _ (t : List ℕ) (none_left : lines_of t ≡ []) where
  pub count_end : (j m n : ℕ) → rested j m n (groups (lines_of t)) ≡ Some n
  count_end j m n = rested_end j m n (lines_of t) none_left

  pub apart_end : (l : List ℕ) → true ≡ apart_from l (lines_of t)
  unfolding apart_from every
  apart_end l = sym (ap (every (λ (x : List ℕ). not (same_name l x))) (prefixes_none (lines_of t) none_left))

  pub distinct_end : true ≡ distinct (prefix_lines (lines_of t))
  unfolding distinct
  distinct_end = sym (ap distinct (prefixes_none (lines_of t) none_left))
