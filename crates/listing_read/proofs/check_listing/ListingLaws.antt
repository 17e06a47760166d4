-- Laws of the whole text: that every line is ended, that the lines are those of entries, and that the lines of prefixes are apart, is that the text is a listing.
use mathlib.Core.Path.{◌≡◌, refl, sym, ap, ◌∙◌}
use mathlib.Core.Bool.{Bool, true, false, ◌&&◌, not}
use mathlib.Core.List.{List, [], ◌∷◌, ◌++◌, map}
use mathlib.Core.Logic.{◌⊎◌, inl, inr}
use Prim.Native.Nat.{ℕ, suc, ◌≤◌}
use native.Mathlib.Omega.{arith}
use lib.ListN.{length}
use borrow.Author.Tests.{eqb-true}
use Rattle.laws.specs.Choice.{choose}
use Rattle.laws.specs.Lists.{every}
use Rattle.laws.proofs.Choices.{choose_yes, choose_no, and_both, and_left, and_right, and_no_left, and_no_right}
use Rattle.laws.proofs.Every.{every_append}
use Rattle.laws.proofs.Tests.{both_ways, eq_or_ne}
use Rattle.laws.proofs.Orders.{told}
use Rattle.unc.specs.names.Names.{folded, same_unit, same_name}
use Rattle.unc.specs.names.Paths.{Target}
use Rattle.cache.specs.order.Entries.{Referral, used}
use Rattle.cache.specs.order.Order.{distinct}
use Rattle.listing_spelling.specs.unspell.Reading.{unit}
use Rattle.listing_write.specs.Form.{prefix_key, path_line, number_line, ended, lines_text, target_lines, setting_lines, count_lines, entry_lines, entry_text, listing}
use Rattle.listing_write.proofs.FormLaws.{lines_append}
use Rattle.listing_read.specs.listing_rules.Entries.{on_first, lines_of, opens_entry, groups, entry_said, entries_said}
use Rattle.listing_read.specs.listing_rules.Read.{listable, is_listing}
use Rattle.listing_read.proofs.line.LineLaws.{chosen, not_chosen}
use Rattle.listing_read.proofs.listing_rules.LineLaws.{later, all_lines, all_text, all_later, entry_later, lines_cut, groups_all}
use Rattle.listing_read.proofs.listing_rules.SaidLaws.{listable_told, told_listable, Said, listing_sound, listing_complete}
use Rattle.std.specs.Prelude.{Option, Some, None}
use Rattle.std.specs.Bool.{then_some}
use Rattle.listing_read.specs.check_listing.Code.{checked, good_entry_lines, counted, prefix_lines, is_ended}
use Rattle.listing_read.proofs.check_listing.TextLaws.{lines_here, lines_later, cut}
use Rattle.listing_read.proofs.check_listing.SpelledLaws.{spelled_same}
use Rattle.listing_read.proofs.check_listing.EntryLaws.{entry_told, entry_good}

-- the lines of an ended text, as text
text_here : (u : ℕ) (s : List ℕ) (ls : List (List ℕ)) → u ≡ 10 → lines_text ls ≡ s → lines_text ([] ∷ ls) ≡ u ∷ s
unfolding lines_text ended
text_here u s ls e h = λ i. sym e i ∷ h i

text_later : (u : ℕ) (l : List ℕ) (ls : List (List ℕ)) → lines_text (on_first u (l ∷ ls)) ≡ u ∷ lines_text (l ∷ ls)
unfolding lines_text ended on_first
text_later u l ls = refl

last_ended : (u : ℕ) → is_ended (u ∷ []) ≡ true → u ≡ 10
unfolding is_ended
last_ended u h = eqb-true u 10 h

none_ended : lines_text (lines_of []) ≡ []
unfolding lines_text lines_of
none_ended = refl

rest_ended : (u v : ℕ) (s : List ℕ) → is_ended (u ∷ v ∷ s) ≡ true → is_ended (v ∷ s) ≡ true
unfolding is_ended
rest_ended u v s h = h

lines_text_lem : (text : List ℕ) → is_ended text ≡ true → lines_text (lines_of text) ≡ text
lines_text_lem [] h = none_ended
lines_text_lem (u ∷ []) h = let e = last_ended u h in ap lines_text (lines_here u [] e) ∙ text_here u [] (lines_of []) e none_ended
lines_text_lem (u ∷ v ∷ s) h = go (eq_or_ne u 10) (lines_text_lem (v ∷ s) (rest_ended u v s h))
  where
    go : (u ≡ 10) ⊎ (u ≡ 10 → ⊥) → lines_text (lines_of (v ∷ s)) ≡ v ∷ s → lines_text (lines_of (u ∷ v ∷ s)) ≡ u ∷ v ∷ s
    go (inl e) k = ap lines_text (lines_here u (v ∷ s) e) ∙ text_here u (v ∷ s) (lines_of (v ∷ s)) e k
    go (inr e) k =
        ap lines_text (lines_later u (v ∷ s) e)
        ∙ (ap (λ (x : List (List ℕ)). lines_text (on_first u x)) (cut v s)
        ∙ (text_later u _ _ ∙ ap (λ (x : List ℕ). u ∷ x) (sym (ap lines_text (cut v s)) ∙ k)))

-- and lines as text are ended
ended_cons : (u : ℕ) (s : List ℕ) → 1 ≤ length s → is_ended s ≡ true → is_ended (u ∷ s) ≡ true
unfolding is_ended
ended_cons u [] l h = absurd (let z : 1 ≤ 0 = l in omega arith)
ended_cons u (v ∷ s) l h = h

ended_end : (s : List ℕ) → is_ended s ≡ true → is_ended (10 ∷ s) ≡ true
unfolding is_ended
ended_end [] h = refl
ended_end (v ∷ s) h = h

line_long : (l s : List ℕ) → 1 ≤ length (ended l ++ s)
unfolding ended
line_long [] s = omega arith
line_long (u ∷ l) s = omega arith

ended_line : (l s : List ℕ) → is_ended s ≡ true → is_ended (ended l ++ s) ≡ true
unfolding ended
ended_line [] s h = ended_end s h
ended_line (u ∷ l) s h = ended_cons u ((l ++ (10 ∷ [])) ++ s) (line_long l s) (ended_line l s h)

text_ended : (ls : List (List ℕ)) → is_ended (lines_text ls) ≡ true
unfolding lines_text is_ended
text_ended [] = refl
text_ended (l ∷ ls) = ended_line l (lines_text ls) (text_ended ls)

-- the groups are all lines
joined : List (List (List ℕ)) → List (List ℕ)
joined [] = []
joined (g ∷ gs) = g ++ joined gs

joined_first : (l : List ℕ) (gs : List (List (List ℕ))) → joined (on_first l gs) ≡ l ∷ joined gs
unfolding joined on_first
joined_first l [] = refl
joined_first l (g ∷ gs) = refl

joined_groups : (ls : List (List ℕ)) → joined (groups ls) ≡ ls
unfolding joined groups
joined_groups [] = refl
joined_groups (l ∷ ls) = go (told (opens_entry ls)) (joined_groups ls)
  where
    go : (opens_entry ls ≡ true) ⊎ (opens_entry ls ≡ false) → joined (groups ls) ≡ ls → joined (choose (opens_entry ls) ((l ∷ []) ∷ groups ls) (on_first l (groups ls))) ≡ l ∷ ls
    go (inl o) k = ap joined (choose_yes _ _ o) ∙ ap (λ (x : List (List ℕ)). l ∷ x) k
    go (inr o) k = ap joined (choose_no _ _ o) ∙ (joined_first l (groups ls) ∙ ap (λ (x : List (List ℕ)). l ∷ x) k)

listing_joined : (es : List Referral) → listing (map used es) ≡ lines_text (joined (map entry_lines es))
unfolding listing lines_text joined entry_text
listing_joined [] = refl
listing_joined (e ∷ es) = ap (λ (x : List ℕ). lines_text (entry_lines e) ++ x) (listing_joined es) ∙ sym (lines_append (entry_lines e) (joined (map entry_lines es)))

joined_later : (es : List Referral) → every (every later) (joined (map entry_lines es)) ≡ true
unfolding every joined
joined_later [] = refl
joined_later (e ∷ es) = every_append (every later) (entry_lines e) (joined (map entry_lines es)) ∙ and_both (entry_later e) (joined_later es)

all_joined : (es : List Referral) → all_lines es ≡ joined (map entry_lines es)
all_joined es =
    sym (lines_cut (all_lines es) (all_later es))
    ∙ (ap lines_of (sym (all_text es) ∙ listing_joined es) ∙ lines_cut (joined (map entry_lines es)) (joined_later es))

entries_form : (gs : List (List (List ℕ))) → every good_entry_lines gs ≡ true → map entry_lines (map entry_said gs) ≡ gs
unfolding every
entries_form [] h = refl
entries_form (g ∷ gs) h =
    let p = (entry_told g (and_left (good_entry_lines g) _ h)).form in
    λ i. p i ∷ entries_form gs (and_right (good_entry_lines g) _ h) i

groups_listable : (gs : List (List (List ℕ))) → every good_entry_lines gs ≡ true → every listable (map entry_said gs) ≡ true
unfolding every
groups_listable [] h = refl
groups_listable (g ∷ gs) h =
    and_both (told_listable (entry_said g) (entry_told g (and_left (good_entry_lines g) _ h)).good) (groups_listable gs (and_right (good_entry_lines g) _ h))

entries_good : (es : List Referral) → every listable es ≡ true → every good_entry_lines (map entry_lines es) ≡ true
unfolding every
entries_good [] h = refl
entries_good (e ∷ es) h = and_both (entry_good e (listable_told e (and_left (listable e) _ h))) (entries_good es (and_right (listable e) _ h))

-- the lines of prefixes, of the lines of entries
targets_none : (ts : List Target) (rest : List (List ℕ)) → prefix_lines (target_lines ts ++ rest) ≡ prefix_lines rest
unfolding prefix_lines target_lines path_line choose
targets_none [] rest = refl
targets_none (t ∷ ts) rest = targets_none ts rest

entry_prefix : (e : Referral) (rest : List (List ℕ)) → prefix_lines (entry_lines e ++ rest) ≡ path_line prefix_key e.prefix ∷ prefix_lines rest
unfolding prefix_lines entry_lines setting_lines count_lines path_line number_line choose
entry_prefix e rest = ap (λ (x : List (List ℕ)). path_line prefix_key e.prefix ∷ x) (targets_none e.targets rest)

all_prefixes : (es : List Referral) → prefix_lines (joined (map entry_lines es)) ≡ map (λ e. path_line prefix_key e.prefix) es
unfolding prefix_lines joined
all_prefixes [] = refl
all_prefixes (e ∷ es) = entry_prefix e (joined (map entry_lines es)) ∙ ap (λ (x : List (List ℕ)). path_line prefix_key e.prefix ∷ x) (all_prefixes es)

-- two of them are the same exactly where the prefixes are equal
lines_same : (p q : List ℕ) → every unit p ≡ true → every unit q ≡ true → same_name (path_line prefix_key p) (path_line prefix_key q) ≡ same_name p q
unfolding path_line same_name same_unit folded choose
lines_same p q h k = spelled_same p q h k

apart_same : (p : List ℕ) (es : List Referral) → every unit p ≡ true → every listable es ≡ true
    → every (λ m. not (same_name (path_line prefix_key p) m)) (map (λ e. path_line prefix_key e.prefix) es) ≡ every (λ m. not (same_name p m)) (map (λ e. e.prefix) es)
unfolding every
apart_same p [] h k = refl
apart_same p (e ∷ es) h k =
    let q = lines_same p e.prefix h (listable_told e (and_left (listable e) _ k)).prefixed in
    λ i. not (q i) && apart_same p es h (and_right (listable e) _ k) i

distinct_same : (es : List Referral) → every listable es ≡ true → distinct (map (λ e. path_line prefix_key e.prefix) es) ≡ distinct (map (λ e. e.prefix) es)
unfolding distinct every
distinct_same [] h = refl
distinct_same (e ∷ es) h =
    let q = apart_same e.prefix es (listable_told e (and_left (listable e) _ h)).prefixed (and_right (listable e) _ h) in
    λ i. q i && distinct_same es (and_right (listable e) _ h) i

prefixes_same : (es : List Referral) → every listable es ≡ true → distinct (prefix_lines (joined (map entry_lines es))) ≡ distinct (map (λ e. e.prefix) es)
prefixes_same es h = ap distinct (all_prefixes es) ∙ distinct_same es h

-- Sound and complete
tests_said : (text : List ℕ) → is_ended text ≡ true → every good_entry_lines (groups (lines_of text)) ≡ true → distinct (prefix_lines (lines_of text)) ≡ true → Said text (entries_said text)
unfolding entries_said
tests_said text a b c =
    let gs = groups (lines_of text) in
    let es = map entry_said gs in
    let l : joined (map entry_lines es) ≡ lines_of text = ap joined (entries_form gs b) ∙ joined_groups (lines_of text) in
    let w = groups_listable gs b in
    record {
      form = sym (listing_joined es ∙ (ap lines_text l ∙ lines_text_lem text a));
      each = w;
      apart = sym (prefixes_same es w) ∙ (ap (λ (x : List (List ℕ)). distinct (prefix_lines x)) l ∙ c);
    }

said_lines : (text : List ℕ) (es : List Referral) → Said text es → lines_of text ≡ joined (map entry_lines es)
said_lines text es s = ap lines_of (s.form ∙ listing_joined es) ∙ lines_cut (joined (map entry_lines es)) (joined_later es)

said_tests : (text : List ℕ) (es : List Referral) → Said text es → (is_ended text && (every good_entry_lines (groups (lines_of text)) && distinct (prefix_lines (lines_of text)))) ≡ true
said_tests text es s =
    let l = said_lines text es s in
    let g : groups (lines_of text) ≡ map entry_lines es = ap groups (l ∙ sym (all_joined es)) ∙ groups_all es in
    and_both (ap is_ended (s.form ∙ listing_joined es) ∙ text_ended (joined (map entry_lines es)))
    (and_both (ap (every good_entry_lines) g ∙ entries_good es s.each)
    (ap (λ (x : List (List ℕ)). distinct (prefix_lines x)) l ∙ (prefixes_same es s.each ∙ s.apart)))

pub listing_tests : (text : List ℕ) → is_listing text ≡ (is_ended text && (every good_entry_lines (groups (lines_of text)) && distinct (prefix_lines (lines_of text))))
listing_tests text =
    both_ways _ _ (λ h. said_tests text (entries_said text) (listing_sound text h))
    (λ h.
    let k = and_right (is_ended text) _ h in
    listing_complete text (entries_said text)
    (tests_said text (and_left (is_ended text) _ h) (and_left (every good_entry_lines (groups (lines_of text))) _ k) (and_right (every good_entry_lines (groups (lines_of text))) _ k)))

said_count : (text : List ℕ) → length (groups (lines_of text)) ≡ length (entries_said text)
unfolding entries_said
said_count text = go (groups (lines_of text))
  where
    go : (gs : List (List (List ℕ))) → length gs ≡ length (map entry_said gs)
    go [] = refl
    go (g ∷ gs) = ap suc (go gs)

-- what is answered
module _ (text : List ℕ) where
  bad : is_listing text ≡ false → None ≡ checked text
  unfolding checked
  bad h = sym (choose_no _ _ h)

  pub check_unended : {b : Bool} → b ≡ is_ended text → b ≡ false → None ≡ checked text
  check_unended e h = bad (listing_tests text ∙ and_no_left _ (sym e ∙ h))

  counted_bad : counted (lines_of text) ≡ None → every good_entry_lines (groups (lines_of text)) ≡ false
  unfolding counted
  counted_bad h = not_chosen _ (length (groups (lines_of text))) h

  pub check_bad : {r : Option ℕ} → r ≡ counted (lines_of text) → r ≡ None → None ≡ checked text
  check_bad e h = bad (listing_tests text ∙ and_no_right (is_ended text) (and_no_left _ (counted_bad (sym e ∙ h))))

  counted_good : {n : ℕ} → counted (lines_of text) ≡ Some n → (every good_entry_lines (groups (lines_of text)) ≡ true) × (n ≡ length (groups (lines_of text)))
  unfolding counted
  counted_good h = chosen _ h

  check_equal : {b : Bool} → b ≡ distinct (prefix_lines (lines_of text)) → b ≡ false → None ≡ checked text
  check_equal e h = bad (listing_tests text ∙ and_no_right (is_ended text) (and_no_right (every good_entry_lines (groups (lines_of text))) (sym e ∙ h)))

  check_good : {a b : Bool} {r : Option ℕ} {n : ℕ} → a ≡ is_ended text → a ≡ true → r ≡ counted (lines_of text) → r ≡ Some n → b ≡ distinct (prefix_lines (lines_of text)) → b ≡ true → Some n ≡ checked text
  unfolding checked
  check_good ea ha er hr eb hb =
      let w = counted_good (sym er ∙ hr) in
      ap Some (w.1 ∙ said_count text) ∙ sym (choose_yes _ _ (listing_tests text ∙ and_both (sym ea ∙ ha) (and_both w.0 (sym eb ∙ hb))))

  pub check_then : {a b : Bool} {r : Option ℕ} {n : ℕ} → a ≡ is_ended text → a ≡ true → r ≡ counted (lines_of text) → r ≡ Some n → b ≡ distinct (prefix_lines (lines_of text)) → then_some b n ≡ checked text
  check_then {a} {b} {r} {n} ea ha er hr eb = go b eb
    where
      go : (c : Bool) → c ≡ distinct (prefix_lines (lines_of text)) → then_some c n ≡ checked text
      go true e = check_good ea ha er hr e refl
      go false e = check_equal e refl
