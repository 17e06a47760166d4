-- Shapes of the code, proved equal to the rules; nothing here is to be believed.
use Rattle.std.specs.Prelude.{ℕ, suc, ◌+◌, List, [], ◌∷◌, ◌++◌, length, get_or, Bool, true, false, ◌&&◌, ◌||◌, not, eqb, leb, ltb, Option, Some, ◌<◌, ◌≡◌, None}
use Rattle.laws.specs.Choice.{choose}
use Rattle.laws.specs.Lists.{every}
use Rattle.laws.specs.Listed.{same_list}
use Rattle.unc.specs.names.Names.{same_name}
use Rattle.listing_write.specs.Form.{prefix_key, kind_key, interlink_key, failback_key, ttl_key, taken_key, hint_key, target_key, kind_word}
use Rattle.listing_read.specs.line.Code.{is_path_line}
use Rattle.listing_read.specs.line.Lines.{number_said}
use Rattle.listing_read.specs.listing_rules.Entries.{lines_of, entries_said, groups}
use Rattle.listing_read.specs.listing_rules.Read.{is_listing}

-- Whether a text is a listing, and of how many entries; none where it is not.
unfoldable pub checked : List ℕ → Option ℕ
checked text = choose (is_listing text) (Some (length (entries_said text))) None

-- Words of the tests that the code makes line by line; that together they are the test of a listing is a law.

-- a number of at most m
unfoldable pub at_most : ℕ → Option ℕ → Bool
at_most m None = false
at_most m (Some n) = leb n m

-- a line of such a number
unfoldable pub is_number_line : List ℕ → ℕ → List ℕ → Bool
is_number_line key m line = at_most m (number_said key line)

-- the line of a kind
unfoldable pub is_kind_line : List ℕ → Bool
is_kind_line line = same_list (kind_key ++ kind_word true) line || same_list (kind_key ++ kind_word false) line

-- line j of an entry, from 0, but for line 6, which says the hint: an entry has 7 lines and 1 to 8 targets
unfoldable pub later_line : ℕ → List ℕ → Bool
later_line j line =
    choose (eqb j 4) (is_number_line ttl_key 4294967295 line) (choose (eqb j 5) (is_number_line taken_key 4294967295 line) (ltb j 15 && is_path_line target_key line))

unfoldable pub good_line : ℕ → List ℕ → Bool
good_line j line =
    choose (eqb j 0) (is_path_line prefix_key line)
    (choose (eqb j 1) (is_kind_line line) (choose (eqb j 2) (is_number_line interlink_key 1 line) (choose (eqb j 3) (is_number_line failback_key 1 line) (later_line j line))))

-- an entry whose hint is h has at least 8 + h lines; none where the line is wrong
unfoldable pub least_for : Option ℕ → Option ℕ
least_for None = None
least_for (Some h) = Some (8 + h)

unfoldable pub hint_step : List ℕ → Option ℕ
hint_step line = least_for (number_said hint_key line)

-- line j of an entry of at least n lines, and how many it has at least after it
unfoldable pub step_of : ℕ → ℕ → List ℕ → Option ℕ
step_of j n line = choose (eqb j 6) (hint_step line) (choose (good_line j line) (Some n) None)

-- what is tested after a step
unfoldable pub tested_after : Option ℕ → (ℕ → Bool) → Bool
tested_after None f = false
tested_after (Some n) f = f n

-- the lines from line j on, of an entry of at least n lines
unfoldable pub good_lines : ℕ → ℕ → List (List ℕ) → Bool
good_lines j n [] = leb n j
good_lines j n (l ∷ ls) = tested_after (step_of j n l) (λ m. good_lines (suc j) m ls)

-- the lines of an entry
unfoldable pub good_entry_lines : List (List ℕ) → Bool
good_entry_lines ls = good_lines 0 8 ls

-- lines that are those of entries, and of how many
unfoldable pub counted : List (List ℕ) → Option ℕ
counted ls = choose (every good_entry_lines (groups ls)) (Some (length (groups ls))) None

-- the lines of prefixes
unfoldable pub prefix_lines : List (List ℕ) → List (List ℕ)
prefix_lines [] = []
prefix_lines (l ∷ ls) = choose (eqb (get_or l 0 0) 112) (l ∷ prefix_lines ls) (prefix_lines ls)

-- none of them is the same as this line
unfoldable pub apart_from : List ℕ → List (List ℕ) → Bool
apart_from line ls = every (λ m. not (same_name line m)) (prefix_lines ls)

-- every line is ended
unfoldable pub is_ended : List ℕ → Bool
is_ended [] = true
is_ended (u ∷ []) = eqb u 10
is_ended (u ∷ v ∷ s) = is_ended (v ∷ s)

-- a text, its first line without its end, and the text after it
pub record FirstLine (text line after : List ℕ) : Type 0 where
  pub lines : lines_of text ≡ line ∷ lines_of after
  pub shorter : length after < length text
