-- What a text says, line by line, whatever it is. Whether it is a listing is another matter: only a text that these entries list is read.
use Rattle.std.specs.Prelude.{ℕ, Bool, true, false, List, [], ◌∷◌, map, get_or, drop, eqb}
use Rattle.laws.specs.Choice.{choose}
use Rattle.laws.specs.Listed.{same_list}
use Rattle.unc.specs.names.Paths.{Target}
use Rattle.cache.specs.order.Entries.{Referral}
use Rattle.listing_write.specs.Form.{kind_word}
use Rattle.listing_spelling.specs.unspell.Reading.{unspelled, decimal_of}

-- one unit more before the first line
unfoldable pub on_first : {A : Type 0} → A → List (List A) → List (List A)
on_first u [] = (u ∷ []) ∷ []
on_first u (l ∷ ls) = (u ∷ l) ∷ ls

-- the lines of a text: what stands before each unit 0A hex, and what stands after the last
unfoldable pub lines_of : List ℕ → List (List ℕ)
lines_of [] = []
lines_of (u ∷ s) = choose (eqb u 10) ([] ∷ lines_of s) (on_first u (lines_of s))

-- nothing, or a line that opens an entry: of all keys only prefix begins with "p"
unfoldable pub opens_entry : List (List ℕ) → Bool
opens_entry [] = true
opens_entry (l ∷ ls) = eqb (get_or l 0 0) 112

-- the lines of each entry
unfoldable pub groups : List (List ℕ) → List (List (List ℕ))
groups [] = []
groups (l ∷ ls) = choose (opens_entry ls) ((l ∷ []) ∷ groups ls) (on_first l (groups ls))

-- the target of a line; "each with one set"
unfoldable pub target_said : List ℕ → Target
target_said l = record { path = unspelled (drop 7 l); opens = false }

-- the entry that lines say: what stands after prefix=, kind=, interlink=, failback=, ttl=, taken=, hint=, and target= in each line after those
unfoldable pub entry_said : List (List ℕ) → Referral
entry_said ls = record {
  prefix = unspelled (drop 7 (get_or ls 0 []));
  settings = record {
    root = same_list (drop 5 (get_or ls 1 [])) (kind_word true);
    interlink = eqb (decimal_of (drop 10 (get_or ls 2 []))) 1;
    failback = eqb (decimal_of (drop 9 (get_or ls 3 []))) 1;
    ttl = decimal_of (drop 4 (get_or ls 4 []));
    taken = decimal_of (drop 6 (get_or ls 5 []));
  };
  targets = map target_said (drop 7 ls);
  hint = decimal_of (drop 5 (get_or ls 6 []));
}

-- the entries that a text says
unfoldable pub entries_said : List ℕ → List Referral
entries_said text = map entry_said (groups (lines_of text))
