-- The form of the listing: document 01, "The listing". A list of entries is a list of lines, and each line is units ended by 0A hex.
use Rattle.std.specs.Prelude.{ℕ, Bool, true, false, List, [], ◌∷◌, ◌++◌}
use Rattle.cache.specs.places.Layout.{flag_unit}
use Rattle.unc.specs.names.Paths.{Target}
use Rattle.cache.specs.order.Entries.{Referral, Place, free, used}
use Rattle.listing_spelling.specs.spell.Spelling.{spelled, decimal}

-- prefix=
abbrev pub prefix_key : List ℕ
prefix_key = 112 ∷ 114 ∷ 101 ∷ 102 ∷ 105 ∷ 120 ∷ 61 ∷ []

-- kind=
abbrev pub kind_key : List ℕ
kind_key = 107 ∷ 105 ∷ 110 ∷ 100 ∷ 61 ∷ []

-- interlink=
abbrev pub interlink_key : List ℕ
interlink_key = 105 ∷ 110 ∷ 116 ∷ 101 ∷ 114 ∷ 108 ∷ 105 ∷ 110 ∷ 107 ∷ 61 ∷ []

-- failback=
abbrev pub failback_key : List ℕ
failback_key = 102 ∷ 97 ∷ 105 ∷ 108 ∷ 98 ∷ 97 ∷ 99 ∷ 107 ∷ 61 ∷ []

-- ttl=
abbrev pub ttl_key : List ℕ
ttl_key = 116 ∷ 116 ∷ 108 ∷ 61 ∷ []

-- taken=
abbrev pub taken_key : List ℕ
taken_key = 116 ∷ 97 ∷ 107 ∷ 101 ∷ 110 ∷ 61 ∷ []

-- hint=
abbrev pub hint_key : List ℕ
hint_key = 104 ∷ 105 ∷ 110 ∷ 116 ∷ 61 ∷ []

-- target=
abbrev pub target_key : List ℕ
target_key = 116 ∷ 97 ∷ 114 ∷ 103 ∷ 101 ∷ 116 ∷ 61 ∷ []

-- "kind (root or link)"
unfoldable pub kind_word : Bool → List ℕ
kind_word true = 114 ∷ 111 ∷ 111 ∷ 116 ∷ []
kind_word false = 108 ∷ 105 ∷ 110 ∷ 107 ∷ []

-- a "key=value" line whose value is a path
unfoldable pub path_line : List ℕ → List ℕ → List ℕ
path_line key s = key ++ spelled s

-- or a number; "interlink, failback (0 or 1)" are numbers too
unfoldable pub number_line : List ℕ → ℕ → List ℕ
number_line key n = key ++ decimal n

-- "each ended by a unit 0A hex"
unfoldable pub ended : List ℕ → List ℕ
ended line = line ++ (10 ∷ [])

-- lines as text
unfoldable pub lines_text : List (List ℕ) → List ℕ
lines_text [] = []
lines_text (line ∷ ls) = ended line ++ lines_text ls

-- "then one target line each". Sets are not listed.
unfoldable pub target_lines : List Target → List (List ℕ)
target_lines [] = []
target_lines (t ∷ ts) = path_line target_key t.path ∷ target_lines ts

-- prefix, kind, interlink, failback
unfoldable pub setting_lines : Referral → List (List ℕ)
setting_lines e =
    path_line prefix_key e.prefix
    ∷ (kind_key ++ kind_word e.settings.root)
    ∷ number_line interlink_key (flag_unit e.settings.interlink)
    ∷ number_line failback_key (flag_unit e.settings.failback)
    ∷ []

-- ttl, taken, hint (from 0)
unfoldable pub count_lines : Referral → List (List ℕ)
count_lines e = number_line ttl_key e.settings.ttl ∷ number_line taken_key e.settings.taken ∷ number_line hint_key e.hint ∷ []

-- the lines of an entry
unfoldable pub entry_lines : Referral → List (List ℕ)
entry_lines e = setting_lines e ++ (count_lines e ++ target_lines e.targets)

unfoldable pub entry_text : Referral → List ℕ
entry_text e = lines_text (entry_lines e)

-- "Per entry of the referral cache, in place order"
unfoldable pub listing : List (Place Referral) → List ℕ
listing [] = []
listing (free ∷ ps) = listing ps
listing (used e ∷ ps) = entry_text e ++ listing ps
