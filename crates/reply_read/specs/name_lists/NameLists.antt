-- DC and domain replies: document 01, "Layouts", name list entries.
use Rattle.std.specs.Prelude.{ℕ, zero, suc, ◌+◌, ◌*◌, Bool, ◌&&◌, not, List, [], ◌∷◌, map, length, get_or, take, drop, eqb, Option, None, Some}
use Rattle.laws.specs.Choice.{choose}
use Rattle.laws.specs.Lists.{every}
use Rattle.unc.specs.names.Names.{good_name, backslash}
use Rattle.reply_bytes.specs.texts.Bytes.{u16_at, Text, terminated, unterminated, text_from}
use Rattle.reply_read.specs.referral.Replies.{version_at, entry_flag, text_of, entries, fits, is_read, all_read, readable, Reply, read_as}

-- A DC's name, "with or without a leading backslash", which is not kept; none of any other text.
unfoldable pub bare : List ℕ → List ℕ
bare s = choose (eqb (get_or s 0 0) backslash) (drop 1 s) s

unfoldable pub dc_of : Text → Option (List ℕ)
dc_of unterminated = None
dc_of (terminated s) = choose (good_name (bare s)) (Some (bare s)) None

-- A domain's name, written "\domain"; none of any other text.
unfoldable pub domain_said : Text → Option (List ℕ)
domain_said unterminated = None
domain_said (terminated s) = choose (eqb (get_or s 0 0) backslash && good_name (drop 1 s)) (Some (drop 1 s)) None

-- A DC reply: the first entry only; "its NumberOfExpandedNames DC names one after another, 1 or more".
unfoldable pub bytes_past : Text → ℕ
bytes_past unterminated = 0
bytes_past (terminated s) = 2 * (length s + 1)

unfoldable pub texts_at : ℕ → ℕ → List ℕ → List Text
texts_at zero i r = []
texts_at (suc n) i r = text_from r i ∷ texts_at n (i + bytes_past (text_from r i)) r

unfoldable pub dc_names : List ℕ → List (Option (List ℕ))
dc_names r = map dc_of (texts_at (u16_at r 22) (8 + u16_at r 24) r)

unfoldable pub good_dcs : List ℕ → Bool
good_dcs r =
    readable (version_at r 8)
    && (fits 18 r 8 && (entry_flag 2 r 8 && (not (eqb (u16_at r 22) 0) && every is_read (dc_names r))))

-- the first 8 are kept
unfoldable pub read_dcs : ℕ → List ℕ → Reply (List (List ℕ))
read_dcs size r = read_as size r (good_dcs r) (all_read (take 8 (dc_names r)))

-- A domain reply: version 3, NameListReferral set, names "\domain". All names, in reply order.
unfoldable pub domain_at : List ℕ → ℕ → Option (List ℕ)
domain_at r e = domain_said (text_of 12 r e)

unfoldable pub good_domain_name : List ℕ → ℕ → Bool
good_domain_name r e = eqb (version_at r e) 3 && (fits 18 r e && (entry_flag 2 r e && is_read (domain_at r e)))

unfoldable pub read_domains : ℕ → List ℕ → Reply (List (List ℕ))
read_domains size r = read_as size r (every (good_domain_name r) (entries r)) (all_read (map (domain_at r) (entries r)))
