-- Shapes of the code, proved equal to the rules; nothing here is to be believed.
-- Words of the functions that read a listing into the places of a cache, line by line.
use Rattle.std.specs.Prelude.{ℕ, ◌+◌, ◌-◌, ◌≤◌, ◌<◌, ◌≡◌, true, false, List, [], ◌++◌, map, length, get_or, take, drop}
use Rattle.cache.specs.places.Layout.{hint_unit, room_units}
use Rattle.cache.specs.places.Code.{changed, put_unit, put_settings}
use Rattle.cache.specs.order.Entries.{Referral, used}
use Rattle.cache.specs.order.Memory.{settings_units, referral_units}
use Rattle.cache_entry.specs.write_entry.Code.{add_text, add_target, add_all}
use Rattle.listing_spelling.specs.unspell.Reading.{unspelled, is_spelled, decimal_of}
use Rattle.listing_spelling.specs.unspell.Code.{is_decimal}
use Rattle.listing_write.specs.Form.{lines_text, target_lines, listing}
use Rattle.listing_read.specs.line.Lines.{line_length}
use Rattle.listing_read.specs.listing_rules.Entries.{entry_said, entries_said}
use Rattle.listing_read.specs.listing_rules.Read.{is_listing}
use Rattle.listing_read.specs.declared.fill_cache.Read.{Read}

-- entry i of a text
unfoldable pub said_at : List ℕ → ℕ → Referral
said_at text i = get_or (entries_said text) i (entry_said [])

-- the text of the entries after it
unfoldable pub rest_after : List ℕ → ℕ → List ℕ
rest_after text i = listing (map used (drop (i + 1) (entries_said text)))

-- in a listing, from the place n on stand these lines of entry i, and then the other entries
pub record LinesAt (text : List ℕ) (i n : ℕ) (ls : List (List ℕ)) : Type 0 where
  pub form : is_listing text ≡ true
  pub inside : i < length (entries_said text)
  pub stands : drop n text ≡ lines_text ls ++ rest_after text i

-- what the first line of a text says after a key of k units
unfoldable pub value_at : ℕ → List ℕ → List ℕ
value_at k t = take (line_length t - k) (drop k t)

-- the first line of a text is one of a number, with a key of k units
pub record NumberAt (k : ℕ) (t : List ℕ) : Type 0 where
  pub ended : line_length t < length t
  pub keyed : k ≤ line_length t
  pub good : is_decimal (value_at k t) ≡ true

-- and the number was read
pub record NumberRead (k n : ℕ) (text : List ℕ) (r : Read) : Type 0 where
  pub value : r.value ≡ decimal_of (value_at k (drop n text))
  pub next : r.next ≡ n + line_length (drop n text) + 1

-- the first line of a text is one of a path, with a key of 7 units
pub record PathAt (t : List ℕ) : Type 0 where
  pub ended : line_length t < length t
  pub keyed : 7 ≤ line_length t
  pub good : is_spelled (value_at 7 t) ≡ true
  pub short : length (unspelled (value_at 7 t)) ≤ room_units

-- and the path was written as text j of place i
pub record PathRead (n : ℕ) (text : List ℕ) (i j : ℕ) (raw o : List ℕ) (r : ℕ) : Type 0 where
  pub memory : o ≡ changed i (add_text j (unspelled (value_at 7 (drop n text)))) raw
  pub next : r ≡ n + line_length (drop n text) + 1

-- or as target m
pub record TargetRead (n : ℕ) (text : List ℕ) (i m : ℕ) (raw o : List ℕ) (r : ℕ) : Type 0 where
  pub memory : o ≡ changed i (add_target m (record { path = unspelled (value_at 7 (drop n text)); opens = false })) raw
  pub next : r ≡ n + line_length (drop n text) + 1

-- the targets of entry i were written
pub record TargetsRead (text : List ℕ) (i : ℕ) (raw o : List ℕ) (r : ℕ) : Type 0 where
  pub memory : o ≡ changed i (add_all add_target 0 (said_at text i).targets) raw
  pub next : LinesAt text i r []

-- the settings of an entry, and its hint
unfoldable pub settled : Referral → List ℕ → List ℕ
settled e piece = put_unit hint_unit e.hint (put_settings (settings_units e.settings) piece)

pub record SettingsRead (text : List ℕ) (i : ℕ) (raw o : List ℕ) (r : ℕ) : Type 0 where
  pub memory : o ≡ changed i (settled (said_at text i)) raw
  pub next : LinesAt text i r (target_lines (said_at text i).targets)

-- the whole entry
pub record EntryRead (text : List ℕ) (i : ℕ) (raw o : List ℕ) (r : ℕ) : Type 0 where
  pub memory : o ≡ changed i (λ q. referral_units (said_at text i)) raw
  pub next : LinesAt text i r []
