-- Shapes of the code, proved equal to the rules; nothing here is to be believed.
use Rattle.std.specs.Prelude.{ℕ, ◌+◌, ◌-◌, ◌*◌, Bool, ◌&&◌, List, [], ◌∷◌, length, replicate, eqb, leb}
use Rattle.laws.specs.Lists.{every, pasted, part, roomed}
use Rattle.laws.specs.Listed.{listed, same_list}
use Rattle.cache.specs.places.Layout.{place_at, list_count, text_at, unit_at, written, wide_units, hint_unit, mark_units, root_unit, head_units, room_units, place_units}

-- the memory with place i changed by f, and all else as it was
unfoldable pub changed : ℕ → (List ℕ → List ℕ) → List ℕ → List ℕ
changed i f raw = pasted raw (i * place_units) (f (place_at i raw))

-- read back from a place: the key and the texts of the list
unfoldable pub place_texts : List ℕ → List (List ℕ)
place_texts piece = listed (1 + list_count piece) (λ j. text_at j piece)

-- the marks of the list
unfoldable pub marks_of : List ℕ → List ℕ
marks_of piece = listed (list_count piece) (λ j. unit_at (mark_units + j) piece)

-- the first unit of the head that is not in use
abbrev pub free_units : ℕ
free_units = 26

-- the settings: the units in use
unfoldable pub settings_of : List ℕ → List ℕ
settings_of piece = listed (free_units - root_unit) (λ j. unit_at (root_unit + j) piece)

-- the unused room of a used place is zero: the place is exactly what its texts, hint, marks and settings write
unfoldable pub tidy : List ℕ → Bool
tidy piece = same_list (written (place_texts piece) (unit_at hint_unit piece) (marks_of piece) (settings_of piece)) piece

-- every unit is zero
unfoldable pub zeros : List ℕ → Bool
zeros s = every (λ u. eqb u 0) s

-- nothing stands in room j past its text
unfoldable pub tidy_room : List ℕ → ℕ → Bool
tidy_room piece j = leb (unit_at j piece) room_units && zeros (part (head_units + j * room_units + unit_at j piece) (room_units - unit_at j piece) piece)

-- the same of the nine rooms
unfoldable pub tidy_rooms : List ℕ → Bool
tidy_rooms piece = every (tidy_room piece) (listed 9 (λ j. j))

-- what the writers of a place make of it: one unit
unfoldable pub put_unit : ℕ → ℕ → List ℕ → List ℕ
put_unit j v piece = pasted piece j (v ∷ [])

-- a number of 32 bits
unfoldable pub put_wide : ℕ → ℕ → List ℕ → List ℕ
put_wide j v piece = pasted piece j (wide_units v)

-- a text with its length; the rest of its room becomes zero
unfoldable pub put_text : ℕ → List ℕ → List ℕ → List ℕ
put_text j t piece = pasted (put_unit j (length t) piece) (head_units + j * room_units) (roomed room_units t)

-- settings
unfoldable pub put_settings : List ℕ → List ℕ → List ℕ
put_settings settings piece = pasted piece root_unit settings

-- all but the key becomes zero
unfoldable pub key_only : List ℕ → List ℕ
key_only piece = pasted (pasted piece 1 (replicate (head_units - 1) 0)) (head_units + room_units) (replicate (8 * room_units) 0)
