-- The layout of lent memory, one for both caches. A place is 2,336 units: a head of 32, and nine rooms of 256 for its texts.
-- Text 0 is the key (a prefix or a domain's name), texts 1 to 8 are the list (targets or DCs).
use Rattle.std.specs.Prelude.{ℕ, ◌+◌, ◌-◌, ◌*◌, ◌/◌, ◌%◌, min, Bool, length, get_or, take, replicate, eqb}
use mathlib.Core.List.{List, [], ◌∷◌, ◌++◌, flatten}
use Rattle.laws.specs.Choice.{choose}
use Rattle.laws.specs.Lists.{part, roomed}
use Rattle.laws.specs.Listed.{listed}
use Rattle.unc.specs.names.Paths.{path_units}

-- The units of the head, of which the first nine are the lengths of the texts; unit 0 is 0 where the place is free.
-- how many texts the list has
abbrev pub count_unit : ℕ
count_unit = 9

-- the hint
abbrev pub hint_unit : ℕ
hint_unit = 10

-- eight marks, one for each text of the list: a set boundary
abbrev pub mark_units : ℕ
mark_units = 11

-- the settings of a referral entry: three flags, and two numbers of two units each
abbrev pub root_unit : ℕ
root_unit = 19

abbrev pub interlink_unit : ℕ
interlink_unit = 20

abbrev pub failback_unit : ℕ
failback_unit = 21

abbrev pub ttl_unit : ℕ
ttl_unit = 22

abbrev pub taken_unit : ℕ
taken_unit = 24

-- all of them; those after the settings are not in use, and zero
abbrev pub head_units : ℕ
head_units = 32

-- a room for a text: as many as a path may have
abbrev pub room_units : ℕ
room_units = path_units

-- a place: the head and nine rooms
abbrev pub place_units : ℕ
place_units = 2336

-- how many places the memory has
abbrev pub place_count : List ℕ → ℕ
place_count raw = length raw / place_units

-- place i
unfoldable pub place_at : ℕ → List ℕ → List ℕ
place_at i raw = part (i * place_units) place_units raw

-- unit i of a place
abbrev pub unit_at : ℕ → List ℕ → ℕ
unit_at i piece = get_or piece i 0

-- a number of 32 bits in two units, the low one first
unfoldable pub wide_at : ℕ → List ℕ → ℕ
wide_at i piece = unit_at i piece + 65536 * unit_at (i + 1) piece

-- and the two units that write it
abbrev pub wide_units : ℕ → List ℕ
wide_units n = n % 65536 ∷ n / 65536 ∷ []

-- a flag is a unit, 1 where it is set
unfoldable pub flag_at : ℕ → List ℕ → Bool
flag_at i piece = eqb (unit_at i piece) 1

-- and 0 where it is not
unfoldable pub flag_unit : Bool → ℕ
flag_unit b = choose b 1 0

-- room j
unfoldable pub room_at : ℕ → List ℕ → List ℕ
room_at j piece = part (head_units + j * room_units) room_units piece

-- text j: the first units of its room, as many as unit j of the head says
unfoldable pub text_at : ℕ → List ℕ → List ℕ
text_at j piece = take (unit_at j piece) (room_at j piece)

-- how many texts the list of a place has
abbrev pub list_count : List ℕ → ℕ
list_count piece = min 8 (unit_at count_unit piece)

-- a free place: every unit zero
unfoldable pub blank : List ℕ
blank = replicate place_units 0

-- the head of a place that holds these texts, the key first, this hint, these marks and these settings; all else in it is zero
unfoldable pub head_of : List (List ℕ) → ℕ → List ℕ → List ℕ → List ℕ
head_of ts hint marks settings =
    listed 9 (λ j. length (get_or ts j [])) ++ (((length ts - 1) ∷ hint ∷ []) ++ (roomed 8 marks ++ roomed (head_units - root_unit) settings))

-- its rooms: each text with zeros after it
unfoldable pub rooms_of : List (List ℕ) → List ℕ
rooms_of ts = flatten (listed 9 (λ j. roomed room_units (get_or ts j [])))

-- the whole place
unfoldable pub written : List (List ℕ) → ℕ → List ℕ → List ℕ → List ℕ
written ts hint marks settings = head_of ts hint marks settings ++ rooms_of ts
