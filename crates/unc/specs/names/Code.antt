-- Shapes of the code, proved equal to the rules; nothing here is to be believed.
use Rattle.std.specs.Prelude.{ℕ, ◌+◌, ◌≤◌, ◌<◌, suc, true, List, [], ◌∷◌, length, get_or, ◌≡◌, leb, Option, Some, None, Result, Ok, Err}
use Rattle.laws.specs.Choice.{choose}
use Rattle.laws.specs.Lists.{every, roomed}
use Rattle.unc.specs.names.Names.{plain, good_component, same_unit}
use Rattle.unc.specs.declared.names.Form.{Form}
use Rattle.unc.specs.declared.names.PathError.{PathError}
use Rattle.unc.specs.declared.names.PathError.TheVariants.{Bad, Long}
use Rattle.unc.specs.names.Paths.{pieces, good_path, normalised, component_count}

-- the units from a place up to another are equal, each to the one at its place
pub record SameWithin (s t : List ℕ) (from to : ℕ) : Type 0 where
  pub at : (k : ℕ) → from ≤ k → k < to → same_unit (get_or s k 0) (get_or t k 0) ≡ true

-- how many units a text has before the first that may not stand in a component
unfoldable pub plain_length : List ℕ → ℕ
plain_length [] = 0
plain_length (u ∷ s) = choose (plain u) (suc (plain_length s)) 0

-- n more than the number of pieces of a text where each is a good component, else 0
unfoldable pub good_count : ℕ → List ℕ → ℕ
good_count n s = choose (every good_component (pieces s)) (n + length (pieces s)) 0

-- a good form of so many units and components
abbrev pub form_of : ℕ → ℕ → Result Form PathError
form_of units components = Ok (record { units = units; components = components })

-- the form of a text as a path of at most n units normalised: bad, good but longer, or good with its length and its number of components
unfoldable pub form_within : ℕ → List ℕ → Result Form PathError
form_within n s =
    choose (good_path s)
    (choose (leb (length (normalised s)) n) (form_of (length (normalised s)) (component_count (normalised s))) (Err Long))
    (Err Bad)

-- a room after a text was normalised into it: the path with zeros after it, or the room as it was where the path is not good or does not fit
unfoldable pub room_after : List ℕ → List ℕ → List ℕ
room_after s room =
    choose (good_path s)
    (choose (leb (length (normalised s)) (length room)) (roomed (length room) (normalised s)) room)
    room

-- a text written into a room of n units, or told to be too long for it
unfoldable pub written_within : ℕ → List ℕ → Option ℕ
written_within n s = choose (leb (length s) n) (Some (length s)) None
