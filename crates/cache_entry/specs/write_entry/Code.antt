-- Shapes of the code, proved equal to the rules; nothing here is to be believed.
-- Words of the functions that write an entry into its place, one text at a time.
use Rattle.std.specs.Prelude.{ℕ, ◌+◌, ◌*◌, Bool, ◌&&◌, List, [], ◌∷◌, length, leb}
use Rattle.cache.specs.places.Code.{put_unit, put_text}
use Rattle.cache.specs.places.Layout.{flag_unit, blank, count_unit, mark_units, room_units}
use Rattle.unc.specs.names.Paths.{Target}
use Rattle.cache.specs.order.Memory.{settings_units}
use Rattle.reply_read.specs.declared.referral.Kept.{Kept}

-- text n, as the last of its place
unfoldable pub add_text : ℕ → List ℕ → List ℕ → List ℕ
add_text n t piece = put_unit count_unit n (put_text n t piece)

-- target n, with its boundary
unfoldable pub add_target : ℕ → Target → List ℕ → List ℕ
add_target n t piece = put_unit (mark_units + n) (flag_unit t.opens) (add_text (1 + n) t.path piece)

-- DC n
unfoldable pub add_dc : ℕ → List ℕ → List ℕ → List ℕ
add_dc n name piece = add_text (1 + n) name piece

-- targets (or DCs), the first as number n
unfoldable pub add_all : {A : Type 0} → (ℕ → A → List ℕ → List ℕ) → ℕ → List A → List ℕ → List ℕ
add_all add n [] piece = piece
add_all add n (a ∷ l) piece = add_all add (n + 1) l (add n a piece)

-- a kept target lies inside the reply and fits its room
unfoldable pub kept_fits : List ℕ → Kept → Bool
kept_fits r k = leb (k.path.from + 2 * k.path.units) (length r) && leb k.path.units room_units

-- a place with a key alone
unfoldable pub begun : List ℕ → List ℕ → List ℕ
begun key piece = add_text 0 key blank

-- root, Interlink, TargetFailback, TTL and the time taken
unfoldable pub settings : Bool → Bool → Bool → ℕ → ℕ → List ℕ
settings root interlink failback ttl taken =
    settings_units (record { root = root; interlink = interlink; failback = failback; ttl = ttl; taken = taken })
