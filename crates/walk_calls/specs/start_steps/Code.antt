-- Shapes of the code, proved equal to the rules; nothing here is to be believed.
-- Words of the functions that a start is made of.
use Rattle.std.specs.Prelude.{ℕ, ◌≤◌, ◌≡◌, true, false, eqb, List, ◌++◌, length, take, replicate, Err}
use Rattle.laws.specs.Choice.{choose}
use Rattle.unc.specs.names.Paths.{is_normalised, component_count}
use Rattle.unc.specs.names.Code.{room_after}
use Rattle.walk_steps.specs.walk_texts.Code.{Standing}
use Rattle.cache.specs.order.Memory.{referrals, in_order}
use Rattle.walk_steps.specs.steps.Steps.{started, turned}
use Rattle.walk_steps.specs.steps.Held.{caches_of, core_of}
use Rattle.walk_steps.specs.cycle.Code.{packed}
use Rattle.walk_form.specs.held.Walks.{good_settings}
use Rattle.walk_form.specs.declared.held.Walk.{Walk}
use Rattle.walk_calls.specs.call_end.Closing.{Left, refused, closes}
use Rattle.walk_calls.specs.declared.call_end.Refusal.TheVariants.{BadSettings, OutOfForm}

-- the rooms after a path was put: the path alone, or as they were but for the path tried
unfoldable pub path_rooms : List ℕ → List ℕ → List ℕ
path_rooms path rooms = room_after path (take 256 rooms) ++ replicate 256 0

-- a path of n units and k components stands in its room, and the referral cache is in order
pub record Begun (refs rooms : List ℕ) (n k : ℕ) : Type 0 where
  pub order : in_order referrals refs ≡ true
  pub standing : Standing n rooms
  pub normal : is_normalised (take n rooms) ≡ true
  pub count : k ≡ component_count (take n rooms)
  pub some : 1 ≤ k

-- a start with a good path, normalised, over caches in order
unfoldable pub start_at : List ℕ → List ℕ → List ℕ → Walk → List ℕ → List ℕ → ℕ → ℕ → ℕ → List ℕ → Left
start_at refs doms texts walk path boot limit size clock out =
    choose (good_settings limit size boot)
    (choose (eqb (length texts) 768)
    (closes limit boot (turned limit clock (started (caches_of refs doms) (core_of path size false) clock)) walk texts out)
    (refused (Err OutOfForm) walk texts out))
    (refused (Err BadSettings) walk texts out)

-- the rooms after it: those of the first rest, or as they were where it is refused before
unfoldable pub start_rooms : List ℕ → List ℕ → List ℕ → List ℕ → List ℕ → ℕ → ℕ → ℕ → List ℕ → List ℕ
start_rooms refs doms texts path boot limit size clock rooms =
    choose (good_settings limit size boot)
    (choose (eqb (length texts) 768)
    (packed (turned limit clock (started (caches_of refs doms) (core_of path size false) clock))).texts
    rooms)
    rooms
