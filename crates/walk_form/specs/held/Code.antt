-- Shapes of the code, proved equal to the rules; nothing here is to be believed.
-- Words of the tests that the test of form is made of.
use Rattle.std.specs.Prelude.{ℕ, ◌+◌, ◌-◌, Bool, ◌&&◌, not, List, leb}
use Rattle.laws.specs.Lists.{part}
use Rattle.cache.specs.places.Code.{zeros}
use Rattle.cache_store.specs.domain_cache.Domains.{good_size}
use Rattle.walk_steps.specs.declared.steps.End.{End}
use Rattle.walk_steps.specs.declared.steps.Asking.{Asking}
use Rattle.walk_steps.specs.declared.steps.Next.TheVariants.{Asks, Ends}
use Rattle.walk_form.specs.held.Walks.{next_in_form}

-- a good size, and not of PATH_NOT_COVERED
unfoldable pub plain_size : Asking → Bool
plain_size q = good_size q.size && not q.uncovered

-- the two cases of the next move
unfoldable pub asking_form : List ℕ → List ℕ → Asking → Bool
asking_form path tried q = next_in_form path tried (Asks q)

unfoldable pub end_form : List ℕ → List ℕ → End → ℕ → Bool
end_form path tried e status = next_in_form path tried (Ends e status)

-- a text of so many units fits its room at a place of the texts, and zeros stand past it
unfoldable pub room_form : ℕ → ℕ → List ℕ → Bool
room_form at units texts = leb units 256 && zeros (part (at + units) (256 - units) texts)

unfoldable pub rooms_form : ℕ → ℕ → ℕ → List ℕ → Bool
rooms_form path tried boot texts = room_form 0 path texts && (room_form 256 tried texts && room_form 512 boot texts)
