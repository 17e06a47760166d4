-- Shapes of the code, proved equal to the rules; nothing here is to be believed.
use Rattle.std.specs.Prelude.{ℕ, zero, suc, List, [], ◌∷◌}
use Rattle.unc.specs.declared.names.PathError.{PathError}
use Rattle.unc.specs.declared.names.PathError.TheVariants.{Bad, Long}
use Rattle.cache.specs.order.Entries.{Referral, Place}
use Rattle.cache_lookup.specs.Lookup.{on_entry}
use Rattle.cache_upkeep.specs.Calls.{expire_entry}
use Rattle.cache_upkeep.specs.declared.UpkeepError.{UpkeepError}
use Rattle.cache_upkeep.specs.declared.UpkeepError.TheVariants.{BadPath, LongPath}

-- the refusal of a path without a form
unfoldable pub formless : PathError → UpkeepError
formless Bad = BadPath
formless Long = LongPath

-- the first n places expired: what the loop over the places has left
unfoldable pub expired_to : ℕ → List (Place Referral) → List (Place Referral)
expired_to zero ps = ps
expired_to (suc n) [] = []
expired_to (suc n) (p ∷ ps) = on_entry expire_entry p ∷ expired_to n ps
