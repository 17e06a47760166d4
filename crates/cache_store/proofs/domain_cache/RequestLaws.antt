-- Laws of the request for domains.
use Rattle.std.specs.Prelude.{Option, Some, None}
use mathlib.Core.Path.{◌≡◌, refl, ap, ◌∙◌}
use mathlib.Core.Bool.{Bool, true, false}
use mathlib.Core.List.{[]}
use Prim.Native.Nat.{ℕ}
use lib.ListN.{length}
use lib.Dec.{leb}
use Rattle.laws.specs.Choice.{choose}
use Rattle.reply_read.specs.referral.Request.{request}
use Rattle.reply_read.specs.referral.Code.{asked}
use Rattle.cache_store.specs.domain_cache.Code.{asked_number}
use Rattle.cache_store.specs.domain_cache.Domains.{request_number}

-- the number of what is answered
pub asked_number_lem : (room : ℕ) {v : Option ℕ} → v ≡ asked room [] → asked_number v ≡ request_number room
unfolding asked_number request_number asked choose
asked_number_lem room e = ap asked_number e ∙ go (leb (length (request [])) room)
  where
    go : (b : Bool) → asked_number (choose b (Some (length (request []))) None) ≡ choose b 0 10
    go true = refl
    go false = refl
