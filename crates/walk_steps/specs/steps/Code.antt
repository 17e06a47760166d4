-- Shapes of the code, proved equal to the rules; nothing here is to be believed.
use Rattle.std.specs.Prelude.{ℕ, ◌-◌, Bool, false, List, [], length, take, eqb, Option, Some, None}
use Rattle.laws.specs.Choice.{choose}
use Rattle.unc.specs.names.Paths.{first_of}
use Rattle.cache.specs.order.Memory.{referrals, decode}
use Rattle.cache_lookup.specs.Lookup.{with_key}
use Rattle.cache_lookup.specs.Code.{entry_at}
use Rattle.walk_steps.specs.steps.Steps.{Core, Called, stops, asks, Resting}
use Rattle.walk_steps.specs.declared.steps.Kind.{Kind}
use Rattle.walk_steps.specs.declared.steps.End.{End}
use Rattle.walk_steps.specs.declared.steps.End.TheVariants.{LimitReached}
use Rattle.walk_steps.specs.declared.steps.Asking.{Asking}
use Rattle.walk_steps.specs.declared.steps.Next.{Next}
use Rattle.walk_steps.specs.declared.steps.Next.TheVariants.{Asks, Ends}
use Rattle.walk_steps.specs.declared.steps.Progress.{Progress}
use Rattle.walk_steps.specs.declared.steps.Rested.{Rested}
use Rattle.walk_steps.specs.steps.Held.{core_of, next_of, tried_of, question_of}

-- a rest as numbers, the texts by their lengths
unfoldable pub rested_of : Resting → Rested
rested_of x = record {
  next = next_of x.rest;
  path = length x.core.path;
  tried = length (tried_of x.rest);
  left = x.left;
  hit = x.core.hit;
}

-- an end, and a question put if a move is left
unfoldable pub ended_at : End → ℕ → ℕ → ℕ → Bool → Rested
ended_at e status path left hit = record { next = Ends e status; path = path; tried = 0; left = left; hit = hit }

unfoldable pub asked_at : Asking → ℕ → ℕ → Bool → Rested
asked_at q path left hit =
    choose (eqb left 0) (ended_at LimitReached 0 path left hit) (record { next = Asks q; path = path; tried = 0; left = left - 1; hit = hit })

-- where the steps rest at a next move that tries no path
unfoldable pub rested_at : Next → ℕ → ℕ → Bool → Rested
rested_at (Asks q) path left hit = asked_at q path left hit
rested_at (Ends e status) path left hit = ended_at e status path left hit

-- what a next move is, called for
unfoldable pub called_of : Next → Called
called_of (Asks q) = asks (question_of q [])
called_of (Ends e status) = stops e status []

-- what the steps use of a walk whose path stands in its room
abbrev pub core_at : Progress → List ℕ → Core
core_at g texts = core_of (take g.len texts) g.size g.hit

-- a request that names the domain of the path's first component
unfoldable pub domain_asking : Kind → List ℕ → ℕ → ℕ → Asking
domain_asking kind path party size =
    record { kind = kind; entry = length (first_of 1 path); party = party; began = party; size = size; uncovered = false }

-- the root entry that step 9 asks
unfoldable pub root_at : List ℕ → Option ℕ → Option ℕ
root_at raw None = None
root_at raw (Some i) = choose (entry_at referrals i raw).settings.root (Some i) None

unfoldable pub root_in : List ℕ → List ℕ → Option ℕ
root_in path raw = root_at raw (with_key referrals (first_of 2 path) (decode referrals raw))
