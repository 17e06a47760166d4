-- Shapes of the code, proved equal to the rules; nothing here is to be believed.
use Rattle.std.specs.Prelude.{ℕ, ◌≤◌, ◌≡◌, true, List, [], length, get_or, eqb, Option, Some}
use Rattle.laws.specs.Choice.{choose}
use Rattle.unc.specs.names.Paths.{components}
use Rattle.cache.specs.order.Order.{good_prefix}
use Rattle.cache.specs.order.Memory.{domains, decode}
use Rattle.walk_steps.specs.steps.Steps.{domain_named, is_in_use}
use Rattle.walk_steps.specs.steps.Held.{caches_of, core_of, question_of}
use Rattle.walk_steps.specs.declared.steps.Asking.{Asking}
use Rattle.walk_shown.specs.question.Shown.{dc_at_place}

-- the party of a root request: the host, or a DC of the path's domain
unfoldable pub root_party : ℕ → ℕ → List ℕ → List ℕ → Option (List ℕ)
root_party entry place path doms =
    choose (eqb entry 0) (Some (get_or (components path) 0 [])) (dc_at_place place (domain_named (get_or (components path) 0 []) (decode domains doms)))

-- a question whose entry in use is there, and the bootstrap DC
pub record Showable (refs doms path boot : List ℕ) (q : Asking) : Type 0 where
  pub good : good_prefix path ≡ true
  pub within : q.entry ≤ length path
  pub few : length boot ≤ 256
  pub there : is_in_use (caches_of refs doms) (core_of path 0 true) (question_of q []) ≡ true
