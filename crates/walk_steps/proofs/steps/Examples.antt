-- Document 01, "Examples to hold it to": those of the steps.
use mathlib.Core.Path.{◌≡◌, refl}
use mathlib.Core.Bool.{true, false}
use mathlib.Core.List.{List, [], ◌∷◌}
use Prim.Native.Nat.{ℕ}
use Rattle.laws.specs.Choice.{choose}
use Rattle.unc.specs.names.Names.{folded, same_unit, same_name}
use Rattle.unc.specs.names.Paths.{before, pieces, components, component_count, begins, matches, is_sysvol, replaced}
use Rattle.cache.specs.order.Entries.{free, used}
use Rattle.cache_lookup.specs.Lookup.{longer_match, prefix_units, longest_from, longest_match, age, expired, target_path}
use Rattle.cache_store.specs.entry_after_reply.Stored.{held_at, held}
use Rattle.walk_steps.specs.steps.Steps.{Caches, Core, Turn, Resting, ended, started, from_step2, with_hit, with_path, goes, step2, step2_with, step4, step7, step11, longest, hit_at, is_there, rests, asking}
use Rattle.walk_steps.specs.declared.steps.End.TheVariants.{NotDfs, LimitReached}

-- \a\b, and \a\b\c
abbrev ab : List ℕ
ab = 92 ∷ 97 ∷ 92 ∷ 98 ∷ []

abbrev abc : List ℕ
abc = 92 ∷ 97 ∷ 92 ∷ 98 ∷ 92 ∷ 99 ∷ []

-- a fresh link \a\b with Interlink and target \a\b
abbrev turning : Caches
turning = record {
  referrals =
      used (record {
        prefix = ab;
        settings = record {
          root = false;
          interlink = true;
          failback = false;
          ttl = 300;
          taken = 0;
        };
        targets = record { path = ab; opens = false } ∷ [];
        hint = 0;
      })
      ∷ [];
  domains = free ∷ [];
}

abbrev walk : List ℕ → Core
walk path = record { path = path; size = 8192; hit = false }

-- where a walk with this limit comes to rest
abbrev walks : ℕ → Turn → Resting
walks limit t = goes limit t.caches 0 t.core t.called

-- limit 5: five moves, no question, end 24
pub turns_five_times : walks 5 (started turning (walk abc) 0) ≡ record { core = with_hit true (walk abc); left = 0; rest = ended LimitReached 0 [] }
unfolding started from_step2 goes rests asking step2 step2_with longest held held_at longest_match longest_from longer_match prefix_units matches begins pieces before same_name same_unit folded choose expired age step7 step4 is_sysvol components component_count step11 replaced target_path hit_at is_there with_hit with_path
turns_five_times = refl

-- \abc ends 21 with 0 moves
pub one_component : (walks 4 (started turning (walk (92 ∷ 97 ∷ 98 ∷ 99 ∷ [])) 0)).rest ≡ ended NotDfs 0 []
unfolding started goes rests component_count components pieces before choose
one_component = refl
