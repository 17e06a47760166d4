-- The moves of the example `\a\b\c`, a fresh link `\a\b` with Interlink and target `\a\b`, limit 5, as an instance of demand 3's theorem.
use mathlib.Core.Path.{◌≡◌, refl, sym, ap, ◌∙◌, subst}
use mathlib.Core.Bool.{Bool, true, false, ◌&&◌}
use mathlib.Core.List.{List, [], ◌∷◌}
use Prim.Native.Nat.{ℕ}
use native.Mathlib.Omega.{arith}
use lib.ListN.{length, replicate, length-replicate}
use lib.Dec.{eqb, leb}
use borrow.Author.Tests.{eq-eqb}
use Rattle.laws.specs.Choice.{choose}
use Rattle.laws.proofs.Choices.{choose_yes}
use Rattle.laws.specs.Lists.{every}
use Rattle.unc.specs.names.Names.{folded, same_unit, same_name, good_name, good_component, nothing_or_dots, plain}
use Rattle.unc.specs.names.Paths.{before, pieces, components, component_count, begins, matches, is_sysvol, replaced, path_units, normalised, normalised_count, is_normalised, good_path, leads, body, without_trail}
use Rattle.cache.specs.order.Memory.{referrals, domains, encode, good_cache, good_place, keys}
use Rattle.cache.specs.order.Order.{good_prefix, good_target, good_referral, first_opens_none, distinct}
use Rattle.cache_lookup.specs.Lookup.{longer_match, prefix_units, longest_from, longest_match, age, expired, target_path}
use Rattle.cache_store.specs.entry_after_reply.Stored.{held_at, held}
use Rattle.walk_steps.specs.steps.Steps.{Caches, Core, Called, replaces, Turn, started, from_step2, with_hit, with_path, step2, step2_with, step4, step7, step11, longest, hit_at, is_there}
use Rattle.walk_steps.specs.steps.Held.{caches_of, core_of}
use Rattle.cache_store.specs.domain_cache.Domains.{good_size}
use Rattle.theorems.specs.keeps.Code.{GoodCaches}
use Rattle.theorems.proofs.keeps.BackLaws.{caches_back, caches_order}
use Rattle.theorems.specs.limit.Unlimited.{Move, replacement, Makes, here, goes_on, calls_one, CallsForMore, CallsFor, opens, made_in}
use Rattle.theorems.specs.limit.Calls.{start, start_opening, to_start, clock_of}
use Rattle.theorems.specs.limit.Limits.{MovesOf}
use Rattle.theorems.proofs.limit.CallLaws.{started_caches}
use Rattle.theorems.proofs.limit.Along.{none_earlier}
use Rattle.theorems.proofs.limit.Theorem.{limit_only_cuts}
use Rattle.theorems.specs.examples.Examples.{memory, begin, abc, interlinked}

abbrev core : Bool → Core
core hit = record { path = abc; size = 8192; hit = hit }

-- five replacements of the path by itself
again : {ms : List Move} {v : Core} {a : Called} → Makes interlinked 0 (core true) (replaces abc) ms v a → Makes interlinked 0 (core true) (replaces abc) (replacement abc ∷ ms) v a
unfolding step2 step2_with longest held held_at longest_match longest_from longer_match prefix_units matches begins pieces before same_name same_unit folded choose expired age step7 step4 is_sysvol components component_count step11 replaced target_path hit_at is_there with_hit with_path
again m = goes_on {p = abc} (omega arith) m

abbrev pub fives : List Move
fives = replacement abc ∷ replacement abc ∷ replacement abc ∷ replacement abc ∷ replacement abc ∷ []

first : record { caches = interlinked; core = core true; called = replaces abc } ≡ started interlinked (core false) 0
unfolding started from_step2 step2 step2_with longest held held_at longest_match longest_from longer_match prefix_units matches begins pieces before same_name same_unit folded choose expired age step7 step4 is_sysvol components component_count step11 replaced target_path hit_at is_there with_hit with_path
first = refl

calls_more : CallsForMore (started interlinked (core false) 0) 0 fives (core true)
unfolding calls_one
calls_more =
    subst (λ (t : Turn). CallsForMore t 0 fives (core true)) first
    (record { called = replaces abc; made = again (again (again (again (again here)))); move = refl })

-- the caches are good, so that the memory that they write is in order and holds them
good : GoodCaches interlinked
unfolding good_cache good_place keys distinct good_referral good_prefix good_target first_opens_none normalised_count is_normalised good_path component_count components pieces before leads body without_trail good_component nothing_or_dots plain every choose
good = record { refs = refl; doms = refl }

blank : (n : ℕ) → eqb (length (replicate {A = ℕ} n 0)) n ≡ true
blank n = eq-eqb _ n (length-replicate {A = ℕ} n 0)

caches_are : caches_of (encode referrals interlinked.referrals) (encode domains interlinked.domains) ≡ interlinked
caches_are = caches_back interlinked good

path_good_lem : good_path abc ≡ true
unfolding good_path pieces before leads body without_trail good_component nothing_or_dots plain every choose
path_good_lem = refl

normal : normalised abc ≡ abc
unfolding normalised leads body without_trail choose
normal = refl

path_short : leb (length (normalised abc)) path_units ≡ true
path_short = ap (λ (p : List ℕ). leb (length p) path_units) normal

settings_good : (good_size 8192 && good_name (100 ∷ 99 ∷ 49 ∷ [])) ≡ true
unfolding good_size good_name good_component nothing_or_dots plain every
settings_good = refl

abbrev pub turn : Turn
turn = started (caches_of (encode referrals interlinked.referrals) (encode domains interlinked.domains)) (core false) 0

opening : start_opening (memory interlinked) (begin abc) ≡ opens turn
unfolding start_opening memory begin
opening =
    choose_yes _ _ (caches_order interlinked good)
    ∙ (choose_yes _ _ path_good_lem
    ∙ (choose_yes _ _ path_short
    ∙ (choose_yes _ _ settings_good
    ∙ (choose_yes _ _ (blank 768)
    ∙ ap (λ (p : List ℕ). opens (started (caches_of (encode referrals interlinked.referrals) (encode domains interlinked.domains)) (core_of p 8192 false) 0)) normal))))

calls : CallsFor (start_opening (memory interlinked) (begin abc)) 0 0 6
calls = record {
  turn = turn;
  opening = opening;
  moves = fives;
  core = core true;
  more = subst (λ (c : Caches). CallsForMore (started c (core false) 0) 0 fives (core true)) (sym caches_are) calls_more;
  number = refl;
}

turn_is : turn.caches ≡ interlinked
turn_is = started_caches _ _ _ ∙ caches_are

pub five_moves : MovesOf 5 (memory interlinked) (begin abc) start (made_in interlinked fives)
unfolding clock_of calls begin
five_moves =
    subst (λ (c : Caches). MovesOf 5 (memory interlinked) (begin abc) start (made_in c fives)) turn_is
    ((limit_only_cuts (memory interlinked) (begin abc) 5 5 (omega arith) (omega arith) (omega arith)).then_cut start to_start none_earlier calls).1.1
