-- The steps with so many moves left against the steps without a limit.
use mathlib.Core.Path.{◌≡◌, refl, ap, ◌∙◌}
use mathlib.Core.Bool.{true, false}
use mathlib.Core.List.{List, [], ◌∷◌}
use mathlib.Core.Logic.{◌⊎◌, inl, inr}
use Prim.Native.Nat.{ℕ, zero, suc, ◌+◌, ◌-◌, ◌≤◌}
use native.Mathlib.Omega.{arith}
use lib.ListN.{length}
use lib.Dec.{leb}
use borrow.Author.Tests.{leb-true, leb-false}
use Rattle.laws.proofs.Choices.{choose_yes, choose_no}
use Rattle.laws.proofs.Orders.{told}
use Rattle.unc.specs.names.Paths.{path_units}
use Rattle.walk_steps.specs.steps.Steps.{Caches, Core, Question, Called, stops, asks, replaces, Rest, waits, ended, rests, asking, goes, with_path, with_hit, hit_at, step2}
use Rattle.walk_steps.specs.declared.steps.End.{End}
use Rattle.walk_steps.specs.declared.steps.End.TheVariants.{LimitReached, TooLong}
use Rattle.theorems.specs.limit.Unlimited.{Move, replacement, Makes, here, goes_on, Halts, at_end, is_put, try_long, path_long, last_move, calls_one}

-- the walk after a replacement
abbrev moved : Caches → Core → List ℕ → Core
moved c w p = with_hit (hit_at c (with_path p w)) (with_path p w)

-- with n moves left the steps come to rest as they do without a limit, or are cut where one more move is called for
pub record ToRest (c : Caches) (clock : ℕ) (boot : List ℕ) (n : ℕ) (w : Core) (a : Called) : Type 0 where
  pub replacements : List Move
  pub core : Core
  pub called : Called
  pub rest : Rest
  pub made : Makes c clock w a replacements core called
  pub halts : Halts called rest
  pub few : length replacements + calls_one called ≤ n
  pub put : length (last_move c boot core rest) ≤ calls_one called
  pub is : goes n c clock w a ≡ rests core (n - (length replacements + length (last_move c boot core rest))) rest

pub record Cut (c : Caches) (clock n : ℕ) (w : Core) (a : Called) : Type 0 where
  pub replacements : List Move
  pub core : Core
  pub called : Called
  pub made : Makes c clock w a replacements core called
  pub move : calls_one called ≡ 1
  pub long : length replacements ≡ n
  pub is : goes n c clock w a ≡ rests core 0 (ended LimitReached 0 [])

minus_none : (n : ℕ) → n ≡ n - (0 + 0)
minus_none n = omega arith

minus_one : (n : ℕ) → n ≡ suc n - (0 + 1)
minus_one n = omega arith

module _ (c : Caches) (clock : ℕ) (boot : List ℕ) where
  at_stop : (n : ℕ) (w : Core) (e : End) (status : ℕ) (tried : List ℕ) → goes n c clock w (stops e status tried) ≡ rests w n (ended e status tried)
      → ToRest c clock boot n w (stops e status tried)
  unfolding calls_one last_move
  at_stop n w e status tried h = record {
    replacements = [];
    core = w;
    called = stops e status tried;
    rest = ended e status tried;
    made = here;
    halts = at_end;
    few = omega arith;
    put = omega arith;
    is = h ∙ ap (λ (k : ℕ). rests w k (ended e status tried)) (minus_none n);
  }

  at_question : (n : ℕ) (w : Core) (q : Question) → ToRest c clock boot (suc n) w (asks q)
  unfolding calls_one last_move goes asking
  at_question n w q = go (told (leb (length q.tried) path_units))
    where
      go : (leb (length q.tried) path_units ≡ true) ⊎ (leb (length q.tried) path_units ≡ false) → ToRest c clock boot (suc n) w (asks q)
      go (inl t) = record {
        replacements = [];
        core = w;
        called = asks q;
        rest = waits q;
        made = here;
        halts = is_put (leb-true _ _ t);
        few = omega arith;
        put = omega arith;
        is = choose_yes _ _ t ∙ ap (λ (k : ℕ). rests w k (waits q)) (minus_one n);
      }
      go (inr t) = record {
        replacements = [];
        core = w;
        called = asks q;
        rest = ended TooLong 0 [];
        made = here;
        halts = try_long (leb-false _ _ t);
        few = omega arith;
        put = omega arith;
        is = choose_no _ _ t ∙ ap (λ (k : ℕ). rests w k (ended TooLong 0 [])) (minus_none (suc n));
      }

  further : (n : ℕ) (w : Core) (p : List ℕ) → leb (length p) path_units ≡ true
      → ToRest c clock boot n (moved c w p) (step2 c (with_path p w) clock) ⊎ Cut c clock n (moved c w p) (step2 c (with_path p w) clock)
      → ToRest c clock boot (suc n) w (replaces p) ⊎ Cut c clock (suc n) w (replaces p)
  unfolding goes
  further n w p t (inl x) = inl (record {
    replacements = replacement p ∷ x.replacements;
    core = x.core;
    called = x.called;
    rest = x.rest;
    made = goes_on (leb-true _ _ t) x.made;
    halts = x.halts;
    few = omega (arith, x.few);
    put = x.put;
    is =
        choose_yes _ _ t
        ∙ (x.is
        ∙ ap (λ (k : ℕ). rests x.core k x.rest)
        (let z : n - (length x.replacements + length (last_move c boot x.core x.rest)) ≡ suc n - (suc (length x.replacements) + length (last_move c boot x.core x.rest)) = omega arith in z));
  })
  further n w p t (inr x) = inr (record {
    replacements = replacement p ∷ x.replacements;
    core = x.core;
    called = x.called;
    made = goes_on (leb-true _ _ t) x.made;
    move = x.move;
    long = ap suc x.long;
    is = choose_yes _ _ t ∙ x.is;
  })

  too_long_lem : (n : ℕ) (w : Core) (p : List ℕ) → leb (length p) path_units ≡ false → ToRest c clock boot (suc n) w (replaces p)
  unfolding calls_one last_move goes
  too_long_lem n w p t = record {
    replacements = [];
    core = w;
    called = replaces p;
    rest = ended TooLong 0 [];
    made = here;
    halts = path_long (leb-false _ _ t);
    few = omega arith;
    put = omega arith;
    is = choose_no _ _ t ∙ ap (λ (k : ℕ). rests w k (ended TooLong 0 [])) (minus_none (suc n));
  }

  pub rests_or_cut : (n : ℕ) (w : Core) (a : Called) → ToRest c clock boot n w a ⊎ Cut c clock n w a
  unfolding calls_one goes asking
  rests_or_cut zero w (stops e status tried) = inl (at_stop zero w e status tried refl)
  rests_or_cut zero w (asks q) = inr (record { replacements = []; core = w; called = asks q; made = here; move = refl; long = refl; is = refl })
  rests_or_cut zero w (replaces p) = inr (record { replacements = []; core = w; called = replaces p; made = here; move = refl; long = refl; is = refl })
  rests_or_cut (suc n) w (stops e status tried) = inl (at_stop (suc n) w e status tried refl)
  rests_or_cut (suc n) w (asks q) = inl (at_question n w q)
  rests_or_cut (suc n) w (replaces p) = go (told (leb (length p) path_units)) (rests_or_cut n (moved c w p) (step2 c (with_path p w) clock))
    where
      go : (leb (length p) path_units ≡ true) ⊎ (leb (length p) path_units ≡ false)
          → ToRest c clock boot n (moved c w p) (step2 c (with_path p w) clock) ⊎ Cut c clock n (moved c w p) (step2 c (with_path p w) clock)
          → ToRest c clock boot (suc n) w (replaces p) ⊎ Cut c clock (suc n) w (replaces p)
      go (inl t) x = further n w p t x
      go (inr t) x = inl (too_long_lem n w p t)
