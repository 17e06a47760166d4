-- Where the steps rest after an event is proper.
use mathlib.Core.Path.{◌≡◌, refl, sym, subst}
use mathlib.Core.Bool.{true, false, ◌&&◌}
use mathlib.Core.List.{List, []}
use mathlib.Core.Logic.{◌⊎◌, inl, inr}
use Prim.Native.Nat.{ℕ, zero, suc, ◌≤◌}
use native.Mathlib.Omega.{arith}
use lib.ListN.{length}
use lib.Dec.{leb}
use borrow.Author.Tests.{le-leb, leb-true}
use Rattle.laws.specs.Choice.{choose}
use Rattle.laws.proofs.Choices.{choose_yes, choose_no, and_both}
use Rattle.laws.proofs.Orders.{told}
use Rattle.unc.specs.names.Paths.{normalised_count, path_units}
use Rattle.cache.specs.order.Order.{good_prefix}
use Rattle.cache.proofs.order.KindLaws.{prefix_short}
use Rattle.cache.specs.order.Memory.{referrals, good_cache}
use Rattle.cache_store.specs.domain_cache.Domains.{good_size}
use Rattle.walk_steps.specs.steps.Steps.{Caches, Core, Question, Called, stops, asks, replaces, Turn, Resting, waits, ended, rests, asking, goes, turned, hit_at, with_hit, with_path, step2}
use Rattle.walk_steps.specs.steps.Held.{asking_of, next_of, tried_of}
use Rattle.walk_steps.specs.declared.steps.End.{End}
use Rattle.walk_steps.specs.declared.steps.End.TheVariants.{LimitReached, TooLong}
use Rattle.walk_store.proofs.after_reply.RestLaws.{Kept, kept_goes}
use Rattle.walk_form.specs.held.Walks.{end_tried, good_tried, end_status, next_in_form}
use Rattle.theorems.specs.keeps.Code.{GoodCaches, Proper}
use Rattle.theorems.proofs.keeps.CalledLaws.{Asked, Well, well_step2}

-- an event leaves good caches, and calls for what is in form
pub record GoodTurn (t : Turn) : Type 0 where
  pub caches : GoodCaches t.caches
  pub path : good_prefix t.core.path ≡ true
  pub size : good_size t.core.size ≡ true
  pub called : Well t.core.path t.called

-- of a rest with so many moves left
abbrev pub ProperAt : Resting → Type 0
ProperAt x = Proper x.core x.rest

module _ (w : Core) (size : good_size w.size ≡ true) where
  -- an end
  pub proper_end : (n : ℕ) (e : End) (status : ℕ) (tried : List ℕ) → 1 ≤ normalised_count w.path → (good_tried (end_tried e) tried && end_status e status) ≡ true
      → ProperAt (rests w n (ended e status tried))
  unfolding rests next_in_form next_of tried_of
  proper_end n e status tried c h = record { size = size; next = and_both (le-leb 1 (normalised_count w.path) c) h }

  module _ (good : good_prefix w.path ≡ true) where
    count : 2 ≤ normalised_count w.path
    unfolding good_prefix
    count = leb-true 2 (normalised_count w.path) good

    proper_limit : (n : ℕ) → ProperAt (rests w n (ended LimitReached 0 []))
    unfolding good_tried end_tried end_status
    proper_limit n = proper_end n LimitReached 0 [] (omega (arith, count)) refl

    proper_long : (n : ℕ) → ProperAt (rests w n (ended TooLong 0 []))
    unfolding good_tried end_tried end_status
    proper_long n = proper_end n TooLong 0 [] (omega (arith, count)) refl

    -- a question
    proper_waits : (n : ℕ) (q : Question) → Asked w.path q → length q.tried ≤ 256 → ProperAt (rests w n (waits q))
    unfolding rests next_in_form next_of tried_of asking_of good_prefix
    proper_waits n q a l = record { size = size; next = and_both good (and_both (a.tried l) a.form) }

    proper_asking : (n : ℕ) (q : Question) → Asked w.path q → ProperAt (asking n w q)
    unfolding asking
    proper_asking zero q a = proper_limit zero
    proper_asking (suc n) q a = go (told (leb (length q.tried) path_units))
      where
        go : (leb (length q.tried) path_units ≡ true) ⊎ (leb (length q.tried) path_units ≡ false)
            → ProperAt (choose (leb (length q.tried) path_units) (rests w n (waits q)) (rests w (suc n) (ended TooLong 0 [])))
        go (inl t) = subst (λ (x : Resting). Proper x.core x.rest) (sym (choose_yes _ _ t)) (proper_waits n q a (leb-true _ _ t))
        go (inr t) = subst (λ (x : Resting). Proper x.core x.rest) (sym (choose_no _ _ t)) (proper_long (suc n))

-- where the steps rest from what is called for
pub proper_goes : (n : ℕ) (c : Caches) (clock : ℕ) (w : Core) (a : Called) → good_cache referrals c.referrals ≡ true → good_size w.size ≡ true → good_prefix w.path ≡ true
    → Well w.path a → ProperAt (goes n c clock w a)
unfolding goes Well with_hit with_path good_prefix
proper_goes zero c clock w (stops e status tried) order size good h = proper_end w size zero e status tried (omega (arith, count w size good)) h
proper_goes zero c clock w (asks q) order size good h = proper_asking w size good zero q h
proper_goes zero c clock w (replaces p) order size good h = proper_limit w size good zero
proper_goes (suc n) c clock w (stops e status tried) order size good h = proper_end w size (suc n) e status tried (omega (arith, count w size good)) h
proper_goes (suc n) c clock w (asks q) order size good h = proper_asking w size good (suc n) q h
proper_goes (suc n) c clock w (replaces p) order size good h =
    go (told (leb (length p) path_units)) (proper_goes n c clock (with_hit (hit_at c (with_path p w)) (with_path p w)) (step2 c (with_path p w) clock) order size)
  where
    go : (leb (length p) path_units ≡ true) ⊎ (leb (length p) path_units ≡ false)
        → (good_prefix p ≡ true → Well p (step2 c (with_path p w) clock) → ProperAt (goes n c clock (with_hit (hit_at c (with_path p w)) (with_path p w)) (step2 c (with_path p w) clock)))
        → ProperAt (choose (leb (length p) path_units) (goes n c clock (with_hit (hit_at c (with_path p w)) (with_path p w)) (step2 c (with_path p w) clock)) (rests w (suc n) (ended TooLong 0 [])))
    go (inl t) f =
        let g : good_prefix p ≡ true = h (leb-true _ _ t) in
        subst (λ (x : Resting). Proper x.core x.rest) (sym (choose_yes _ _ t)) (f g (well_step2 (with_path p w) g size c order clock))
    go (inr t) f = subst (λ (x : Resting). Proper x.core x.rest) (sym (choose_no _ _ t)) (proper_long w size good (suc n))

-- after an event
pub turned_proper : (n clock : ℕ) (t : Turn) → GoodTurn t → Proper (turned n clock t).core (turned n clock t).rest
unfolding turned
turned_proper n clock t g = proper_goes n t.caches clock t.core t.called g.caches.refs g.size g.path g.called

-- and the size given stays, and the moves left are no more
pub turned_kept : (n clock : ℕ) (t : Turn) → GoodTurn t → Kept n t.core (turned n clock t)
unfolding turned
turned_kept n clock t g = kept_goes n t.caches clock t.core t.called (prefix_short t.core.path g.path)
