-- The moves of a call that is taken, and what ties them to what it leaves.
use mathlib.Core.Path.{◌≡◌, refl, sym, ap, ◌∙◌, subst}
use mathlib.Core.List.{List, [], ◌++◌, append-nil}
use Prim.Native.Nat.{ℕ}
use Rattle.std.specs.Prelude.{Ok}
use Rattle.cache.specs.order.Memory.{referrals, domains, encode}
use Rattle.walk_steps.specs.steps.Steps.{Core, Called, Turn, ended}
use Rattle.walk_steps.specs.declared.steps.End.TheVariants.{LimitReached}
use Rattle.walk_calls.specs.calls.Calls.{Answered}
use Rattle.theorems.specs.limit.Unlimited.{Move, Made, made_in, Opening, opens, Unlimited, rests_at, last_move, Makes, path_after}
use Rattle.theorems.specs.limit.Calls.{observed, Moved, no_move, to_rest, to_limit}
use Rattle.theorems.proofs.limit.Cores.{made_path, made_size}

-- the replacements from the turn of its event, and the question put where one waits; the caches left are those of the turn
pub record Way (clock : ℕ) (boot : List ℕ) (o : Answered) (p : Opening) (ms : List Made) : Type 0 where
  pub turn : Turn
  pub opened : p ≡ opens turn
  pub replacements : List Move
  pub called : Called
  pub made : Makes turn.caches clock turn.core turn.called replacements (observed o).core called
  pub list : ms ≡ made_in turn.caches (replacements ++ last_move turn.caches boot (observed o).core (observed o).rest)
  pub refs_are : (observed o).refs ≡ encode referrals turn.caches.referrals
  pub doms_are : (observed o).doms ≡ encode domains turn.caches.domains

pub way : {l clock : ℕ} {boot : List ℕ} {n : ℕ} {o : Answered} {p : Opening} {ms : List Made} → Moved l clock boot n o p ms → o.left.verdict ≡ Ok tt → Way clock boot o p ms
unfolding rests_at last_move
way (no_move a) v = absurd (a v)
way {clock = clock} {boot = boot} {o = o} (to_rest {t = t} {w = w} {r = r} x u f) v =
    let ew : w ≡ (observed o).core = sym (ap (λ (y : Unlimited). y.core) f) in
    let er : r ≡ (observed o).rest = sym (ap (λ (y : Unlimited). y.rest) f) in
    record {
      turn = t;
      opened = refl;
      replacements = x.replacements;
      called = x.called;
      made = subst (λ (k : Core). Makes t.caches clock t.core t.called x.replacements k x.called) ew x.made;
      list = ap (made_in t.caches) (x.moves ∙ (λ j. x.replacements ++ last_move t.caches boot (ew j) (er j)));
      refs_are = ap (λ (y : Unlimited). y.refs) f;
      doms_are = ap (λ (y : Unlimited). y.doms) f;
    }
way {clock = clock} {boot = boot} {o = o} (to_limit {t = t} {ms = ms} {w = w} x c u f) v =
    let ew : w ≡ (observed o).core = sym (ap (λ (y : Unlimited). y.core) f) in
    let er : ended LimitReached 0 [] ≡ (observed o).rest = sym (ap (λ (y : Unlimited). y.rest) f) in
    record {
      turn = t;
      opened = refl;
      replacements = ms;
      called = x.called;
      made = subst (λ (k : Core). Makes t.caches clock t.core t.called ms k x.called) ew x.made;
      list = ap (made_in t.caches) (sym (append-nil ms) ∙ (λ j. ms ++ last_move t.caches boot (ew j) (er j)));
      refs_are = ap (λ (y : Unlimited). y.refs) f;
      doms_are = ap (λ (y : Unlimited). y.doms) f;
    }

-- the path and the size that it leaves
module _ {clock : ℕ} {boot : List ℕ} {o : Answered} {p : Opening} {ms : List Made} (z : Way clock boot o p ms) where
  pub path_moved_lem : (observed o).core.path ≡ path_after z.turn.core.path ms
  path_moved_lem = made_path boot (observed o).rest z.made ∙ ap (path_after z.turn.core.path) (sym z.list)

  pub size_moved : (observed o).core.size ≡ z.turn.core.size
  size_moved = made_size z.made
