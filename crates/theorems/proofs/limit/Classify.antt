-- One call of a walk with a limit against the same call of the unlimited walk, by what the call comes to.
use mathlib.Core.Path.{◌≡◌, refl, sym, ap, ◌∙◌, subst}
use mathlib.Core.Bool.{true, false}
use mathlib.Core.List.{List, [], ◌++◌}
use mathlib.Core.Logic.{◌⊎◌, inl, inr}
use Prim.Native.Nat.{ℕ, suc, ◌+◌, ◌-◌, ◌≤◌}
use native.Mathlib.Omega.{arith}
use lib.ListN.{length, length-append}
use Rattle.std.specs.Prelude.{Ok, Err}
use Rattle.laws.proofs.Orders.{told}
use Rattle.walk_steps.specs.steps.Steps.{Turn, ended, Resting, rests, turned}
use Rattle.walk_steps.specs.declared.steps.End.TheVariants.{LimitReached}
use Rattle.walk_steps.specs.question_request.Questions.{request_name, name_fits, rest_fits, with_request}
use Rattle.walk_form.specs.held.Walks.{in_form, boot_in}
use Rattle.walk_calls.specs.calls.Calls.{Answered}
use Rattle.walk_calls.specs.call_end.Closing.{Verdict}
use Rattle.walk_calls.specs.declared.call_end.Refusal.TheVariants.{ShortBuffer}
use Rattle.theorems.specs.limit.Unlimited.{Move, Opening, opens, refuses, made_in, rests_at, last_move, Rests, CallsForMore, Brings, number, comes, Call, short, taken, refused, CallsFor, Within, rests as within-rests}
use Rattle.theorems.specs.limit.Calls.{observed, Moved, no_move, to_rest, to_limit, Same, same_number, same_rest}
use Rattle.theorems.proofs.limit.Goes.{ToRest, Cut, rests_or_cut}
use Rattle.theorems.proofs.limit.Once.{behind}

-- the walk that a taken call leaves: in form, with the limit and the bootstrap DC that it was started with
pub record Fine (l : ℕ) (boot : List ℕ) (o : Answered) : Type 0 where
  pub form : in_form o.left.walk o.left.texts ≡ true
  pub limit : o.left.walk.limit ≡ l
  pub boot_is : boot_in o.left.walk o.left.texts ≡ boot
  pub few : o.left.walk.moves ≤ l

-- a call whose steps rest so is taken, or refused by 10
pub record Closed (l : ℕ) (boot out : List ℕ) (t : Turn) (x : Resting) (o : Answered) : Type 0 where
  pub fits : rest_fits (length out) x ≡ true → o.left.verdict ≡ Ok tt
  pub sees : rest_fits (length out) x ≡ true → observed o ≡ rests_at t.caches x.core x.rest (l - x.left)
  pub writes : rest_fits (length out) x ≡ true → o.left.out ≡ with_request (request_name x.core x.rest) out
  pub fine : rest_fits (length out) x ≡ true → Fine l boot o
  pub shut : rest_fits (length out) x ≡ false → o.left.verdict ≡ Err ShortBuffer

-- a call that comes to rest with l moves called for at most, and one that is cut
pub record Followed (l clock : ℕ) (boot out : List ℕ) (n : ℕ) (o : Answered) (p : Opening) : Type 0 where
  pub brings : Brings
  pub call : Call clock boot out n p brings
  pub same : Same l clock boot out n o p brings
  pub within : Within clock boot n l p
  pub fine : o.left.verdict ≡ Ok tt → Fine l boot o
  pub early : p ≡ refuses (Err ShortBuffer) → ⊥

pub record CutOff (l clock : ℕ) (boot out : List ℕ) (n : ℕ) (o : Answered) (p : Opening) : Type 0 where
  pub calls : CallsFor p clock n (suc l)
  pub is_taken : o.left.verdict ≡ Ok tt
  pub sees : observed o ≡ rests_at calls.turn.caches calls.core (ended LimitReached 0 []) l
  pub writes : o.left.out ≡ out
  pub moves : Moved l clock boot n o p (made_in calls.turn.caches calls.moves)
  pub fine : Fine l boot o

pub opens_same : {t u : Turn} → opens t ≡ opens u → t ≡ u
opens_same e = cc

pub short_not : {v : Verdict} → v ≡ Err ShortBuffer → v ≡ Ok tt → ⊥
short_not e f = let z : ◌≡◌ {A = ℕ} 0 1 = cc in omega arith

pub not_refused : {v : Verdict} (t : Turn) → opens t ≡ refuses v → ⊥
not_refused t e = let z : ◌≡◌ {A = ℕ} 0 1 = cc in omega arith

refused_same : {v w : Verdict} → refuses v ≡ refuses w → v ≡ w
refused_same e = cc

-- never both
pub never_both : {p : Opening} {clock : ℕ} {boot : List ℕ} {n l : ℕ} → Within clock boot n l p → CallsFor p clock n (suc l) → ⊥
never_both refused k = let z : ◌≡◌ {A = ℕ} 0 1 = cc k.opening in omega arith
never_both {clock = clock} (within-rests x few) k =
    let m = subst (λ (u : Turn). CallsForMore u clock k.moves k.core) (sym (opens_same k.opening)) k.more in
    let z = behind x.made x.halts m.made m.move in
    omega (arith, k.number)

module _ (l clock : ℕ) (boot out : List ℕ) (n : ℕ) (few : n ≤ l) (t : Turn) (o : Answered) (z : Closed l boot out t (turned (l - n) clock t) o) where
  module _ (x : ToRest t.caches clock boot (l - n) t.core t.called) where
    abbrev made : List Move
    made = x.replacements ++ last_move t.caches boot x.core x.rest

    abbrev way : Rests t clock boot made x.core x.rest
    way = record { replacements = x.replacements; called = x.called; made = x.made; halts = x.halts; moves = refl }

    abbrev size : ℕ
    size = length x.replacements + length (last_move t.caches boot x.core x.rest)

    size_made : length made ≡ size
    size_made = length-append x.replacements (last_move t.caches boot x.core x.rest)

    is : turned (l - n) clock t ≡ rests x.core (l - n - size) x.rest
    unfolding turned
    is = x.is

    counted : l - (l - n - size) ≡ n + length made
    counted = omega (arith, x.few, x.put, size_made)

    fit_is : rest_fits (length out) (turned (l - n) clock t) ≡ name_fits (length out) (request_name x.core x.rest)
    unfolding rest_fits rests
    fit_is = ap (rest_fits (length out)) is

    sees_is : name_fits (length out) (request_name x.core x.rest) ≡ true → observed o ≡ rests_at t.caches x.core x.rest (n + length made)
    unfolding rests
    sees_is h =
        z.sees (fit_is ∙ h)
        ∙ (ap (λ (y : Resting). rests_at t.caches y.core y.rest (l - y.left)) is
        ∙ ap (λ (k : ℕ). rests_at t.caches x.core x.rest k) counted)

    writes_is : name_fits (length out) (request_name x.core x.rest) ≡ true → o.left.out ≡ with_request (request_name x.core x.rest) out
    unfolding rests
    writes_is h = z.writes (fit_is ∙ h) ∙ ap (λ (y : Resting). with_request (request_name y.core y.rest) out) is

    inside : Within clock boot n l (opens t)
    inside = within-rests way (omega (arith, x.few))

    followed_fit : name_fits (length out) (request_name x.core x.rest) ≡ true → Followed l clock boot out n o (opens t)
    unfolding rests_at
    followed_fit h = record {
      brings = comes (made_in t.caches made) (rests_at t.caches x.core x.rest (n + length made));
      call = taken way h;
      same = same_rest (z.fits (fit_is ∙ h)) (sees_is h) (writes_is h) (to_rest way (z.fits (fit_is ∙ h)) (sees_is h));
      within = inside;
      fine = λ e. z.fine (fit_is ∙ h);
      early = not_refused t;
    }

    followed_short : name_fits (length out) (request_name x.core x.rest) ≡ false → Followed l clock boot out n o (opens t)
    followed_short h =
        let v : o.left.verdict ≡ Err ShortBuffer = z.shut (fit_is ∙ h) in
        record {
          brings = number (Err ShortBuffer);
          call = short way h;
          same = same_number v (λ e. let y : ◌≡◌ {A = ℕ} 0 1 = cc in omega arith) (no_move (short_not v));
          within = inside;
          fine = λ e. absurd (short_not v e);
          early = not_refused t;
        }

    followed : Followed l clock boot out n o (opens t)
    followed = go (told (name_fits (length out) (request_name x.core x.rest)))
      where
        go : (name_fits (length out) (request_name x.core x.rest) ≡ true) ⊎ (name_fits (length out) (request_name x.core x.rest) ≡ false)
            → Followed l clock boot out n o (opens t)
        go (inl h) = followed_fit h
        go (inr h) = followed_short h

  module _ (x : Cut t.caches clock (l - n) t.core t.called) where
    cut_is : turned (l - n) clock t ≡ rests x.core 0 (ended LimitReached 0 [])
    unfolding turned
    cut_is = x.is

    cut_fits : rest_fits (length out) (turned (l - n) clock t) ≡ true
    unfolding rest_fits rests request_name name_fits
    cut_fits = ap (rest_fits (length out)) cut_is

    cut_sees : observed o ≡ rests_at t.caches x.core (ended LimitReached 0 []) l
    unfolding rests
    cut_sees = z.sees cut_fits ∙ ap (λ (y : Resting). rests_at t.caches y.core y.rest (l - y.left)) cut_is ∙ ap (λ (k : ℕ). rests_at t.caches x.core (ended LimitReached 0 []) k) (let y : l - 0 ≡ l = omega arith in y)

    cut_writes : o.left.out ≡ out
    unfolding rests request_name with_request
    cut_writes = z.writes cut_fits ∙ ap (λ (y : Resting). with_request (request_name y.core y.rest) out) cut_is

    more : CallsForMore t clock x.replacements x.core
    more = record { called = x.called; made = x.made; move = x.move }

    cut_off : CutOff l clock boot out n o (opens t)
    cut_off = record {
      calls = record { turn = t; opening = refl; moves = x.replacements; core = x.core; more = more; number = omega (arith, x.long) };
      is_taken = z.fits cut_fits;
      sees = cut_sees;
      writes = cut_writes;
      moves = to_limit more (omega (arith, x.long)) (z.fits cut_fits) cut_sees;
      fine = z.fine cut_fits;
    }

  pub classified : Followed l clock boot out n o (opens t) ⊎ CutOff l clock boot out n o (opens t)
  classified = go (rests_or_cut t.caches clock boot (l - n) t.core t.called)
    where
      go : ToRest t.caches clock boot (l - n) t.core t.called ⊎ Cut t.caches clock (l - n) t.core t.called
          → Followed l clock boot out n o (opens t) ⊎ CutOff l clock boot out n o (opens t)
      go (inl x) = inl (followed x)
      go (inr x) = inr (cut_off x)

-- a call that is refused before any step
pub turned_away : (l clock : ℕ) (boot out : List ℕ) (n : ℕ) (o : Answered) (v : Verdict) → o.left.verdict ≡ v → (v ≡ Ok tt → ⊥) → (v ≡ Err ShortBuffer → ⊥)
    → Followed l clock boot out n o (refuses v)
turned_away l clock boot out n o v e h g = record {
  brings = number v;
  call = refused;
  same = same_number e h (no_move (λ f. h (sym e ∙ f)));
  within = refused;
  fine = λ f. absurd (h (sym e ∙ f));
  early = λ f. g (refused_same f);
}
