-- Laws of the name asked.
use Rattle.std.specs.Prelude.{Option, Some, None}
use mathlib.Core.Path.{◌≡◌, refl, sym, ap, ◌∙◌}
use mathlib.Core.Bool.{Bool, true}
use mathlib.Core.List.{List}
use Prim.Native.Nat.{ℕ, ◌≤◌}
use native.Mathlib.Omega.{arith}
use lib.ListN.{length, take}
use lib.Seq.{length-take-le, take_all}
use lib.Dec.{leb}
use Rattle.unc.specs.names.Paths.{first_of}
use Rattle.unc.proofs.names.PieceLaws.{spans}
use Rattle.reply_read.specs.referral.Request.{request}
use Rattle.reply_read.specs.referral.Request.{buffer_with}
use Rattle.walk_steps.specs.steps.Steps.{Core, Question, Rest, waits, ended, Resting, name_asked}
use Rattle.walk_steps.specs.steps.Held.{next_of, asking_of}
use Rattle.walk_steps.specs.declared.steps.Kind.{Kind}
use Rattle.walk_steps.specs.declared.steps.Kind.TheVariants.{Dc, Root, Link, Sysvol, Io}
use Rattle.walk_steps.specs.declared.steps.End.{End}
use Rattle.walk_steps.specs.declared.steps.Next.{Next}
use Rattle.walk_steps.specs.declared.steps.Next.TheVariants.{Asks, Ends}
use Rattle.walk_steps.specs.question_request.Questions.{request_name, name_fits, rest_fits, with_request, out_after}
use Rattle.walk_steps.specs.question_request.Code.{name_units, next_units, named}

-- the name lies inside the path
kind_within : (kind : Kind) (path : List ℕ) (n : ℕ) → name_units kind path ≡ Some n → n ≤ length path
unfolding name_units
kind_within Dc path n h = let e : n ≡ length (first_of 1 path) = cc in omega (arith, (spans 1 path).inside)
kind_within Root path n h = let e : n ≡ length (first_of 2 path) = cc in omega (arith, (spans 2 path).inside)
kind_within Link path n h = let e : n ≡ length path = cc in omega arith
kind_within Sysvol path n h = let e : n ≡ length (first_of 2 path) = cc in omega (arith, (spans 2 path).inside)
kind_within Io path n h = absurd (let z : ◌≡◌ {A = ℕ} 0 1 = cc in omega arith)

units_within : (next : Next) (path : List ℕ) (n : ℕ) → next_units next path ≡ Some n → n ≤ length path
unfolding next_units
units_within (Asks q) path n h = kind_within q.kind path n h
units_within (Ends e status) path n h = absurd (let z : ◌≡◌ {A = ℕ} 0 1 = cc in omega arith)

module _ (next : Next) (path : List ℕ) {r : Option ℕ} (e : r ≡ next_units next path) where
  pub part_whole : (n : ℕ) → r ≡ Some n → n ≡ length (take n path)
  part_whole n h = sym (length-take-le n path (units_within next path n (sym e ∙ h)))

  pub absent_fits : (room : ℕ) → r ≡ None → true ≡ name_fits room (named (next_units next path) path)
  unfolding name_fits named
  absent_fits room h = ap (λ (x : Option ℕ). name_fits room (named x path)) (sym h ∙ e)

  pub first_fits : (room n : ℕ) {k : ℕ} → r ≡ Some n → k ≡ length (request (take n path)) → leb k room ≡ name_fits room (named (next_units next path) path)
  unfolding name_fits named
  first_fits room n h g = ap (λ (x : ℕ). leb x room) g ∙ ap (λ (x : Option ℕ). name_fits room (named x path)) (sym h ∙ e)

  pub absent_out : (out : List ℕ) → r ≡ None → out ≡ with_request (named (next_units next path) path) out
  unfolding with_request named
  absent_out out h = ap (λ (x : Option ℕ). with_request (named x path) out) (sym h ∙ e)

  pub first_out : (out : List ℕ) (n : ℕ) {o : List ℕ} → r ≡ Some n → o ≡ buffer_with (take n path) out → o ≡ with_request (named (next_units next path) path) out
  unfolding with_request named
  first_out out n h g = g ∙ ap (λ (x : Option ℕ). with_request (named x path) out) (sym h ∙ e)

-- the units of the path are the name of the request
kind_named : (w : Core) (q : Question) (kind : Kind) → q.kind ≡ kind → named (name_units kind w.path) w.path ≡ request_name w (waits q)
unfolding named name_units request_name name_asked
kind_named w q Dc h = rw h (ap Some (spans 1 w.path).begin)
kind_named w q Root h = rw h (ap Some (spans 2 w.path).begin)
kind_named w q Link h = rw h (ap Some (take_all (length w.path) w.path (omega arith)))
kind_named w q Sysvol h = rw h (ap Some (spans 2 w.path).begin)
kind_named w q Io h = rw h

ended_named : (w : Core) (e : End) (status : ℕ) (tried : List ℕ) → named (next_units (Ends e status) w.path) w.path ≡ request_name w (ended e status tried)
unfolding named next_units request_name
ended_named w e status tried = refl

pub request_named : (w : Core) (x : Rest) → named (next_units (next_of x) w.path) w.path ≡ request_name w x
unfolding next_units next_of asking_of named
request_named w (waits q) = kind_named w q q.kind refl
request_named w (ended e status tried) = ended_named w e status tried

-- a rest whose request fits, and the buffer then
module _ (x : Resting) where
  pub rest_fits_lem : (room : ℕ) {b : Bool} → b ≡ name_fits room (named (next_units (next_of x.rest) x.core.path) x.core.path) → b ≡ rest_fits room x
  unfolding rest_fits
  rest_fits_lem room e = e ∙ ap (name_fits room) (request_named x.core x.rest)

  pub rest_out : (out : List ℕ) {o : List ℕ} → o ≡ with_request (named (next_units (next_of x.rest) x.core.path) x.core.path) out → o ≡ out_after x out
  unfolding out_after
  rest_out out e = e ∙ ap (λ (n : Option (List ℕ)). with_request n out) (request_named x.core x.rest)
