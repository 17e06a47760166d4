-- Laws of where the steps rest: what they keep, and whether the request of the rest fits the buffer.
use Rattle.std.specs.Prelude.{Some}
use mathlib.Core.Path.{◌≡◌, refl, sym, ap, ◌∙◌, subst}
use mathlib.Core.Bool.{Bool, true, false}
use mathlib.Core.List.{List, []}
use mathlib.Core.Logic.{◌⊎◌, inl, inr}
use Prim.Native.Nat.{ℕ, zero, suc, ◌≤◌}
use native.Mathlib.Omega.{arith}
use lib.ListN.{length, take}
use lib.Dec.{leb}
use borrow.Author.Tests.{le-leb, leb-true}
use Rattle.laws.specs.Choice.{choose}
use Rattle.laws.proofs.Choices.{choose_yes, choose_no}
use Rattle.laws.proofs.Orders.{told}
use Rattle.unc.specs.names.Paths.{path_units, first_of}
use Rattle.unc.proofs.names.PieceLaws.{spans}
use Rattle.reply_read.specs.referral.Request.{request}
use Rattle.reply_read.proofs.referral.RequestLaws.{length_request}
use Rattle.walk_steps.specs.walk_texts.Texts.{texts_of}
use Rattle.walk_steps.proofs.walk_texts.TextLaws.{path_in_lem}
use Rattle.walk_steps.specs.steps.Steps.{Caches, Core, Question, Called, stops, asks, replaces, Rest, Resting, waits, ended, rests, asking, goes, hit_at, with_hit, with_path, step2, name_asked}
use Rattle.walk_steps.specs.steps.Held.{tried_of}
use Rattle.walk_steps.specs.steps.Code.{rested_of}
use Rattle.walk_steps.specs.declared.steps.Kind.{Kind as Kinds}
use Rattle.walk_steps.specs.declared.steps.Kind.TheVariants.{Dc, Root, Link, Sysvol, Io}
use Rattle.walk_steps.specs.declared.steps.End.{End}
use Rattle.walk_steps.specs.declared.steps.End.TheVariants.{TooLong}
use Rattle.walk_steps.specs.declared.steps.Rested.{Rested}
use Rattle.walk_steps.specs.cycle.Code.{Packed, rested_with, packed}
use Rattle.walk_steps.specs.question_request.Questions.{request_name, name_fits, rest_fits}
use Rattle.walk_steps.specs.question_request.Code.{next_units, named}
use Rattle.walk_steps.proofs.question_request.NameLaws.{rest_fits_lem}

-- what the steps keep: the size given, the moves that were left at most, a path that fits its room
pub record Kept (n : ℕ) (w : Core) (x : Resting) : Type 0 where
  pub size_kept : x.core.size ≡ w.size
  pub left_kept : x.left ≤ n
  pub path_kept : length x.core.path ≤ 256

kept_same : (n : ℕ) (w : Core) (r : Rest) → length w.path ≤ 256 → Kept n w (rests w n r)
unfolding rests
kept_same n w r h = record { size_kept = refl; left_kept = omega arith; path_kept = h }

kept_less : (n : ℕ) (w : Core) (r : Rest) → length w.path ≤ 256 → Kept (suc n) w (rests w n r)
unfolding rests
kept_less n w r h = record { size_kept = refl; left_kept = omega arith; path_kept = h }

pub kept_asking : (n : ℕ) (w : Core) (q : Question) → length w.path ≤ 256 → Kept n w (asking n w q)
unfolding asking
kept_asking zero w q h = kept_same zero w _ h
kept_asking (suc n) w q h = go (told (leb (length q.tried) path_units))
  where
    go : (leb (length q.tried) path_units ≡ true) ⊎ (leb (length q.tried) path_units ≡ false)
        → Kept (suc n) w (choose (leb (length q.tried) path_units) (rests w n (waits q)) (rests w (suc n) (ended TooLong 0 [])))
    go (inl t) = subst (Kept (suc n) w) (sym (choose_yes _ _ t)) (kept_less n w (waits q) h)
    go (inr t) = subst (Kept (suc n) w) (sym (choose_no _ _ t)) (kept_same (suc n) w (ended TooLong 0 []) h)

pub kept_goes : (n : ℕ) (c : Caches) (clock : ℕ) (w : Core) (a : Called) → length w.path ≤ 256 → Kept n w (goes n c clock w a)
unfolding goes with_hit with_path
kept_goes zero c clock w (stops e status tried) h = kept_same zero w _ h
kept_goes zero c clock w (asks q) h = kept_asking zero w q h
kept_goes zero c clock w (replaces p) h = kept_same zero w _ h
kept_goes (suc n) c clock w (stops e status tried) h = kept_same (suc n) w _ h
kept_goes (suc n) c clock w (asks q) h = kept_asking (suc n) w q h
kept_goes (suc n) c clock w (replaces p) h = go (told (leb (length p) path_units)) (kept_goes n c clock (with_hit (hit_at c (with_path p w)) (with_path p w)) (step2 c (with_path p w) clock))
  where
    go : (leb (length p) path_units ≡ true) ⊎ (leb (length p) path_units ≡ false)
        → (length p ≤ 256 → Kept n (with_hit (hit_at c (with_path p w)) (with_path p w)) (goes n c clock (with_hit (hit_at c (with_path p w)) (with_path p w)) (step2 c (with_path p w) clock)))
        → Kept (suc n) w (choose (leb (length p) path_units) (goes n c clock (with_hit (hit_at c (with_path p w)) (with_path p w)) (step2 c (with_path p w) clock)) (rests w (suc n) (ended TooLong 0 [])))
    go (inl t) f =
        let k = f (leb-true _ _ t) in
        subst (Kept (suc n) w) (sym (choose_yes _ _ t)) (record { size_kept = k.size_kept; left_kept = omega (arith, k.left_kept); path_kept = k.path_kept })
    go (inr t) f = subst (Kept (suc n) w) (sym (choose_no _ _ t)) (kept_same (suc n) w (ended TooLong 0 []) h)

-- a rest, by its numbers and its rooms
module _ (x : Resting) (r : Rested) (rooms : List ℕ) (e : rested_with r rooms ≡ packed x) where
  pub rested_is : r ≡ rested_of x
  unfolding packed
  rested_is = ap (λ (p : Packed). p.rested) e

  pub rooms_are : rooms ≡ texts_of x.core.path (tried_of x.rest)
  unfolding packed
  rooms_are = ap (λ (p : Packed). p.texts) e

  pub path_is : take r.path rooms ≡ x.core.path
  unfolding rested_of
  path_is = (λ j. take (rested_is j).path (rooms_are j)) ∙ path_in_lem x.core.path (tried_of x.rest)

  pub rest_left : (n : ℕ) (w : Core) → Kept n w x → r.left ≤ n
  unfolding rested_of
  rest_left n w k = subst (λ (y : Rested). y.left ≤ n) (sym rested_is) k.left_kept

  pub rest_path : (n : ℕ) (w : Core) → Kept n w x → r.path ≤ 256
  unfolding rested_of
  rest_path n w k = subst (λ (y : Rested). y.path ≤ 256) (sym rested_is) k.path_kept

  pub rest_tested : (room : ℕ) {b : Bool} → b ≡ name_fits room (named (next_units r.next (take r.path rooms)) (take r.path rooms)) → b ≡ rest_fits room x
  unfolding rested_of
  rest_tested room h = h ∙ ((λ j. name_fits room (named (next_units (rested_is j).next (path_is j)) (path_is j))) ∙ rest_fits_lem x room refl)

first_short : (k : ℕ) (s : List ℕ) → length s ≤ 256 → length (first_of k s) ≤ 256
first_short k s h = omega (arith, (spans k s).inside)

-- a buffer of 516 bytes holds every request of a path that fits its room
name_fits_lem : (room : ℕ) (name : List ℕ) → 516 ≤ room → length name ≤ 256 → name_fits room (Some name) ≡ true
unfolding name_fits
name_fits_lem room name h l =
    let z : length (request name) ≤ room = omega (arith, length_request name) in
    le-leb (length (request name)) room z

request_fits : (room : ℕ) (w : Core) (q : Question) → 516 ≤ room → length w.path ≤ 256 → (kind : Kinds) → q.kind ≡ kind → name_fits room (request_name w (waits q)) ≡ true
unfolding request_name name_asked name_fits
request_fits room w q h l Dc e = rw e (name_fits_lem room (first_of 1 w.path) h (first_short 1 w.path l))
request_fits room w q h l Root e = rw e (name_fits_lem room (first_of 2 w.path) h (first_short 2 w.path l))
request_fits room w q h l Link e = rw e (name_fits_lem room w.path h l)
request_fits room w q h l Sysvol e = rw e (name_fits_lem room (first_of 2 w.path) h (first_short 2 w.path l))
request_fits room w q h l Io e = rw e

end_fits : (room : ℕ) (w : Core) (e : End) (status : ℕ) (tried : List ℕ) → name_fits room (request_name w (ended e status tried)) ≡ true
unfolding request_name name_fits
end_fits room w e status tried = refl

pub always_fits : (room : ℕ) (x : Resting) → 516 ≤ room → length x.core.path ≤ 256 → rest_fits room x ≡ true
unfolding rest_fits
always_fits room x h l = go x.rest
  where
    go : (r : Rest) → name_fits room (request_name x.core r) ≡ true
    go (waits q) = request_fits room x.core q h l q.kind refl
    go (ended e status tried) = end_fits room x.core e status tried
