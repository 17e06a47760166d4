-- The unlimited walk along a list is one walk; and as far as no call called for move l + 1 it is one induction over the list.
use mathlib.Core.Path.{◌≡◌, refl, sym, ◌∙◌, subst}
use mathlib.Core.List.{List, ◌++◌}
use Prim.Native.Nat.{ℕ, suc, ◌+◌}
use native.Mathlib.Omega.{arith}
use lib.ListN.{length}
use Rattle.laws.proofs.Tests.{not_both}
use Rattle.walk_steps.specs.steps.Steps.{Turn, Core, Rest}
use Rattle.walk_steps.specs.question_request.Questions.{request_name, name_fits}
use Rattle.walk_calls.specs.call_end.Closing.{Verdict}
use Rattle.theorems.specs.limit.Unlimited.{Move, Opening, Unlimited, Made, made_in, rests_at, last_move, Rests, Brings, number, comes, Call, refused as call-refused, short, taken, CallsFor}
use Rattle.theorems.specs.limit.Calls.{Held, Start, Answer, Calls, start, then, answer_clock, answer_out, clock_of, start_opening, answer_opening, Follows, begins, is_refused, is_taken, Comes, to_start, to_answer, CutBy, in_it, before_it, CutBefore, an_earlier}
use Rattle.theorems.proofs.limit.Once.{rest_once}

-- what a call brings the unlimited walk is determined
pub same_way : {t : Turn} {clock : ℕ} {boot : List ℕ} {ms ns : List Move} {w v : Core} {r s : Rest} → Rests t clock boot ms w r → Rests t clock boot ns v s
    → (ms ≡ ns) × ((w ≡ v) × (r ≡ s))
same_way {t} {boot = boot} x y =
    let z = rest_once x.made x.halts y.made y.halts in
    let m = x.moves ∙ ((λ j. z.0.moves j ++ last_move t.caches boot (z.0.core j) (z.1 j)) ∙ sym y.moves) in (m, (z.0.core, z.1))

pub one_walk : {p : Opening} {clock count : ℕ} {boot out : List ℕ} {a b : Brings} → Call clock boot out count p a → Call clock boot out count p b → a ≡ b
one_walk call-refused call-refused = refl
one_walk (short x e) (short y f) = refl
one_walk {out = out} (short x e) (taken y f) =
    let z = same_way x y in
    absurd (not_both f (sym (λ j. name_fits (length out) (request_name (z.1.0 j) (z.1.1 j))) ∙ e))
one_walk {out = out} (taken x e) (short y f) =
    let z = same_way x y in
    absurd (not_both e ((λ j. name_fits (length out) (request_name (z.1.0 j) (z.1.1 j))) ∙ f))
one_walk {count = count} (taken {t = t} x e) (taken y f) =
    let z = same_way x y in
    λ j. comes (made_in t.caches (z.0 j)) (rests_at t.caches (z.1.0 j) (z.1.1 j) (count + length (z.0 j)))

comes_one : {ms ns : List Made} {u v : Unlimited} → comes ms u ≡ comes ns v → u ≡ v
comes_one e = cc

no_number : {ms : List Made} {u : Unlimited} {w : Verdict} → number w ≡ comes ms u → ⊥
no_number e = let z : ◌≡◌ {A = ℕ} 0 1 = cc in omega arith

moved_call : (s : Start) (a : Answer) {u v : Unlimited} {b : Brings} → v ≡ u → Call (answer_clock a) s.boot (answer_out a) v.count (answer_opening v a) b
    → Call (answer_clock a) s.boot (answer_out a) u.count (answer_opening u a) b
moved_call s a {b = b} e c = subst (λ (x : Unlimited). Call (answer_clock a) s.boot (answer_out a) x.count (answer_opening x a) b) e c

pub one_unlimited : {h : Held} {s : Start} {cs : Calls} {u v : Unlimited} → Follows h s cs u → Follows h s cs v → u ≡ v
one_unlimited (begins c) (begins d) = comes_one (one_walk c d)
one_unlimited (is_refused f c) (is_refused g d) = one_unlimited f g
one_unlimited {s = s} (is_refused f c) (is_taken {a = a} g d) = absurd (no_number (one_walk c (moved_call s a (sym (one_unlimited f g)) d)))
one_unlimited {s = s} (is_taken {a = a} f c) (is_refused g d) = absurd (no_number (one_walk (moved_call s a (sym (one_unlimited f g)) d) c))
one_unlimited {s = s} (is_taken {a = a} f c) (is_taken g d) = comes_one (one_walk c (moved_call s a (sym (one_unlimited f g)) d))

-- It has followed a list of which no call called for move l + 1; it comes to the last call of such a list.
pub data Tracks (h : Held) (s : Start) (l : ℕ) : Calls → Unlimited → Type 0 where
  tracks_start : {ms : List Made} {u : Unlimited} → (CallsFor (start_opening h s) s.clock 0 (suc l) → ⊥)
      → Call s.clock s.boot s.out 0 (start_opening h s) (comes ms u) → Tracks h s l start u
  tracks_refused : {cs : Calls} {u : Unlimited} {a : Answer} {v : Verdict} → Tracks h s l cs u
      → (CallsFor (answer_opening u a) (answer_clock a) u.count (suc l) → ⊥)
      → Call (answer_clock a) s.boot (answer_out a) u.count (answer_opening u a) (number v) → Tracks h s l (then cs a) u
  tracks_taken : {cs : Calls} {u v : Unlimited} {a : Answer} {ms : List Made} → Tracks h s l cs u
      → (CallsFor (answer_opening u a) (answer_clock a) u.count (suc l) → ⊥)
      → Call (answer_clock a) s.boot (answer_out a) u.count (answer_opening u a) (comes ms v) → Tracks h s l (then cs a) v

pub data Meets (h : Held) (s : Start) (l : ℕ) : Calls → Opening → ℕ → Type 0 where
  meets_start : Meets h s l start (start_opening h s) 0
  meets_answer : {cs : Calls} {u : Unlimited} {a : Answer} → Tracks h s l cs u → Meets h s l (then cs a) (answer_opening u a) u.count

calls_same : (l : ℕ) (a : Answer) {u v : Unlimited} → v ≡ u → CallsFor (answer_opening v a) (answer_clock a) v.count (suc l)
    → CallsFor (answer_opening u a) (answer_clock a) u.count (suc l)
calls_same l a e k = subst (λ (x : Unlimited). CallsFor (answer_opening x a) (answer_clock a) x.count (suc l)) e k

module _ {h : Held} {s : Start} {l : ℕ} where
  pub tracks_follows : {cs : Calls} {u : Unlimited} → Tracks h s l cs u → Follows h s cs u
  tracks_follows (tracks_start nc c) = begins c
  tracks_follows (tracks_refused f nc c) = is_refused (tracks_follows f) c
  tracks_follows (tracks_taken f nc c) = is_taken (tracks_follows f) c

  -- no call of the list called for it
  not_at : {cs : Calls} {u : Unlimited} {a : Answer} {p : Opening} {n : ℕ} → Follows h s cs u → (CallsFor (answer_opening u a) (answer_clock a) u.count (suc l) → ⊥)
      → Comes h s (then cs a) p n → CallsFor p (answer_clock a) n (suc l) → ⊥
  not_at {a = a} f nc (to_answer g) k = nc (calls_same l a (one_unlimited g f) k)

  not_first : {p : Opening} {n : ℕ} → (CallsFor (start_opening h s) s.clock 0 (suc l) → ⊥) → Comes h s start p n → CallsFor p s.clock n (suc l) → ⊥
  not_first nc to_start k = nc k

  pub tracks_uncut : {cs : Calls} {u : Unlimited} → Tracks h s l cs u → CutBy l h s cs → ⊥
  unfolding clock_of
  tracks_uncut (tracks_start nc c) (in_it d k) = not_first nc d k
  tracks_uncut (tracks_refused f nc c) (in_it d k) = not_at (tracks_follows f) nc d k
  tracks_uncut (tracks_refused f nc c) (before_it k) = tracks_uncut f k
  tracks_uncut (tracks_taken f nc c) (in_it d k) = not_at (tracks_follows f) nc d k
  tracks_uncut (tracks_taken f nc c) (before_it k) = tracks_uncut f k

  pub tracks : {cs : Calls} {u : Unlimited} → Follows h s cs u → (CutBy l h s cs → ⊥) → Tracks h s l cs u
  unfolding clock_of
  tracks (begins c) n = tracks_start (λ k. n (in_it to_start k)) c
  tracks (is_refused f c) n = tracks_refused (tracks f (λ k. n (before_it k))) (λ k. n (in_it (to_answer f) k)) c
  tracks (is_taken f c) n = tracks_taken (tracks f (λ k. n (before_it k))) (λ k. n (in_it (to_answer f) k)) c

  pub meets_comes : {cs : Calls} {p : Opening} {n : ℕ} → Meets h s l cs p n → Comes h s cs p n
  meets_comes meets_start = to_start
  meets_comes (meets_answer f) = to_answer (tracks_follows f)

  pub meets_uncut : {cs : Calls} {p : Opening} {n : ℕ} → Meets h s l cs p n → CutBefore l h s cs → ⊥
  meets_uncut meets_start k = elim k [ ]
  meets_uncut (meets_answer f) (an_earlier k) = tracks_uncut f k

  pub meets_none : {cs : Calls} {p : Opening} {n : ℕ} → Meets h s l cs p n → (CallsFor p (clock_of s cs) n (suc l) → ⊥) → CutBy l h s cs → ⊥
  unfolding clock_of
  meets_none meets_start nc (in_it d k) = not_first nc d k
  meets_none (meets_answer f) nc (in_it d k) = not_at (tracks_follows f) nc d k
  meets_none (meets_answer f) nc (before_it k) = tracks_uncut f k

  pub meets : {cs : Calls} {p : Opening} {n : ℕ} → Comes h s cs p n → (CutBefore l h s cs → ⊥) → Meets h s l cs p n
  meets to_start n = meets_start
  meets (to_answer f) n = meets_answer (tracks f (λ k. n (an_earlier k)))

  not_before : {cs : Calls} → CutBefore l h s cs → cs ≡ start → ⊥
  not_before (an_earlier k) e = let z : ◌≡◌ {A = ℕ} 0 1 = cc in omega arith

  pub none_earlier : CutBefore l h s start → ⊥
  none_earlier k = not_before k refl

  pub earlier_cut : {cs : Calls} → CutBefore l h s cs → CutBy l h s cs
  earlier_cut (an_earlier k) = before_it k
