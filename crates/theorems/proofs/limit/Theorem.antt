-- Demand 3, proved: `limit-only-cuts`.
use mathlib.Core.Path.{◌≡◌, refl, sym, ap, ◌∙◌, subst}
use mathlib.Core.Bool.{true, false, ◌&&◌}
use mathlib.Core.List.{List, [], ◌∷◌, ◌++◌, map, append_assoc, map-append}
use mathlib.Core.Logic.{◌⊎◌, inl, inr}
use Prim.Native.Nat.{ℕ, suc, ◌+◌, ◌-◌, ◌≤◌, ◌<◌}
use native.Mathlib.Omega.{arith}
use lib.ListN.{length, length-append}
use borrow.Author.Tests.{le-leb, lt-leb, leb-false}
use Rattle.std.specs.Prelude.{Ok, Err, Option, None, Some}
use Rattle.laws.proofs.Choices.{and_both, choose_yes, choose_no}
use Rattle.laws.proofs.Orders.{lt_or_le, told}
use Rattle.laws.proofs.Tests.{not_both}
use Rattle.unc.specs.names.Paths.{path_units, normalised}
use Rattle.cache.specs.order.Memory.{referrals, domains, encode, in_order}
use Rattle.walk_steps.specs.steps.Held.{caches_of, core_of}
use Rattle.walk_form.specs.held.Walks.{core_in}
use Rattle.walk_shown.specs.question.Shown.{question_shown, party_of, party_text}
use Rattle.theorems.specs.keeps.Stands.{Stands, StartStands, AnswerStands}
use Rattle.theorems.proofs.keeps.StandLaws.{start_stands, referral_stands, io_stands}
use Rattle.theorems.proofs.keeps.BackLaws.{caches_back}
use Rattle.theorems.proofs.limit.CallLaws.{started_caches}
use Rattle.reply_read.specs.referral.Request.{request}
use Rattle.walk_steps.specs.steps.Steps.{Core, Question, Called, stops, asks, replaces, Rest, waits, ended, Turn, Caches, with_path, with_hit, hit_at, step2, name_asked}
use Rattle.walk_steps.specs.declared.steps.End.{End}
use Rattle.walk_steps.specs.declared.steps.End.TheVariants.{LimitReached, TooLong}
use Rattle.walk_steps.specs.question_request.Questions.{request_name, name_fits, with_request}
use Rattle.walk_form.specs.held.Walks.{good_limit, boot_in}
use Rattle.walk_calls.specs.call_end.Closing.{refused}
use Rattle.walk_calls.specs.calls.Calls.{Answered, refusal_number}
use Rattle.walk_calls.specs.call_end.Closing.{Verdict}
use Rattle.walk_calls.specs.declared.call_end.Refusal.TheVariants.{BadPath, LongPath, BadSettings, NotInOrder, OutOfForm, ShortBuffer}
use Rattle.theorems.specs.limit.Unlimited.{Move, question, path_after, Opening, opens, refuses, Unlimited, Made, made_in, rests_at, last_move, calls_one, Halts, at_end, is_put, try_long, path_long, Rests, CallsForMore, Brings, number, comes, Call, refused as call-refused, short, taken, CallsFor, Within, refused as within-refused, rests as within-rests, replacement, Makes, here, goes_on}
use Rattle.theorems.specs.limit.Calls.{shown_move, Held, Start, Answer, referral, io, Calls, start, then, run, after_answer, InList, the_start, an_answer, answer_clock, answer_out, clock_of, out_of, observed, start_opening, answer_opening, opening, count_before, path_before, Follows, Comes, to_start, to_answer, CutBy, in_it, before_it, CutBefore, Moved, no_move, to_rest, to_limit, Same, same_number, same_rest}
use Rattle.theorems.specs.limit.Limits.{MovesOf, SameIn, EndsIn, WaitsAfter, TooShort, LimitOnlyCuts}
use Rattle.theorems.proofs.limit.Goes.{ToRest, Cut, rests_or_cut}
use Rattle.theorems.proofs.limit.Once.{behind, as_many, goes_further}
use Rattle.theorems.proofs.limit.Classify.{Fine, CutOff, never_both, opens_same, short_not, not_refused}
use Rattle.theorems.proofs.limit.CallLaws.{Either}
use Rattle.theorems.proofs.limit.ExportedLaws.{exported}
use Rattle.theorems.proofs.limit.NoLimit.{NoLimit, rests_no}
use Rattle.theorems.proofs.limit.Along.{one_walk, same_way, one_unlimited, Tracks, tracks_start, tracks_refused, tracks_taken, Meets, meets_start, meets_answer, tracks_follows, tracks_uncut, tracks, meets_comes, meets_uncut, meets_none, meets, earlier_cut}
use Rattle.theorems.proofs.limit.Cores.{SameCore, started_same, event_same}
use Rattle.theorems.proofs.limit.Ways.{way, path_moved_lem, size_moved}
use Rattle.theorems.proofs.limit.ListLaws.{good_event, answer_identity, start_identity, same_comes, same_numbered, taken_opens, short_opens, one_cut, earlier, at_start, Later, later, agrees, few, comes_either, comes_no, comes_few, comes_opening, seen_kept, fine_kept, event_ended, no_opening, start_goes_on, answer_goes_on}

-- a rest that a move called for has brought is no end 24
halts_move : {a : Called} {r : Rest} → Halts a r → calls_one a ≡ 1 → r ≡ ended LimitReached 0 [] → ⊥
unfolding calls_one
halts_move at_end m e = omega arith
halts_move (is_put f) m e = let z : ◌≡◌ {A = ℕ} 0 1 = cc in omega arith
halts_move (try_long f) m e = let z : ◌≡◌ {A = ℕ} 0 1 = cc in omega arith
halts_move (path_long f) m e = let z : ◌≡◌ {A = ℕ} 0 1 = cc in omega arith

-- the moves of a call are determined
rest_or_cut : (n : ℕ) {l : ℕ} {t : Turn} {clock : ℕ} {boot : List ℕ} {ms ns : List Move} {w v : Core} {r : Rest} → Rests t clock boot ms w r → CallsForMore t clock ns v
    → rests_at t.caches w r (n + length ms) ≡ rests_at t.caches v (ended LimitReached 0 []) l → n + length ns ≡ l → ⊥
unfolding rests_at last_move
rest_or_cut n {l} {t} {clock} {boot} {ms} {ns} {w} {v} {r} x y e f =
    let er : r ≡ ended LimitReached 0 [] = ap (λ (u : Unlimited). u.rest) e in
    let en : n + length ms ≡ l = ap (λ (u : Unlimited). u.count) e in
    let em : ms ≡ x.replacements ++ [] = x.moves ∙ ap (λ (s : Rest). x.replacements ++ last_move t.caches boot w s) er in
    let len : length ms ≡ length x.replacements + 0 = ap length em ∙ length-append x.replacements [] in
    let z = as_many x.made y.made (omega arith) in
    halts_move x.halts (ap calls_one z.called ∙ y.move) er

pub one_list : {l clock : ℕ} {boot : List ℕ} {n : ℕ} {o : Answered} {p : Opening} {ms ns : List Made} → Moved l clock boot n o p ms → Moved l clock boot n o p ns → ms ≡ ns
one_list (no_move a) (no_move b) = refl
one_list (no_move a) (to_rest y v e) = absurd (a v)
one_list (no_move a) (to_limit y c v e) = absurd (a v)
one_list (to_rest x v e) (no_move b) = absurd (b v)
one_list (to_rest {t = t} x v e) (to_rest y w f) = ap (made_in t.caches) (same_way x y).0
one_list {n = n} (to_rest x v e) (to_limit y c w f) = absurd (rest_or_cut n x y (sym e ∙ f) c)
one_list (to_limit x c v e) (no_move b) = absurd (b v)
one_list {n = n} (to_limit x c v e) (to_rest y w f) = absurd (rest_or_cut n y x (sym f ∙ e) c)
one_list (to_limit {t = t} x c v e) (to_limit y d w f) = ap (made_in t.caches) (as_many x.made y.made (omega arith)).moves

-- whether a call is taken
taken_or_not : (v : Verdict) → (v ≡ Ok tt) ⊎ (v ≡ Ok tt → ⊥)
taken_or_not v = go v refl
  where
    go : (w : Verdict) → v ≡ w → (v ≡ Ok tt) ⊎ (v ≡ Ok tt → ⊥)
    go (Ok tt) e = inl e
    go (Err BadPath) e = inr (λ (f : v ≡ Ok tt). let z : ◌≡◌ {A = ℕ} 0 1 = cc in omega arith)
    go (Err LongPath) e = inr (λ (f : v ≡ Ok tt). let z : ◌≡◌ {A = ℕ} 0 1 = cc in omega arith)
    go (Err BadSettings) e = inr (λ (f : v ≡ Ok tt). let z : ◌≡◌ {A = ℕ} 0 1 = cc in omega arith)
    go (Err NotInOrder) e = inr (λ (f : v ≡ Ok tt). let z : ◌≡◌ {A = ℕ} 0 1 = cc in omega arith)
    go (Err OutOfForm) e = inr (λ (f : v ≡ Ok tt). let z : ◌≡◌ {A = ℕ} 0 1 = cc in omega arith)
    go (Err ShortBuffer) e = inr (λ (f : v ≡ Ok tt). let z : ◌≡◌ {A = ℕ} 0 1 = cc in omega arith)

-- a request that does not fit
record LongName (w : Core) (r : Rest) (room : ℕ) : Type 0 where
  question : Question
  is : r ≡ waits question
  name : List ℕ
  named : request_name w r ≡ Some name
  long : room < length (request name)

name_long : (w : Core) (r : Rest) (room : ℕ) (q : Question) → r ≡ waits q → (x : Option (List ℕ)) → request_name w r ≡ x → name_fits room x ≡ false → LongName w r room
unfolding name_fits
name_long w r room q e None f h = absurd (not_both refl h)
name_long w r room q e (Some name) f h = record { question = q; is = e; name = name; named = f; long = leb-false (length (request name)) room h }

long_name : (w : Core) (r : Rest) (room : ℕ) → name_fits room (request_name w r) ≡ false → LongName w r room
unfolding request_name name_fits
long_name w (waits q) room h = name_long w (waits q) room q refl (request_name w (waits q)) refl h
long_name w (ended e status tried) room h = absurd (not_both refl h)

-- a call that is refused by 10 comes to rest at such a request
record Ten (clock : ℕ) (boot out : List ℕ) (p : Opening) : Type 0 where
  turn : Turn
  opened : p ≡ opens turn
  moves : List Move
  core : Core
  rest : Rest
  way : Rests turn clock boot moves core rest
  long : LongName core rest (length out)

ten_call : {l clock : ℕ} {boot out : List ℕ} {n : ℕ} {o : Answered} {p : Opening} {b : Brings} → Call clock boot out n p b → Same l clock boot out n o p b → (p ≡ refuses (Err ShortBuffer) → ⊥)
    → o.left.verdict ≡ Err ShortBuffer → Ten clock boot out p
ten_call call-refused c g e =
    let z = same_numbered c in absurd (g (ap refuses (sym z.0 ∙ e)))
ten_call {out = out} (short {t = t} {ms = ms} {w = w} {r = r} x f) c g e =
    record { turn = t; opened = refl; moves = ms; core = w; rest = r; way = x; long = long_name w r (length out) f }
ten_call (taken x f) c g e = absurd (short_not e (same_comes c).0)

-- no call that comes to rest shows end 24
never_24 : {l clock : ℕ} {boot out : List ℕ} {n : ℕ} {o : Answered} {p : Opening} {b : Brings} {status : ℕ} {tried : List ℕ} → Call clock boot out n p b → Same l clock boot out n o p b
    → ((t : Turn) → p ≡ opens t → NoLimit t.called) → o.left.verdict ≡ Ok tt → (observed o).rest ≡ ended LimitReached status tried → ⊥
unfolding rests_at
never_24 call-refused c g v e =
    let z = same_numbered c in z.1.0 (sym z.0 ∙ v)
never_24 (short x f) c g v e =
    let z = same_numbered c in short_not z.0 v
never_24 (taken {t = t} x f) c g v e =
    rests_no (g t refl) x.made x.halts (ap (λ (u : Unlimited). u.rest) (sym (same_comes c).1.0) ∙ e)

-- a longer call begins with the moves of a shorter
made_more : (c : Caches) (ms ns : List Move) → made_in c (ms ++ ns) ≡ made_in c ms ++ made_in c ns
unfolding made_in
made_more c ms ns = map-append _ ms ns

record Begins (ms ns : List Made) : Type 0 where
  more : List Made
  is : ns ≡ ms ++ more

begins_with : (c : Caches) (ms more : List Move) {ns : List Move} → ns ≡ ms ++ more → Begins (made_in c ms) (made_in c ns)
begins_with c ms more e = record { more = made_in c more; is = ap (made_in c) e ∙ made_more c ms more }

turn_of : {p : Opening} {clock n k : ℕ} (t : Turn) (x : CallsFor p clock n k) → p ≡ opens t → CallsForMore t clock x.moves x.core
turn_of {clock = clock} t x e = subst (λ (u : Turn). CallsForMore u clock x.moves x.core) (opens_same (sym x.opening ∙ e)) x.more

caches_of_lem : {p : Opening} {clock n k : ℕ} (t : Turn) (x : CallsFor p clock n k) → p ≡ opens t → t.caches ≡ x.turn.caches
caches_of_lem t x e = ap (λ (u : Turn). u.caches) (opens_same (sym e ∙ x.opening))

few_calls : (a : Called) (i j : ℕ) → i + 1 ≤ j + calls_one a → i ≤ j
unfolding calls_one
few_calls (stops e status tried) i j h = omega arith
few_calls (asks q) i j h = omega arith
few_calls (replaces p) i j h = omega arith

longer_call : {m clock : ℕ} {boot out : List ℕ} {n k : ℕ} {o : Answered} {p : Opening} {b : Brings} → Call clock boot out n p b → Same m clock boot out n o p b → (x : CallsFor p clock n k)
    → (o.left.verdict ≡ Err ShortBuffer) ⊎ ((ns : List Made) × (Begins (made_in x.turn.caches x.moves) ns × Moved m clock boot n o p ns))
longer_call call-refused c x = absurd (not_refused x.turn (sym x.opening))
longer_call (short y f) c x = inl (same_numbered c).0
longer_call {boot = boot} (taken {t = t} {ms = ms} {w = w} {r = r} y f) c x =
    let z = turn_of t x refl in
    let b = behind y.made y.halts z.made z.move in
    let g = goes_further z.made y.made (few_calls y.called _ _ b) in
    let e : ms ≡ x.moves ++ (g.0 ++ last_move t.caches boot w r) =
    y.moves ∙ (ap (λ (l : List Move). l ++ last_move t.caches boot w r) g.1 ∙ append_assoc x.moves g.0 (last_move t.caches boot w r)) in
    inr (made_in t.caches ms, (subst (λ (d : Caches). Begins (made_in d x.moves) (made_in t.caches ms)) (caches_of_lem t x refl) (begins_with t.caches x.moves (g.0 ++ last_move t.caches boot w r) e), (same_comes c).1.1))

-- the shorter cut of two
longer_cut : {p : Opening} {clock n l m : ℕ} → l ≤ m → (x : CallsFor p clock n (suc l)) (y : CallsFor p clock n (suc m)) → Begins (made_in x.turn.caches x.moves) (made_in y.turn.caches y.moves)
longer_cut f x y =
    let z = turn_of y.turn x y.opening in
    let g = goes_further z.made y.more.made (omega (arith, x.number, y.number)) in
    subst (λ (d : Caches). Begins (made_in d x.moves) (made_in y.turn.caches y.moves)) (caches_of_lem y.turn x y.opening) (begins_with y.turn.caches x.moves g.0 g.1)

-- every call rests within the limit or calls for a move over it
rests_or_calls : (l : ℕ) (p : Opening) (clock n : ℕ) (boot : List ℕ) → n ≤ l → Within clock boot n l p ⊎ CallsFor p clock n (suc l)
rests_or_calls l (refuses v) clock n boot f = inl within-refused
rests_or_calls l (opens t) clock n boot f = go (rests_or_cut t.caches clock boot (l - n) t.core t.called)
  where
    go : ToRest t.caches clock boot (l - n) t.core t.called ⊎ Cut t.caches clock (l - n) t.core t.called
        → Within clock boot n l (opens t) ⊎ CallsFor (opens t) clock n (suc l)
    go (inl x) =
        inl (within-rests (record { replacements = x.replacements; called = x.called; made = x.made; halts = x.halts; moves = refl }) (omega (arith, x.few)))
    go (inr x) = inr (record {
      turn = t;
      opening = refl;
      moves = x.replacements;
      core = x.core;
      more = record { called = x.called; made = x.made; move = x.move };
      number = omega (arith, x.long);
    })

no_halt_at : {a : Called} {r : Rest} {p : List ℕ} → Halts a r → a ≡ replaces p → length p ≤ path_units → ⊥
no_halt_at at_end e f = let z : ◌≡◌ {A = ℕ} 0 1 = cc in omega arith
no_halt_at (is_put g) e f = let z : ◌≡◌ {A = ℕ} 0 1 = cc in omega arith
no_halt_at (try_long g) e f = let z : ◌≡◌ {A = ℕ} 0 1 = cc in omega arith
no_halt_at {p = p} (path_long {p = o} g) e f =
    let z : o ≡ p = cc in omega (arith, ap length z)

-- the sentences that the definitions say
started_list : {l : ℕ} {h : Held} {s : Start} (cs : Calls) (a : Answer) → InList l h s (then cs a) → (run l h s start).left.verdict ≡ Ok tt
started_list cs a (an_answer e) = e

gets : (l : ℕ) (h : Held) (s : Start) (cs : Calls) (a : Answer) → run l h s (then cs a) ≡ after_answer (run l h s cs) a
unfolding run
gets l h s cs a = refl

first_zero : {h : Held} {s : Start} {p : Opening} {n : ℕ} → Comes h s start p n → n ≡ 0
first_zero to_start = refl

question_halts : {q : Question} {r : Rest} → Halts (asks q) r → (r ≡ ended TooLong 0 []) ⊎ (r ≡ waits q)
question_halts (is_put f) = inr refl
question_halts (try_long f) = inl refl

replacement_made : (c : Caches) (clock : ℕ) (w : Core) (p : List ℕ)
    → Halts (replaces p) (ended TooLong 0 [])
    ⊎ Makes c clock w (replaces p) (replacement p ∷ []) (with_hit (hit_at c (with_path p w)) (with_path p w)) (step2 c (with_path p w) clock)
replacement_made c clock w p = go (lt_or_le path_units (length p))
  where
    go : (path_units < length p) ⊎ (length p ≤ path_units)
        → Halts (replaces p) (ended TooLong 0 [])
        ⊎ Makes c clock w (replaces p) (replacement p ∷ []) (with_hit (hit_at c (with_path p w)) (with_path p w)) (step2 c (with_path p w) clock)
    go (inl f) = inl (path_long f)
    go (inr f) = inr (goes_on f here)

-- a replacement that is called for and fits is the first move
first_replaced : {c : Caches} {clock : ℕ} {w v : Core} {a b : Called} {rs : List Move} {r : Rest} (p : List ℕ) → Makes c clock w a rs v b → Halts b r → a ≡ replaces p
    → length p ≤ path_units → (more : List Move) × (rs ≡ replacement p ∷ more)
first_replaced p here h e f = absurd (no_halt_at h e f)
first_replaced p (goes_on {p = o} {ms = ms} g x) h e f =
    let z : o ≡ p = cc in (ms, ap (λ (l : List ℕ). replacement l ∷ ms) z)

is_a_move : {t : Turn} {clock : ℕ} {boot : List ℕ} {ms : List Move} {w : Core} {r : Rest} (p : List ℕ) → Rests t clock boot ms w r → t.called ≡ replaces p
    → length p ≤ path_units → (more : List Move) × (ms ≡ replacement p ∷ more)
is_a_move {t} {clock} {boot} {ms} {w} {r} p x e f =
    let z = first_replaced p x.made x.halts e f in
    (z.0 ++ last_move t.caches boot w r, x.moves ∙ ap (λ (l : List Move). l ++ last_move t.caches boot w r) z.1)

order_of : (u : Unlimited) (a : Answer) (t : Turn) → answer_opening u a ≡ opens t → (in_order referrals u.refs && in_order domains u.doms) ≡ true
unfolding answer_opening
order_of u a t e = go (told (in_order referrals u.refs && in_order domains u.doms))
  where
    go : ((in_order referrals u.refs && in_order domains u.doms) ≡ true) ⊎ ((in_order referrals u.refs && in_order domains u.doms) ≡ false)
        → (in_order referrals u.refs && in_order domains u.doms) ≡ true
    go (inl o) = o
    go (inr o) = absurd (not_refused t (sym e ∙ choose_no _ _ o))

-- an end has no request
no_request : (w : Core) (r : Rest) (out : List ℕ) {e : End} {status : ℕ} {tried : List ℕ} → r ≡ ended e status tried → with_request (request_name w r) out ≡ out
unfolding request_name with_request
no_request w r out h = ap (λ (x : Rest). with_request (request_name w x) out) h

-- what a call that is taken leaves stands
answered_stands : (o : Answered) (a : Answer) → AnswerStands (after_answer o a)
unfolding after_answer
answered_stands o (referral status reply clock out) = referral_stands o.refs o.doms o.left.texts o.left.walk status reply clock out
answered_stands o (io status clock out) = io_stands o.refs o.doms o.left.texts o.left.walk status clock out

-- one limit
module _ (l : ℕ) (good : good_limit l ≡ true) (h : Held) (s : Start) where
  to_list : {cs : Calls} {p : Opening} {n : ℕ} {ms : List Made} → Meets h s l cs p n → Moved l (clock_of s cs) s.boot n (run l h s cs) p ms → MovesOf l h s cs ms
  to_list {cs} {p} {n} {ms} c m =
      let e = comes_opening l good h s c in
      subst (λ (q : Opening). Moved l (clock_of s cs) s.boot (count_before l h s cs) (run l h s cs) q ms) e.0
      (subst (λ (k : ℕ). Moved l (clock_of s cs) s.boot k (run l h s cs) p ms) e.1 m)

  same_list_lem : {cs : Calls} {p : Opening} {n : ℕ} {b : Brings} → Meets h s l cs p n → Same l (clock_of s cs) s.boot (out_of s cs) n (run l h s cs) p b → SameIn l h s cs b
  same_list_lem {cs} {p} {n} {b} c m =
      let e = comes_opening l good h s c in
      subst (λ (q : Opening). Same l (clock_of s cs) s.boot (out_of s cs) (count_before l h s cs) (run l h s cs) q b) e.0
      (subst (λ (k : ℕ). Same l (clock_of s cs) s.boot (out_of s cs) k (run l h s cs) p b) e.1 m)

  until : {cs : Calls} {p : Opening} {n : ℕ} → Meets h s l cs p n → (CallsFor p (clock_of s cs) n (suc l) → ⊥)
      → (b : Brings) × (Call (clock_of s cs) s.boot (out_of s cs) n p b × SameIn l h s cs b)
  until {cs} {p} {n} c nc = go (comes_either l good h s c)
    where
      go : Either l (clock_of s cs) s.boot (out_of s cs) n (run l h s cs) p → (b : Brings) × (Call (clock_of s cs) s.boot (out_of s cs) n p b × SameIn l h s cs b)
      go (inl f) = (f.brings, (f.call, same_list_lem c f.same))
      go (inr k) = absurd (nc k.calls)

  cut : {cs : Calls} {p : Opening} {n : ℕ} → Meets h s l cs p n → (k : CallsFor p (clock_of s cs) n (suc l))
      → ((run l h s cs).left.verdict ≡ Ok tt) × ((observed (run l h s cs) ≡ rests_at k.turn.caches k.core (ended LimitReached 0 []) l)
      × MovesOf l h s cs (made_in k.turn.caches k.moves))
  cut {cs} {p} {n} c k = go (comes_either l good h s c)
    where
      go : Either l (clock_of s cs) s.boot (out_of s cs) n (run l h s cs) p
          → ((run l h s cs).left.verdict ≡ Ok tt) × ((observed (run l h s cs) ≡ rests_at k.turn.caches k.core (ended LimitReached 0 []) l)
          × MovesOf l h s cs (made_in k.turn.caches k.moves))
      go (inl f) = absurd (never_both f.within k)
      go (inr f) =
          let z = one_cut f.calls k in (
            f.is_taken,
            (
              f.sees ∙ (λ j. rests_at (z.0 j).caches (z.1.1 j) (ended LimitReached 0 []) l),
              to_list c
                  (subst (λ (ms : List Made). Moved l (clock_of s cs) s.boot n (run l h s cs) p ms) (λ j. made_in (z.0 j).caches (z.1.0 j)) f.moves),
            ),
          )

  -- the walk has been cut
  record Dead (cs : Calls) : Type 0 where
    fine : Fine l s.boot (run l h s cs)
    over : (observed (run l h s cs)).rest ≡ ended LimitReached 0 []

  dead_call : (cs : Calls) (a : Answer) → Dead cs → ((run l h s (then cs a)).left.verdict ≡ Ok tt → ⊥) × ((run l h s (then cs a)).left.verdict ≡ Err ShortBuffer → ⊥)
  unfolding run
  dead_call cs a d = go (later l good h s cs (observed (run l h s cs)) a (record { shows = refl; fine = d.fine }))
    where
      shut : (t : Turn) → answer_opening (observed (run l h s cs)) a ≡ opens t → ⊥
      shut t e = no_opening (observed (run l h s cs)) a (event_ended (observed (run l h s cs)) a d.over) t e

      go : Later l good h s cs (observed (run l h s cs)) a → ((after_answer (run l h s cs) a).left.verdict ≡ Ok tt → ⊥) × ((after_answer (run l h s cs) a).left.verdict ≡ Err ShortBuffer → ⊥)
      go (inl f) = (
        λ e. let z = taken_opens f.call f.same e in shut z.0 z.1,
        λ e. let z = short_opens f.call f.same f.early e in shut z.0 z.1,
      )
      go (inr k) = absurd (shut k.calls.turn k.calls.opening)

  dead_then : (cs : Calls) (a : Answer) → Dead cs → Dead (then cs a)
  unfolding run
  dead_then cs a d =
      let n = (dead_call cs a d).0 in
      record { fine = fine_kept l s.boot (run l h s cs) a n d.fine; over = ap (λ (u : Unlimited). u.rest) (seen_kept (run l h s cs) a n) ∙ d.over }

  dead_start : CutOff l s.clock s.boot s.out 0 (run l h s start) (start_opening h s) → Dead start
  unfolding rests_at
  dead_start k = record { fine = k.fine; over = ap (λ (u : Unlimited). u.rest) k.sees }

  dead_cut : (cs : Calls) (u : Unlimited) (a : Answer) → CutOff l (answer_clock a) s.boot (answer_out a) u.count (after_answer (run l h s cs) a) (answer_opening u a) → Dead (then cs a)
  unfolding rests_at run
  dead_cut cs u a k = record { fine = k.fine; over = ap (λ (v : Unlimited). v.rest) k.sees }

  begun : (b : Brings) → Call s.clock s.boot s.out 0 (start_opening h s) b → Same l s.clock s.boot s.out 0 (run l h s start) (start_opening h s) b
      → (CallsFor (start_opening h s) s.clock 0 (suc l) → ⊥) → (run l h s start).left.verdict ≡ Ok tt → (u : Unlimited) × Tracks h s l start u
  begun (number v) c m nc e =
      let z = same_numbered m in absurd (z.1.0 (sym z.0 ∙ e))
  begun (comes ms u) c m nc e = (u, tracks_start nc c)

  next : (cs : Calls) (u : Unlimited) (a : Answer) → Tracks h s l cs u → (b : Brings) → Call (answer_clock a) s.boot (answer_out a) u.count (answer_opening u a) b
      → (CallsFor (answer_opening u a) (answer_clock a) u.count (suc l) → ⊥) → (v : Unlimited) × Tracks h s l (then cs a) v
  next cs u a f (number v) c nc = (u, tracks_refused f nc c)
  next cs u a f (comes ms v) c nc = (v, tracks_taken f nc c)

  abbrev Alive : Calls → Type 0
  Alive cs = ((u : Unlimited) × Tracks h s l cs u) ⊎ Dead cs

  alive_start : (run l h s start).left.verdict ≡ Ok tt → Either l s.clock s.boot s.out 0 (run l h s start) (start_opening h s) → Alive start
  alive_start e (inl f) = inl (begun f.brings f.call f.same (never_both f.within) e)
  alive_start e (inr k) = inr (dead_start k)

  alive_next : (cs : Calls) (u : Unlimited) (a : Answer) → Tracks h s l cs u → Later l good h s cs u a → Alive (then cs a)
  alive_next cs u a f (inl g) = inl (next cs u a f g.brings g.call (never_both g.within))
  alive_next cs u a f (inr k) = inr (dead_cut cs u a k)

  alive_then : (cs : Calls) (a : Answer) → Alive cs → Alive (then cs a)
  alive_then cs a (inl f) = alive_next cs f.0 a f.1 (later l good h s cs f.0 a (agrees l good h s f.1))
  alive_then cs a (inr d) = inr (dead_then cs a d)

  alive : (run l h s start).left.verdict ≡ Ok tt → (cs : Calls) → Alive cs
  alive e start = alive_start e (at_start l good h s)
  alive e (then cs a) = alive_then cs a (alive e cs)

  -- the walk holds its limit and its bootstrap DC
  fine_after : (cs : Calls) → (run l h s start).left.verdict ≡ Ok tt → Fine l s.boot (run l h s cs)
  fine_after cs e = go (alive e cs)
    where
      go : Alive cs → Fine l s.boot (run l h s cs)
      go (inl f) = (agrees l good h s f.1).fine
      go (inr d) = d.fine

  -- the caches of the turn are those that the call leaves
  size_before : Calls → ℕ
  size_before start = s.size
  size_before (then cs a) = (observed (run l h s cs)).core.size

  turn_caches : (cs : Calls) (t : Turn) → InList l h s cs → opening l h s cs ≡ opens t → (observed (run l h s cs)).refs ≡ encode referrals t.caches.referrals
      → (observed (run l h s cs)).doms ≡ encode domains t.caches.domains → t.caches ≡ caches_of (run l h s cs).refs (run l h s cs).doms
  unfolding opening run observed
  turn_caches start t i e er ed =
      sym (ap (λ (x : Turn). x.caches) (start_goes_on h s t e)) ∙ started_caches (caches_of h.refs h.doms) (core_of (normalised s.path) s.size false) s.clock
  turn_caches (then cs a) t (an_answer b) e er ed =
      let g = good_event (run l h s cs) a t (order_of (observed (run l h s cs)) a t e) (fine_after cs b).form (answer_goes_on (observed (run l h s cs)) a t e) in
      sym (caches_back t.caches g.caches) ∙ (λ j. caches_of (sym er j) (sym ed j))

  -- its event keeps the path and the size
  turn_core : (cs : Calls) (t : Turn) → opening l h s cs ≡ opens t → (t.core.path ≡ path_before l h s cs) × (t.core.size ≡ size_before cs)
  unfolding opening path_before size_before
  turn_core start t e =
      let k = subst (λ (x : Turn). SameCore (core_of (normalised s.path) s.size false) x.core) (start_goes_on h s t e)
      (started_same (caches_of h.refs h.doms) (core_of (normalised s.path) s.size false) s.clock) in (k.path, k.size)
  turn_core (then cs a) t e =
      let k = event_same (observed (run l h s cs)) a t (answer_goes_on (observed (run l h s cs)) a t e) in (k.path, k.size)

  stands : (cs : Calls) → (run l h s cs).left.verdict ≡ Ok tt → Stands (run l h s cs).refs (run l h s cs).doms (run l h s cs).left.walk (run l h s cs).left.texts
  unfolding run StartStands AnswerStands refusal_number
  stands start v = start_stands h.refs h.doms h.texts h.walk s.path s.boot l s.size s.clock s.out (ap refusal_number v)
  stands (then cs a) v = answered_stands (run l h s cs) a (ap refusal_number v)

  -- the unlimited walk comes to every call, unless one before it called for a move over the limit
  abbrev Somewhere : Calls → Type 0
  Somewhere cs = ((u : Unlimited) × Tracks h s l cs u) ⊎ CutBy l h s cs

  first_somewhere : (run l h s start).left.verdict ≡ Ok tt → Either l s.clock s.boot s.out 0 (run l h s start) (start_opening h s) → Somewhere start
  unfolding clock_of
  first_somewhere e (inl f) = inl (begun f.brings f.call f.same (never_both f.within) e)
  first_somewhere e (inr k) = inr (in_it to_start k.calls)

  next_somewhere : (cs : Calls) (u : Unlimited) (a : Answer) → Tracks h s l cs u → Later l good h s cs u a → Somewhere (then cs a)
  unfolding clock_of
  next_somewhere cs u a f (inl g) = inl (next cs u a f g.brings g.call (never_both g.within))
  next_somewhere cs u a f (inr k) = inr (in_it (to_answer (tracks_follows f)) k.calls)

  then_somewhere : (cs : Calls) (a : Answer) → Somewhere cs → Somewhere (then cs a)
  then_somewhere cs a (inl f) = next_somewhere cs f.0 a f.1 (later l good h s cs f.0 a (agrees l good h s f.1))
  then_somewhere cs a (inr k) = inr (before_it k)

  somewhere : (run l h s start).left.verdict ≡ Ok tt → (cs : Calls) → Somewhere cs
  somewhere e start = first_somewhere e (at_start l good h s)
  somewhere e (then cs a) = then_somewhere cs a (somewhere e cs)

  every_call : (run l h s start).left.verdict ≡ Ok tt → (cs : Calls) → ((u : Unlimited) × (Follows h s cs u × (CutBy l h s cs → ⊥))) ⊎ CutBy l h s cs
  every_call e cs = go (somewhere e cs)
    where
      go : Somewhere cs → ((u : Unlimited) × (Follows h s cs u × (CutBy l h s cs → ⊥))) ⊎ CutBy l h s cs
      go (inl f) = inl (f.0, (tracks_follows f.1, tracks_uncut f.1))
      go (inr k) = inr k

  -- the unlimited walk comes to the last call of a list, or the walk was cut before it
  abbrev ComesTo : Calls → Type 0
  ComesTo cs = ((p : Opening) × ((n : ℕ) × Meets h s l cs p n)) ⊎ (((run l h s cs).left.verdict ≡ Ok tt → ⊥) × ((run l h s cs).left.verdict ≡ Err ShortBuffer → ⊥))

  comes_then : (cs : Calls) (a : Answer) → Alive cs → ComesTo (then cs a)
  comes_then cs a (inl f) = inl (answer_opening f.0 a, (f.0.count, meets_answer f.1))
  comes_then cs a (inr d) = inr (dead_call cs a d)

  comes_to : (cs : Calls) → InList l h s cs → ComesTo cs
  comes_to cs the_start = inl (start_opening h s, (0, meets_start))
  comes_to cs (an_answer {cs = ds} {a = a} e) = comes_then ds a (alive e ds)

  ten_then : (cs : Calls) → InList l h s cs → (run l h s cs).left.verdict ≡ Err ShortBuffer → TooShort l h s cs
  ten_then cs i e = go (comes_to cs i)
    where
      tell : {p : Opening} {n : ℕ} → Meets h s l cs p n → Either l (clock_of s cs) s.boot (out_of s cs) n (run l h s cs) p → TooShort l h s cs
      tell c (inr k) = absurd (short_not e k.is_taken)
      tell {p} {n} c (inl f) =
          let z = ten_call f.call f.same f.early e in
          record {
            opening = p;
            count = n;
            comes_to = meets_comes c;
            uncut = meets_none c (never_both f.within);
            turn = z.turn;
            opened = z.opened;
            moves = z.moves;
            core = z.core;
            question = z.long.question;
            rests = subst (λ (r : Rest). Rests z.turn (clock_of s cs) s.boot z.moves z.core r) z.long.is z.way;
            name = z.long.name;
            named = ap (request_name z.core) (sym z.long.is) ∙ z.long.named;
            long = z.long.long;
          }

      go : ComesTo cs → TooShort l h s cs
      go (inl c) = tell c.1.1 (comes_either l good h s c.1.1)
      go (inr d) = absurd (d.1 e)

  ten_only : (cs : Calls) → TooShort l h s cs → (run l h s cs).left.verdict ≡ Err ShortBuffer
  unfolding name_fits
  ten_only cs x =
      let u = until (meets x.comes_to (λ k. x.uncut (earlier_cut k))) (λ k. x.uncut (in_it x.comes_to k)) in
      let f : name_fits (length (out_of s cs)) (request_name x.core (waits x.question)) ≡ false =
      ap (name_fits (length (out_of s cs))) x.named ∙ lt-leb (length (request x.name)) (length (out_of s cs)) x.long in
      let c : Call (clock_of s cs) s.boot (out_of s cs) x.count x.opening (number (Err ShortBuffer)) =
      subst (λ (p : Opening). Call (clock_of s cs) s.boot (out_of s cs) x.count p (number (Err ShortBuffer))) (sym x.opened) (short x.rests f) in
      (same_numbered (subst (SameIn l h s cs) (one_walk u.1.0 c) u.1.1)).0

  moves_of : (cs : Calls) → InList l h s cs → (ms : List Made) × MovesOf l h s cs ms
  moves_of cs i = go (comes_to cs i)
    where
      shown : {p : Opening} {n : ℕ} {b : Brings} → Same l (clock_of s cs) s.boot (out_of s cs) n (run l h s cs) p b
          → (ms : List Made) × Moved l (clock_of s cs) s.boot n (run l h s cs) p ms
      shown (same_number e f m) = ([], m)
      shown (same_rest {ms = ms} v e w m) = (ms, m)

      tell : {p : Opening} {n : ℕ} → Meets h s l cs p n → Either l (clock_of s cs) s.boot (out_of s cs) n (run l h s cs) p → (ms : List Made) × MovesOf l h s cs ms
      tell c (inl f) =
          let z = shown f.same in (z.0, to_list c z.1)
      tell c (inr k) = (made_in k.calls.turn.caches k.calls.moves, to_list c k.moves)

      go : ComesTo cs → (ms : List Made) × MovesOf l h s cs ms
      go (inl c) = tell c.1.1 (comes_either l good h s c.1.1)
      go (inr d) = ([], no_move d.0)

  taken_boot : (cs : Calls) → InList l h s cs → (run l h s cs).left.verdict ≡ Ok tt → boot_in (run l h s cs).left.walk (run l h s cs).left.texts ≡ s.boot
  taken_boot start i v = (fine_after start v).boot_is
  taken_boot (then cs a) (an_answer b) v = (fine_after (then cs a) b).boot_is

  caches_after : (cs : Calls) {ms : List Made} → InList l h s cs → (run l h s cs).left.verdict ≡ Ok tt → MovesOf l h s cs ms
      → (moves : List Move) × (ms ≡ map (λ m. record { move = m; caches = caches_of (run l h s cs).refs (run l h s cs).doms }) moves)
  unfolding made_in
  caches_after cs i v m =
      let z = way m v in
      let moves = z.replacements ++ last_move z.turn.caches s.boot (observed (run l h s cs)).core (observed (run l h s cs)).rest in
      (moves, z.list ∙ ap (λ (c : Caches). made_in c moves) (turn_caches cs z.turn i z.opened z.refs_are z.doms_are))

  last_shown : (cs : Calls) {ms : List Made} {q : Question} → InList l h s cs → (run l h s cs).left.verdict ≡ Ok tt → (observed (run l h s cs)).rest ≡ waits q → MovesOf l h s cs ms
      → (first : List Made) × (ms ≡ first ++ (record { move = shown_move (run l h s cs) q; caches = caches_of (run l h s cs).refs (run l h s cs).doms } ∷ []))
  unfolding shown_move observed last_move question_shown party_text made_in
  last_shown cs {ms} {q} i v e m =
      let z = way m v in
      let w = core_in (run l h s cs).left.walk (run l h s cs).left.texts in
      let c = turn_caches cs z.turn i z.opened z.refs_are z.doms_are in
      let b = taken_boot cs i v in
      let t = (stands cs v).there q e in
      let party : party_of z.turn.caches w s.boot q
      ≡ party_text (caches_of (run l h s cs).refs (run l h s cs).doms) w (boot_in (run l h s cs).left.walk (run l h s cs).left.texts) q =
      (λ j. party_of (c j) w (sym b j) q) ∙ sym (choose_yes _ _ t) in (
        made_in z.turn.caches z.replacements,
        z.list
            ∙ ((λ j. made_in z.turn.caches (z.replacements ++ last_move z.turn.caches s.boot w (e j)))
            ∙ (made_more z.turn.caches z.replacements (last_move z.turn.caches s.boot w (waits q))
            ∙ (λ j. made_in z.turn.caches z.replacements ++ (record { move = question q.kind q.party (party j) (name_asked w q) q.size; caches = c j } ∷ [])))),
      )

  path_left : (cs : Calls) {ms : List Made} → InList l h s cs → (run l h s cs).left.verdict ≡ Ok tt → MovesOf l h s cs ms
      → (observed (run l h s cs)).core.path ≡ path_after (path_before l h s cs) ms
  path_left cs {ms} i v m =
      let z = way m v in
      path_moved_lem z ∙ ap (λ (p : List ℕ). path_after p ms) (turn_core cs z.turn z.opened).0

  -- the size stays what the start was given
  size_left : (cs : Calls) → InList l h s cs → (run l h s cs).left.verdict ≡ Ok tt → (observed (run l h s cs)).core.size ≡ size_before cs
  size_left cs i v =
      let z = way (moves_of cs i).1 v in
      size_moved z ∙ (turn_core cs z.turn z.opened).1

  size_kept : (cs : Calls) → (run l h s start).left.verdict ≡ Ok tt → (observed (run l h s cs)).core.size ≡ s.size
  unfolding size_before run
  size_kept start e = size_left start the_start e
  size_kept (then cs a) e = go (taken_or_not (run l h s (then cs a)).left.verdict) (size_kept cs e)
    where
      go : ((run l h s (then cs a)).left.verdict ≡ Ok tt) ⊎ ((run l h s (then cs a)).left.verdict ≡ Ok tt → ⊥) → (observed (run l h s cs)).core.size ≡ s.size
          → (observed (run l h s (then cs a))).core.size ≡ s.size
      go (inl v) f = size_left (then cs a) (an_answer e) v ∙ f
      go (inr n) f = ap (λ (u : Unlimited). u.core.size) (seen_kept (run l h s cs) a n) ∙ f

  settings_kept : (cs : Calls) → (run l h s start).left.verdict ≡ Ok tt
      → ((run l h s cs).left.walk.limit ≡ l) × (((run l h s cs).left.walk.size ≡ s.size) × (boot_in (run l h s cs).left.walk (run l h s cs).left.texts ≡ s.boot))
  unfolding observed core_in
  settings_kept cs e = let f = fine_after cs e in (f.limit, (size_kept cs e, f.boot_is))

  start_kept : ((run l h s start).left.verdict ≡ Ok tt → ⊥)
      → ((run l h s start).left.walk ≡ h.walk) × (((run l h s start).left.texts ≡ h.texts) × ((run l h s start).left.out ≡ s.out))
  start_kept n =
      let e = start_identity l h s n in
      (ap (λ (o : Answered). o.left.walk) e, (ap (λ (o : Answered). o.left.texts) e, ap (λ (o : Answered). o.left.out) e))

  answer_kept : (cs : Calls) (a : Answer) → ((run l h s (then cs a)).left.verdict ≡ Ok tt → ⊥)
      → ((run l h s (then cs a)).left.walk ≡ (run l h s cs).left.walk) × (((run l h s (then cs a)).left.texts ≡ (run l h s cs).left.texts)
      × (((run l h s (then cs a)).refs ≡ (run l h s cs).refs) × (((run l h s (then cs a)).doms ≡ (run l h s cs).doms)
      × ((run l h s (then cs a)).left.out ≡ out_of s (then cs a)))))
  unfolding run out_of
  answer_kept cs a n =
      let e = answer_identity (run l h s cs) a n in (
        ap (λ (o : Answered). o.left.walk) e,
        (ap (λ (o : Answered). o.left.texts) e, (ap (λ (o : Answered). o.refs) e, (ap (λ (o : Answered). o.doms) e, ap (λ (o : Answered). o.left.out) e))),
      )

  -- the last call of a list that the unlimited walk has followed
  last_call : {cs : Calls} {u : Unlimited} → Tracks h s l cs u → (p : Opening) × ((n : ℕ) × (Meets h s l cs p n × (CallsFor p (clock_of s cs) n (suc l) → ⊥)))
  unfolding clock_of
  last_call (tracks_start nc c) = (start_opening h s, (0, (meets_start, nc)))
  last_call (tracks_refused {u = u} {a = a} f nc c) = (answer_opening u a, (u.count, (meets_answer f, nc)))
  last_call (tracks_taken {u = u} {a = a} f nc c) = (answer_opening u a, (u.count, (meets_answer f, nc)))

  reached : (cs : Calls) → InList l h s cs → EndsIn l h s cs LimitReached
      → (p : Opening) × ((n : ℕ) × (Meets h s l cs p n × CallsFor p (clock_of s cs) n (suc l)))
  reached cs i e = go (comes_to cs i)
    where
      tell : (p : Opening) (n : ℕ) → Meets h s l cs p n → Either l (clock_of s cs) s.boot (out_of s cs) n (run l h s cs) p
          → (q : Opening) × ((k : ℕ) × (Meets h s l cs q k × CallsFor q (clock_of s cs) k (suc l)))
      tell p n c (inl f) = absurd (never_24 f.call f.same (comes_no l good h s c) e.0 e.1.1.1)
      tell p n c (inr k) = (p, (n, (c, k.calls)))

      go : ComesTo cs → (p : Opening) × ((n : ℕ) × (Meets h s l cs p n × CallsFor p (clock_of s cs) n (suc l)))
      go (inl c) = tell c.0 c.1.0 c.1.1 (comes_either l good h s c.1.1)
      go (inr d) = absurd (d.0 e.0)

  reached_then : (cs : Calls) → InList l h s cs → EndsIn l h s cs LimitReached
      → (p : Opening) × ((n : ℕ) × (Comes h s cs p n × ((CutBefore l h s cs → ⊥) × CallsFor p (clock_of s cs) n (suc l))))
  reached_then cs i e =
      let c = reached cs i e in (c.0, (c.1.0, (meets_comes c.1.1.0, (meets_uncut c.1.1.0, c.1.1.1))))

  -- the buffer stays where a call is refused, and where the walk ends in it
  out_refused : (cs : Calls) → ((run l h s cs).left.verdict ≡ Ok tt → ⊥) → (run l h s cs).left.out ≡ out_of s cs
  unfolding out_of
  out_refused start n = (start_kept n).1.1
  out_refused (then cs a) n = (answer_kept cs a n).1.1.1.1

  out_ended : (cs : Calls) {e : End} → InList l h s cs → EndsIn l h s cs e → (run l h s cs).left.out ≡ out_of s cs
  out_ended cs {e} i x = go (comes_to cs i)
    where
      shown : {p : Opening} {n : ℕ} {b : Brings} → Same l (clock_of s cs) s.boot (out_of s cs) n (run l h s cs) p b → (run l h s cs).left.out ≡ out_of s cs
      shown (same_number v f m) = absurd (f (sym v ∙ x.0))
      shown (same_rest {u = u} v f w m) = w ∙ no_request u.core u.rest (out_of s cs) (ap (λ (y : Unlimited). y.rest) (sym f) ∙ x.1.1.1)

      tell : {p : Opening} {n : ℕ} → Either l (clock_of s cs) s.boot (out_of s cs) n (run l h s cs) p → (run l h s cs).left.out ≡ out_of s cs
      tell (inl f) = shown f.same
      tell (inr k) = k.writes

      go : ComesTo cs → (run l h s cs).left.out ≡ out_of s cs
      go (inl c) = tell (comes_either l good h s c.1.1)
      go (inr d) = absurd (d.0 x.0)

  buffer_stays : (cs : Calls) → InList l h s cs → ((run l h s cs).left.verdict ≡ Ok tt → ⊥) ⊎ ((e : End) × EndsIn l h s cs e) → (run l h s cs).left.out ≡ out_of s cs
  buffer_stays cs i (inl n) = out_refused cs n
  buffer_stays cs i (inr x) = out_ended cs i x.1

cut_end : (u : Unlimited) (c : Caches) (w : Core) (l : ℕ) {e : End} {status : ℕ} {tried : List ℕ} → u ≡ rests_at c w (ended LimitReached 0 []) l
    → u.rest ≡ ended e status tried → e ≡ LimitReached
unfolding rests_at
cut_end u c w l a b =
    let z : u.rest ≡ ended LimitReached 0 [] = ap (λ (v : Unlimited). v.rest) a in cc

-- two limits
module _ (l m : ℕ) (low : good_limit l ≡ true) (high : good_limit m ≡ true) (le : l ≤ m) (h : Held) (s : Start) where
  further : {cs : Calls} {u : Unlimited} → Tracks h s l cs u → Tracks h s m cs u
  further (tracks_start nc c) = tracks_start (λ k. nc (earlier (omega arith) le k)) c
  further (tracks_refused f nc c) = tracks_refused (further f) (λ k. nc (earlier (few l low h s f) le k)) c
  further (tracks_taken f nc c) = tracks_taken (further f) (λ k. nc (earlier (few l low h s f) le k)) c

  comes_further : {cs : Calls} {p : Opening} {n : ℕ} → Meets h s l cs p n → Meets h s m cs p n
  comes_further meets_start = meets_start
  comes_further (meets_answer f) = meets_answer (further f)

  -- a call in which neither is cut
  record Alike (cs : Calls) : Type 0 where
    verdict : (run m h s cs).left.verdict ≡ (run l h s cs).left.verdict
    moves : List Made
    low_moves : MovesOf l h s cs moves
    high_moves : MovesOf m h s cs moves
    sees : (run l h s cs).left.verdict ≡ Ok tt → observed (run m h s cs) ≡ observed (run l h s cs)
    writes : (run l h s cs).left.verdict ≡ Ok tt → (run m h s cs).left.out ≡ (run l h s cs).left.out

  both : (cs : Calls) {b : Brings} → SameIn l h s cs b → SameIn m h s cs b → Alike cs
  both cs (same_number a f x) (same_number b g y) =
      record { verdict = b ∙ sym a; moves = []; low_moves = x; high_moves = y; sees = λ e. absurd (f (sym a ∙ e)); writes = λ e. absurd (f (sym a ∙ e)) }
  both cs (same_rest {ms = ms} a f u x) (same_rest b g v y) =
      record { verdict = b ∙ sym a; moves = ms; low_moves = x; high_moves = y; sees = λ e. g ∙ sym f; writes = λ e. v ∙ sym u }

  alike : (cs : Calls) {p : Opening} {n : ℕ} → Meets h s l cs p n → (CallsFor p (clock_of s cs) n (suc l) → ⊥) → Alike cs
  alike cs c nc =
      let x = until l low h s c nc in
      let y = until m high h s (comes_further c) (λ k. nc (earlier (comes_few l low h s c) le k)) in
      both cs x.1.1 (subst (SameIn m h s cs) (one_walk y.1.0 x.1.0) y.1.1)

  start_alike : Alike start → ((run l h s start).left.verdict ≡ Ok tt → ⊥) → run m h s start ≡ run l h s start
  start_alike a n =
      start_identity m h s (λ e. n (sym a.verdict ∙ e))
      ∙ ((λ j. record { left = refused (a.verdict j) h.walk h.texts s.out; refs = h.refs; doms = h.doms }) ∙ sym (start_identity l h s n))

  start_refused : ((run l h s start).left.verdict ≡ Ok tt → ⊥) → run m h s start ≡ run l h s start
  unfolding clock_of
  start_refused n = go (at_start l low h s)
    where
      go : Either l s.clock s.boot s.out 0 (run l h s start) (start_opening h s) → run m h s start ≡ run l h s start
      go (inl f) = start_alike (alike start meets_start (never_both f.within)) n
      go (inr k) = absurd (n k.is_taken)

  -- what is in the buffer where a call is refused
  kept_out : (run l h s start).left.verdict ≡ Ok tt → (cs : Calls) → Alike cs → ((run l h s cs).left.verdict ≡ Ok tt → ⊥) → (run m h s cs).left.out ≡ (run l h s cs).left.out
  kept_out e start a n = absurd (n e)
  kept_out e (then cs b) a n =
      (answer_kept m high h s cs b (λ f. n (sym a.verdict ∙ f))).1.1.1.1 ∙ sym (answer_kept l low h s cs b n).1.1.1.1

  abbrev Together : Calls → Type 0
  Together cs =
      ((run m h s cs).left.verdict ≡ (run l h s cs).left.verdict) × ((observed (run m h s cs) ≡ observed (run l h s cs))
      × (((run m h s cs).left.out ≡ (run l h s cs).left.out) × ((ms : List Made) × (MovesOf l h s cs ms × MovesOf m h s cs ms))))

  together : (run l h s start).left.verdict ≡ Ok tt → (cs : Calls) → WaitsAfter l h s cs → Together cs
  together e cs w = go (alive l low h s e cs)
    where
      out : Alike cs → ((run l h s cs).left.verdict ≡ Ok tt) ⊎ ((run l h s cs).left.verdict ≡ Ok tt → ⊥) → (run m h s cs).left.out ≡ (run l h s cs).left.out
      out a (inl t) = a.writes t
      out a (inr n) = kept_out e cs a n

      go : Alive l low h s cs → Together cs
      go (inl f) =
          let c = last_call l low h s f.1 in
          let a = alike cs c.1.1.0 c.1.1.1 in (
            a.verdict,
            (
              (agrees m high h s (further f.1)).shows ∙ sym (agrees l low h s f.1).shows,
              (out a (taken_or_not (run l h s cs).left.verdict), (a.moves, (a.low_moves, a.high_moves))),
            ),
          )
      go (inr d) = absurd (let z : ◌≡◌ {A = ℕ} 0 1 = cc (d.over, w.1) in omega arith)

  ends_alike : (cs : Calls) {e : End} → InList l h s cs → (e ≡ LimitReached → ⊥) → EndsIn l h s cs e
      → ((run m h s cs).left.verdict ≡ Ok tt) × ((observed (run m h s cs) ≡ observed (run l h s cs))
      × ((ms : List Made) × (MovesOf l h s cs ms × MovesOf m h s cs ms)))
  ends_alike cs {e} i n x = go (comes_to l low h s cs i)
    where
      told_of : Alike cs
          → ((run m h s cs).left.verdict ≡ Ok tt) × ((observed (run m h s cs) ≡ observed (run l h s cs))
          × ((ms : List Made) × (MovesOf l h s cs ms × MovesOf m h s cs ms)))
      told_of a = (a.verdict ∙ x.0, (a.sees x.0, (a.moves, (a.low_moves, a.high_moves))))

      tell : {p : Opening} {k : ℕ} → Meets h s l cs p k → Either l (clock_of s cs) s.boot (out_of s cs) k (run l h s cs) p
          → ((run m h s cs).left.verdict ≡ Ok tt) × ((observed (run m h s cs) ≡ observed (run l h s cs))
          × ((ms : List Made) × (MovesOf l h s cs ms × MovesOf m h s cs ms)))
      tell c (inl f) = told_of (alike cs c (never_both f.within))
      tell c (inr k) = absurd (n (cut_end (observed (run l h s cs)) _ _ _ k.sees x.1.1.1))

      go : ComesTo l low h s cs
          → ((run m h s cs).left.verdict ≡ Ok tt) × ((observed (run m h s cs) ≡ observed (run l h s cs))
          × ((ms : List Made) × (MovesOf l h s cs ms × MovesOf m h s cs ms)))
      go (inl c) = tell c.1.1 (comes_either l low h s c.1.1)
      go (inr d) = absurd (d.0 x.0)

  abbrev FirstTheSame : Calls → Type 0
  FirstTheSame cs =
      ((run m h s cs).left.verdict ≡ Err ShortBuffer) ⊎ ((ms : List Made) × ((more : List Made) × (MovesOf l h s cs ms × MovesOf m h s cs (ms ++ more))))

  first_the_same : (cs : Calls) → InList l h s cs → EndsIn l h s cs LimitReached → FirstTheSame cs
  first_the_same cs i x = go (reached l low h s cs i x)
    where
      long : {p : Opening} {n : ℕ} → Meets h s m cs p n → {ms ns : List Made} → MovesOf l h s cs ms → Begins ms ns → Moved m (clock_of s cs) s.boot n (run m h s cs) p ns
          → FirstTheSame cs
      long c {ms} {ns} a b y = inr (ms, (b.more, (a, subst (MovesOf m h s cs) b.is (to_list m high h s c y))))

      begun_with : {p : Opening} {n : ℕ} → Meets h s m cs p n → (k : CallsFor p (clock_of s cs) n (suc l)) → MovesOf l h s cs (made_in k.turn.caches k.moves)
          → ((run m h s cs).left.verdict ≡ Err ShortBuffer)
          ⊎ ((ns : List Made) × (Begins (made_in k.turn.caches k.moves) ns × Moved m (clock_of s cs) s.boot n (run m h s cs) p ns)) → FirstTheSame cs
      begun_with c k a (inl e) = inl e
      begun_with c k a (inr z) = long c a z.1.0 z.1.1

      tell : {p : Opening} {n : ℕ} → Meets h s m cs p n → (k : CallsFor p (clock_of s cs) n (suc l)) → MovesOf l h s cs (made_in k.turn.caches k.moves)
          → Either m (clock_of s cs) s.boot (out_of s cs) n (run m h s cs) p → FirstTheSame cs
      tell c k a (inl f) = begun_with c k a (longer_call f.call f.same k)
      tell c k a (inr f) = long c a (longer_cut le k f.calls) f.moves

      go : (p : Opening) × ((n : ℕ) × (Meets h s l cs p n × CallsFor p (clock_of s cs) n (suc l))) → FirstTheSame cs
      go c =
          let d = c.1.1.0 in
          let k = c.1.1.1 in
          tell (comes_further d) k (cut l low h s d k).1.1 (comes_either m high h s (comes_further d))

good_limit_lem : (l : ℕ) → 1 ≤ l → l ≤ 64 → good_limit l ≡ true
unfolding good_limit
good_limit_lem l a b = and_both (le-leb 1 l a) (le-leb l 64 b)

-- Demand 3: for every start, every list of answers, all caches, and all limits L no greater than M from 1 to 64.
pub limit_only_cuts : (h : Held) (s : Start) (l m : ℕ) → 1 ≤ l → l ≤ m → m ≤ 64 → LimitOnlyCuts h s l m
limit_only_cuts h s l m a b c =
    let low = good_limit_lem l a (omega arith) in
    let high = good_limit_lem m (omega arith) c in
    record {
      each_gets = gets l h s;
      start_ends = started_list;
      every_call = λ cs e. every_call l low h s e cs;
      one_unlimited = one_unlimited;
      as_far = λ f n. tracks_uncut (further l m low high b h s (tracks f n));
      settings_kept = settings_kept l low h s;
      one_walk = one_walk;
      rests_or_calls = rests_or_calls l;
      never_both = never_both;
      ten_then = ten_then l low h s;
      ten_only_then = ten_only l low h s;
      first_zero = first_zero;
      start_goes_on = start_goes_on h s;
      answer_goes_on = answer_goes_on;
      start_changes_nothing = start_kept l low h s;
      no_change = answer_kept l low h s;
      buffer_stays = buffer_stays l low h s;
      question_called_for = question_halts;
      replacement_called_for = replacement_made;
      until_then_same = λ cs x n. until l low h s (meets x (λ k. n (earlier_cut k))) (λ k. n (in_it x k));
      then_cut = λ cs x n k. cut l low h s (meets x n) k;
      moves_of_a_call = moves_of l low h s;
      caches_after = λ cs i v m. caches_after l low h s cs i v m;
      last_shown = λ cs i v e m. last_shown l low h s cs i v e m;
      path_left = λ cs i v m. path_left l low h s cs i v m;
      moves_one_list = λ cs x y. one_list x y;
      exported = exported l h s;
      start_refused = start_refused l m low high b h s;
      until_the_end = λ cs e w. together l m low high b h s e cs w;
      ends_alike = λ cs i n x. ends_alike l m low high b h s cs i n x;
      first_the_same = first_the_same l m low high b h s;
      limit_reached_then = λ cs i e. reached_then l low h s cs i e;
      replacement_is_a_move = is_a_move;
    }
