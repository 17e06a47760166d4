-- A walk with a limit along a list of calls, against the unlimited walk.
use mathlib.Core.Path.{◌≡◌, refl, sym, ap, ◌∙◌, subst}
use mathlib.Core.Bool.{Bool, true, false, ◌&&◌}
use mathlib.Core.List.{List, []}
use mathlib.Core.Logic.{◌⊎◌, inl, inr}
use Prim.Native.Nat.{ℕ, suc, ◌-◌, ◌≤◌}
use native.Mathlib.Omega.{arith}
use borrow.Author.Tests.{leb-true}
use Rattle.std.specs.Prelude.{Ok, Err, Option, None, Some}
use Rattle.laws.specs.Choice.{choose}
use Rattle.laws.proofs.Choices.{choose_yes, choose_no, and_left, and_right}
use Rattle.laws.proofs.Orders.{told}
use Rattle.unc.specs.names.Names.{good_name}
use Rattle.unc.specs.names.Paths.{normalised}
use Rattle.cache.specs.order.Memory.{referrals, domains, in_order}
use Rattle.cache_store.specs.domain_cache.Domains.{good_size}
use Rattle.walk_steps.specs.steps.Steps.{started, Turn, Rest, ended, Resting}
use Rattle.walk_steps.specs.steps.Held.{caches_of, core_of}
use Rattle.walk_steps.specs.declared.steps.End.{End}
use Rattle.walk_form.specs.held.Walks.{good_limit, in_form, boot_in}
use Rattle.walk_form.specs.held.Walks.{core_in}
use Rattle.walk_calls.specs.call_end.Closing.{Left, refused}
use Rattle.walk_calls.specs.calls.Calls.{Answered, refused_answer, rest_in, referral_event, io_event}
use Rattle.walk_calls.specs.call_end.Closing.{Verdict}
use Rattle.walk_calls.specs.declared.call_end.Refusal.TheVariants.{ShortBuffer}
use Rattle.theorems.specs.keeps.Code.{Proper}
use Rattle.theorems.proofs.keeps.RestLaws.{GoodTurn, turned_proper}
use Rattle.theorems.proofs.keeps.EventLaws.{path_counted, started_proper, referral_good, io_good}
use Rattle.theorems.proofs.keeps.BackLaws.{caches_good, form_proper, core_back, rest_back, boot_back, proper_form, form_settings}
use Rattle.theorems.proofs.keeps.CallLaws.{start_keeps, referral_keeps, io_keeps}
use Rattle.theorems.specs.limit.Unlimited.{Opening, opens, refuses, Unlimited, Made, CallsForMore, Brings, number, comes, Call, refused as call-refused, short, taken, CallsFor}
use Rattle.theorems.specs.limit.Calls.{Held, Start, Answer, referral, io, Calls, start, then, run, after_answer, answer_clock, answer_out, clock_of, out_of, observed, start_opening, event_of, event_opening, answer_opening, opening, count_before, Moved, Same, same_number, same_rest}
use Rattle.theorems.proofs.limit.Once.{as_many, cut_short}
use Rattle.theorems.proofs.limit.Along.{one_walk, Tracks, tracks_start, tracks_refused, tracks_taken, Meets, meets_start, meets_answer}
use Rattle.theorems.proofs.limit.Classify.{Fine, opens_same, not_refused}
use Rattle.theorems.proofs.limit.CallLaws.{Back, BackAfter, BackStart, Either, answer_either, start_either}
use Rattle.theorems.proofs.limit.NoLimit.{NoLimit, started_no, referral_event_no, io_event_no}

-- the walk that a rest leaves is read back
back_of : (l : ℕ) (boot : List ℕ) (x : Resting) → good_limit l ≡ true → good_name boot ≡ true → Proper x.core x.rest → Back l boot x
back_of l boot x g b p =
    record { core = core_back l boot x p; rest = rest_back l boot x p; boot_is = boot_back l boot x p; form = proper_form l boot x p g b }

back_start : (l : ℕ) (h : Held) (s : Start) → good_limit l ≡ true → BackStart l h s
back_start l h s g a =
    back_of l s.boot _ g (and_right (good_size s.size) _ a.settings)
    (started_proper (caches_of h.refs h.doms) (caches_good h.refs h.doms a.order) (core_of (normalised s.path) s.size false) (and_left _ _ a.settings)
    (path_counted s.path a.path (leb-true _ _ a.short)) l s.clock)

pub good_event : (o : Answered) (a : Answer) (t : Turn) → (in_order referrals o.refs && in_order domains o.doms) ≡ true
    → in_form o.left.walk o.left.texts ≡ true → event_of (observed o) a ≡ Some t → GoodTurn t
unfolding event_of observed
good_event o (referral status reply clock out) t h f e =
    referral_good (caches_of o.refs o.doms) (caches_good o.refs o.doms h) (core_in o.left.walk o.left.texts) (rest_in o.left.walk o.left.texts)
    (form_proper o.left.walk o.left.texts f) status reply clock t e
good_event o (io status clock out) t h f e =
    io_good (caches_of o.refs o.doms) (caches_good o.refs o.doms h) (core_in o.left.walk o.left.texts) (rest_in o.left.walk o.left.texts)
    (form_proper o.left.walk o.left.texts f) status t e

back_after : (o : Answered) (a : Answer) → BackAfter o a
back_after o a t h f e =
    let s = form_settings o.left.walk o.left.texts f in
    back_of o.left.walk.limit (boot_in o.left.walk o.left.texts) _ s.0 s.1 (turned_proper _ (answer_clock a) t (good_event o a t h f e))

-- an answer to a walk that shows u
either_at : (l : ℕ) (boot : List ℕ) (o : Answered) (a : Answer) (u : Unlimited) → Fine l boot o → observed o ≡ u
    → Either l (answer_clock a) boot (answer_out a) u.count (after_answer o a) (answer_opening u a)
unfolding observed
either_at l boot o a u f e =
    subst (λ (v : Unlimited). Either l (answer_clock a) boot (answer_out a) v.count (after_answer o a) (answer_opening v a)) e
    (subst (λ (b : List ℕ). Either l (answer_clock a) b (answer_out a) o.left.walk.moves (after_answer o a) (answer_opening (observed o) a)) f.boot_is
    (subst (λ (k : ℕ). Either k (answer_clock a) (boot_in o.left.walk o.left.texts) (answer_out a) o.left.walk.moves (after_answer o a) (answer_opening (observed o) a)) f.limit
    (answer_either o a f.form (omega (arith, f.few, f.limit)) (back_after o a))))

-- a refused answer changes nothing
pub answer_identity : (o : Answered) (a : Answer) → ((after_answer o a).left.verdict ≡ Ok tt → ⊥)
    → after_answer o a ≡ refused_answer (after_answer o a).left.verdict o.left.walk o.left.texts (answer_out a) o.refs o.doms
unfolding after_answer answer_out
answer_identity o (referral status reply clock out) n = (referral_keeps o.refs o.doms o.left.texts o.left.walk status reply clock out).identity n
answer_identity o (io status clock out) n = (io_keeps o.refs o.doms o.left.texts o.left.walk status clock out).identity n

pub seen_kept : (o : Answered) (a : Answer) → ((after_answer o a).left.verdict ≡ Ok tt → ⊥) → observed (after_answer o a) ≡ observed o
unfolding observed
seen_kept o a n = ap observed (answer_identity o a n)

pub fine_kept : (l : ℕ) (boot : List ℕ) (o : Answered) (a : Answer) → ((after_answer o a).left.verdict ≡ Ok tt → ⊥) → Fine l boot o → Fine l boot (after_answer o a)
fine_kept l boot o a n f =
    subst (Fine l boot) (sym (answer_identity o a n)) (record { form = f.form; limit = f.limit; boot_is = f.boot_is; few = f.few })

pub start_identity : (l : ℕ) (h : Held) (s : Start) → ((run l h s start).left.verdict ≡ Ok tt → ⊥)
    → run l h s start ≡ record { left = refused (run l h s start).left.verdict h.walk h.texts s.out; refs = h.refs; doms = h.doms }
unfolding run
start_identity l h s n =
    ap (λ (x : Left). record { left = x; refs = h.refs; doms = h.doms })
    ((start_keeps h.refs h.doms h.texts h.walk s.path s.boot l s.size s.clock s.out).identity n)

-- what a call shows, taken apart
module _ {l clock : ℕ} {boot out : List ℕ} {n : ℕ} {o : Answered} where
  pub same_comes : {p : Opening} {ms : List Made} {u : Unlimited} → Same l clock boot out n o p (comes ms u) → (o.left.verdict ≡ Ok tt) × ((observed o ≡ u) × Moved l clock boot n o p ms)
  same_comes (same_rest v e w m) = (v, (e, m))

  pub same_numbered : {p : Opening} {v : Verdict} → Same l clock boot out n o p (number v) → (o.left.verdict ≡ v) × ((v ≡ Ok tt → ⊥) × Moved l clock boot n o p [])
  same_numbered (same_number e f m) = (e, (f, m))

  -- a call that is taken has an event
  pub taken_opens : {p : Opening} {b : Brings} → Call clock boot out n p b → Same l clock boot out n o p b → o.left.verdict ≡ Ok tt → (t : Turn) × (p ≡ opens t)
  taken_opens call-refused c e =
      let z = same_numbered c in absurd (z.1.0 (sym z.0 ∙ e))
  taken_opens (short {t = t} x f) c e = (t, refl)
  taken_opens (taken {t = t} x f) c e = (t, refl)

  -- and so has one that is refused by 10
  pub short_opens : {p : Opening} {b : Brings} → Call clock boot out n p b → Same l clock boot out n o p b → (p ≡ refuses (Err ShortBuffer) → ⊥) → o.left.verdict ≡ Err ShortBuffer → (t : Turn) × (p ≡ opens t)
  short_opens call-refused c g e =
      let z = same_numbered c in absurd (g (ap refuses (sym z.0 ∙ e)))
  short_opens (short {t = t} x f) c g e = (t, refl)
  short_opens (taken {t = t} x f) c g e = (t, refl)

-- a walk that has ended takes no answer
pub event_ended : (u : Unlimited) (a : Answer) {e : End} {status : ℕ} {tried : List ℕ} → u.rest ≡ ended e status tried → event_of u a ≡ None
unfolding event_of referral_event io_event
event_ended u (referral status reply clock out) h = ap (λ (r : Rest). referral_event (caches_of u.refs u.doms) u.core r status reply clock) h
event_ended u (io status clock out) h = ap (λ (r : Rest). io_event (caches_of u.refs u.doms) u.core r status) h

pub no_opening : (u : Unlimited) (a : Answer) → event_of u a ≡ None → (t : Turn) → answer_opening u a ≡ opens t → ⊥
unfolding answer_opening event_opening
no_opening u a e t h = go (told (in_order referrals u.refs && in_order domains u.doms))
  where
    go : ((in_order referrals u.refs && in_order domains u.doms) ≡ true) ⊎ ((in_order referrals u.refs && in_order domains u.doms) ≡ false) → ⊥
    go (inl o) = not_refused t (sym h ∙ (choose_yes _ _ o ∙ ap event_opening e))
    go (inr o) = not_refused t (sym h ∙ choose_no _ _ o)

-- the events bring no end 24
event_no : (u : Unlimited) (a : Answer) (t : Turn) → event_of u a ≡ Some t → NoLimit t.called
unfolding event_of
event_no u (referral status reply clock out) t e = referral_event_no (caches_of u.refs u.doms) u.core u.rest status reply clock e
event_no u (io status clock out) t e = io_event_no (caches_of u.refs u.doms) u.core u.rest status e

opening_event : (e : Option Turn) (t : Turn) → event_opening e ≡ opens t → e ≡ Some t
unfolding event_opening
opening_event None t h = absurd (not_refused t (sym h))
opening_event (Some u) t h = ap Some (opens_same h)

pub answer_goes_on : (u : Unlimited) (a : Answer) (t : Turn) → answer_opening u a ≡ opens t → event_of u a ≡ Some t
unfolding answer_opening
answer_goes_on u a t h = go (told (in_order referrals u.refs && in_order domains u.doms))
  where
    go : ((in_order referrals u.refs && in_order domains u.doms) ≡ true) ⊎ ((in_order referrals u.refs && in_order domains u.doms) ≡ false) → event_of u a ≡ Some t
    go (inl o) = opening_event (event_of u a) t (sym (choose_yes _ _ o) ∙ h)
    go (inr o) = absurd (not_refused t (sym h ∙ choose_no _ _ o))

answer_no : (u : Unlimited) (a : Answer) (t : Turn) → answer_opening u a ≡ opens t → NoLimit t.called
answer_no u a t h = event_no u a t (answer_goes_on u a t h)

-- the call that is cut is determined
pub one_cut : {p : Opening} {clock n k : ℕ} (a b : CallsFor p clock n k) → (a.turn ≡ b.turn) × ((a.moves ≡ b.moves) × (a.core ≡ b.core))
one_cut {clock = clock} a b =
    let t = opens_same (sym a.opening ∙ b.opening) in
    let m = subst (λ (u : Turn). CallsForMore u clock b.moves b.core) (sym t) b.more in
    let z = as_many a.more.made m.made (omega (arith, a.number, b.number)) in (t, (z.moves, z.core))

-- a call that calls for a later move calls for each before it
pub earlier : {p : Opening} {clock n l m : ℕ} → n ≤ l → l ≤ m → CallsFor p clock n (suc m) → CallsFor p clock n (suc l)
earlier {n = n} {l = l} f g k =
    let z = cut_short (l - n) k.more.made k.more.move (omega (arith, k.number)) in
    record {
      turn = k.turn;
      opening = k.opening;
      moves = z.moves;
      core = z.core;
      more = record { called = z.called; made = z.made; move = z.move };
      number = omega (arith, z.size);
    }

passed : (b : Bool) (v : Verdict) {x : Opening} {t : Turn} → choose b x (refuses v) ≡ opens t → x ≡ opens t
unfolding choose
passed true v e = e
passed false v {t = t} e = absurd (not_refused t (sym e))

pub start_goes_on : (h : Held) (s : Start) (t : Turn) → start_opening h s ≡ opens t
    → started (caches_of h.refs h.doms) (core_of (normalised s.path) s.size false) s.clock ≡ t
unfolding start_opening
start_goes_on h s t e = opens_same (passed _ _ (passed _ _ (passed _ _ (passed _ _ (passed _ _ e)))))

start_no : (h : Held) (s : Start) (t : Turn) → start_opening h s ≡ opens t → NoLimit t.called
start_no h s t e =
    subst (λ (u : Turn). NoLimit u.called) (start_goes_on h s t e)
    (started_no (caches_of h.refs h.doms) (core_of (normalised s.path) s.size false) s.clock)

-- along a list
module _ (l : ℕ) (good : good_limit l ≡ true) (h : Held) (s : Start) where
  pub record Agrees (cs : Calls) (u : Unlimited) : Type 0 where
    pub shows : observed (run l h s cs) ≡ u
    pub fine : Fine l s.boot (run l h s cs)

  pub at_start : Either l s.clock s.boot s.out 0 (run l h s start) (start_opening h s)
  at_start = start_either l h s good (back_start l h s good)

  abbrev pub Later : Calls → Unlimited → Answer → Type 0
  Later cs u a = Either l (answer_clock a) s.boot (answer_out a) u.count (after_answer (run l h s cs) a) (answer_opening u a)

  pub later : (cs : Calls) (u : Unlimited) (a : Answer) → Agrees cs u → Later cs u a
  later cs u a g = either_at l s.boot (run l h s cs) a u g.fine g.shows

  start_agrees : {ms : List Made} {u : Unlimited} → (CallsFor (start_opening h s) s.clock 0 (suc l) → ⊥) → Call s.clock s.boot s.out 0 (start_opening h s) (comes ms u)
      → Either l s.clock s.boot s.out 0 (run l h s start) (start_opening h s) → Agrees start u
  start_agrees nc c (inl f) =
      let z = same_comes (subst (Same l s.clock s.boot s.out 0 (run l h s start) (start_opening h s)) (one_walk f.call c) f.same) in
      record { shows = z.1.0; fine = f.fine z.0 }
  start_agrees nc c (inr k) = absurd (nc k.calls)

  refused_agrees : (cs : Calls) (u : Unlimited) (a : Answer) {v : Verdict} → Agrees cs u → (CallsFor (answer_opening u a) (answer_clock a) u.count (suc l) → ⊥)
      → Call (answer_clock a) s.boot (answer_out a) u.count (answer_opening u a) (number v) → Later cs u a → Agrees (then cs a) u
  unfolding run
  refused_agrees cs u a g nc c (inl f) =
      let z = same_numbered (subst (Same l (answer_clock a) s.boot (answer_out a) u.count (after_answer (run l h s cs) a) (answer_opening u a)) (one_walk f.call c) f.same) in
      let n : (after_answer (run l h s cs) a).left.verdict ≡ Ok tt → ⊥ = λ e. z.1.0 (sym z.0 ∙ e) in
      record { shows = seen_kept (run l h s cs) a n ∙ g.shows; fine = fine_kept l s.boot (run l h s cs) a n g.fine }
  refused_agrees cs u a g nc c (inr k) = absurd (nc k.calls)

  taken_agrees : (cs : Calls) (u : Unlimited) (a : Answer) {v : Unlimited} {ms : List Made} → (CallsFor (answer_opening u a) (answer_clock a) u.count (suc l) → ⊥)
      → Call (answer_clock a) s.boot (answer_out a) u.count (answer_opening u a) (comes ms v) → Later cs u a → Agrees (then cs a) v
  unfolding run
  taken_agrees cs u a nc c (inl f) =
      let z = same_comes (subst (Same l (answer_clock a) s.boot (answer_out a) u.count (after_answer (run l h s cs) a) (answer_opening u a)) (one_walk f.call c) f.same) in
      record { shows = z.1.0; fine = f.fine z.0 }
  taken_agrees cs u a nc c (inr k) = absurd (nc k.calls)

  pub agrees : {cs : Calls} {u : Unlimited} → Tracks h s l cs u → Agrees cs u
  agrees (tracks_start nc c) = start_agrees nc c at_start
  agrees (tracks_refused {cs = cs} {u = u} {a = a} f nc c) =
      let g = agrees f in refused_agrees cs u a g nc c (later cs u a g)
  agrees (tracks_taken {cs = cs} {u = u} {a = a} f nc c) =
      let g = agrees f in taken_agrees cs u a nc c (later cs u a g)

  -- the count of the unlimited walk
  pub few : {cs : Calls} {u : Unlimited} → Tracks h s l cs u → u.count ≤ l
  unfolding observed
  few f =
      let g = agrees f in subst (λ (u : Unlimited). u.count ≤ l) g.shows g.fine.few

  -- the last call of a list to which the unlimited walk comes
  pub comes_either : {cs : Calls} {p : Opening} {n : ℕ} → Meets h s l cs p n → Either l (clock_of s cs) s.boot (out_of s cs) n (run l h s cs) p
  unfolding clock_of out_of run
  comes_either meets_start = at_start
  comes_either (meets_answer {cs = cs} {u = u} {a = a} f) = later cs u a (agrees f)

  pub comes_no : {cs : Calls} {p : Opening} {n : ℕ} → Meets h s l cs p n → (t : Turn) → p ≡ opens t → NoLimit t.called
  comes_no meets_start t e = start_no h s t e
  comes_no (meets_answer {u = u} {a = a} f) t e = answer_no u a t e

  pub comes_few : {cs : Calls} {p : Opening} {n : ℕ} → Meets h s l cs p n → n ≤ l
  comes_few meets_start = omega arith
  comes_few (meets_answer f) = few f

  -- it comes to what the walk with the limit comes to
  pub comes_opening : {cs : Calls} {p : Opening} {n : ℕ} → Meets h s l cs p n → (p ≡ opening l h s cs) × (n ≡ count_before l h s cs)
  unfolding opening count_before observed
  comes_opening meets_start = (refl, refl)
  comes_opening (meets_answer {a = a} f) =
      let g = agrees f in (ap (λ (u : Unlimited). answer_opening u a) (sym g.shows), ap (λ (u : Unlimited). u.count) (sym g.shows))
