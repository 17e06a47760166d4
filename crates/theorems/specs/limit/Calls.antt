-- The list of calls: "one start, from any caches, then referral answers and I/O answers"; what each gives a walk with a limit, on the lent memory, and
-- what it is to the unlimited walk.
use Rattle.std.specs.Prelude.{ℕ, suc, ◌+◌, ◌≡◌, false, ◌&&◌, List, [], length, eqb, leb, Ok, Err, Option, None, Some}
use Rattle.laws.specs.Choice.{choose}
use Rattle.unc.specs.names.Names.{good_name}
use Rattle.unc.specs.names.Paths.{good_path, normalised, path_units}
use Rattle.cache.specs.order.Memory.{referrals, domains, in_order}
use Rattle.cache_store.specs.domain_cache.Domains.{good_size}
use Rattle.walk_steps.specs.steps.Steps.{Core, Question, Turn, Rest, ended, started}
use Rattle.walk_steps.specs.steps.Held.{caches_of, core_of}
use Rattle.walk_steps.specs.declared.steps.End.TheVariants.{LimitReached}
use Rattle.walk_form.specs.declared.held.Walk.{Walk}
use Rattle.walk_steps.specs.question_request.Questions.{request_name, with_request}
use Rattle.walk_form.specs.held.Walks.{boot_in}
use Rattle.walk_shown.specs.question.Shown.{QuestionShown, question_shown}
use Rattle.walk_form.specs.held.Walks.{core_in}
use Rattle.walk_calls.specs.calls.Calls.{Answered, start_call, referral_call, io_call, rest_in, referral_event, io_event}
use Rattle.walk_calls.specs.call_end.Closing.{Verdict}
use Rattle.walk_calls.specs.declared.call_end.Refusal.TheVariants.{BadPath, LongPath, BadSettings, NotInOrder, OutOfForm}
use Rattle.theorems.specs.limit.Unlimited.{Opening, refuses, opens, Unlimited, Move, question, Made, Rests, CallsForMore, Brings, Call, number, comes, CallsFor, rests_at, made_in}

-- the lent memory of a walk: the walk, its texts, both caches
pub record Held : Type 0 where
  pub walk : Walk
  pub texts : List ℕ
  pub refs : List ℕ
  pub doms : List ℕ

-- A start, the limit apart, and an answer; each with its own clock and output buffer.
pub record Start : Type 0 where
  pub path : List ℕ
  pub boot : List ℕ
  pub size : ℕ
  pub clock : ℕ
  pub out : List ℕ

pub data Answer : Type 0 where
  referral : (status : ℕ) (reply : List ℕ) (clock : ℕ) (out : List ℕ) → Answer
  io : (status : ℕ) (clock : ℕ) (out : List ℕ) → Answer

-- "one start .. then .. answers": a list of calls, by its last one
pub data Calls : Type 0 where
  start : Calls
  then : Calls → Answer → Calls

-- the walk with limit l. "Each gets the walk and caches that the last one left": what the last call of a list gives and leaves
unfoldable pub after_answer : Answered → Answer → Answered
after_answer o (referral status reply clock out) = referral_call o.refs o.doms o.left.texts o.left.walk status reply clock out
after_answer o (io status clock out) = io_call o.refs o.doms o.left.texts o.left.walk status clock out

unfoldable pub run : ℕ → Held → Start → Calls → Answered
run l h s start = record {
  left = start_call h.refs h.doms h.texts h.walk s.path s.boot l s.size s.clock s.out;
  refs = h.refs;
  doms = h.doms;
}
run l h s (then cs a) = after_answer (run l h s cs) a

-- "a refused start ends the list"
pub data InList (l : ℕ) (h : Held) (s : Start) : Calls → Type 0 where
  the_start : InList l h s start
  an_answer : {cs : Calls} {a : Answer} → (run l h s start).left.verdict ≡ Ok tt → InList l h s (then cs a)

-- the clock and the buffer of the last call
unfoldable pub answer_clock : Answer → ℕ
answer_clock (referral status reply clock out) = clock
answer_clock (io status clock out) = clock

unfoldable pub answer_out : Answer → List ℕ
answer_out (referral status reply clock out) = out
answer_out (io status clock out) = out

unfoldable pub clock_of : Start → Calls → ℕ
clock_of s start = s.clock
clock_of s (then cs a) = answer_clock a

unfoldable pub out_of : Start → Calls → List ℕ
out_of s start = s.out
out_of s (then cs a) = answer_out a

-- what is seen of a walk with a limit: what the steps use, where it rests, its count and the caches
unfoldable pub observed : Answered → Unlimited
observed o = record {
  core = core_in o.left.walk o.left.texts;
  rest = rest_in o.left.walk o.left.texts;
  count = o.left.walk.moves;
  refs = o.refs;
  doms = o.doms;
}

-- a question as the host is shown it of what a call left (`walk_shown::question`), as a move
unfoldable pub shown_move : Answered → Question → Move
shown_move o q = question q.kind q.party shown.party shown.name shown.size
  where
    shown : QuestionShown
    shown = question_shown (caches_of o.refs o.doms) (core_in o.left.walk o.left.texts) (boot_in o.left.walk o.left.texts) q

-- A start to the unlimited walk: 4, 1, 2, 3 (the limit apart), 5 where the memory lent for the texts has another length.
unfoldable pub start_opening : Held → Start → Opening
start_opening h s =
    choose (in_order referrals h.refs && in_order domains h.doms)
    (choose (good_path s.path)
    (choose (leb (length (normalised s.path)) path_units)
    (choose (good_size s.size && good_name s.boot)
    (choose (eqb (length h.texts) 768)
    (opens (started (caches_of h.refs h.doms) (core_of (normalised s.path) s.size false) s.clock))
    (refuses (Err OutOfForm)))
    (refuses (Err BadSettings)))
    (refuses (Err LongPath)))
    (refuses (Err BadPath)))
    (refuses (Err NotInOrder))

-- An answer to it: 4, and 5 where it has ended or waits for an answer of the other kind.
unfoldable pub event_of : Unlimited → Answer → Option Turn
event_of u (referral status reply clock out) = referral_event (caches_of u.refs u.doms) u.core u.rest status reply clock
event_of u (io status clock out) = io_event (caches_of u.refs u.doms) u.core u.rest status

unfoldable pub event_opening : Option Turn → Opening
event_opening None = refuses (Err OutOfForm)
event_opening (Some t) = opens t

unfoldable pub answer_opening : Unlimited → Answer → Opening
answer_opening u a =
    choose (in_order referrals u.refs && in_order domains u.doms) (event_opening (event_of u a)) (refuses (Err NotInOrder))

-- The unlimited walk after all calls of a list. Its count is first 0, and it knows no limit.
pub data Follows (h : Held) (s : Start) : Calls → Unlimited → Type 0 where
  begins : {ms : List Made} {u : Unlimited} → Call s.clock s.boot s.out 0 (start_opening h s) (comes ms u) → Follows h s start u
  is_refused : {cs : Calls} {u : Unlimited} {a : Answer} {v : Verdict} → Follows h s cs u
      → Call (answer_clock a) s.boot (answer_out a) u.count (answer_opening u a) (number v) → Follows h s (then cs a) u
  is_taken : {cs : Calls} {u v : Unlimited} {a : Answer} {ms : List Made} → Follows h s cs u
      → Call (answer_clock a) s.boot (answer_out a) u.count (answer_opening u a) (comes ms v) → Follows h s (then cs a) v

-- It comes to the last call of a list: what the call comes to, and the count before it.
pub data Comes (h : Held) (s : Start) : Calls → Opening → ℕ → Type 0 where
  to_start : Comes h s start (start_opening h s) 0
  to_answer : {cs : Calls} {u : Unlimited} {a : Answer} → Follows h s cs u → Comes h s (then cs a) (answer_opening u a) u.count

-- "until that calls for move L + 1 .. and the unlimited one is followed no further": some call of a list called for move l + 1; one before its last did.
pub data CutBy (l : ℕ) (h : Held) (s : Start) : Calls → Type 0 where
  in_it : {cs : Calls} {p : Opening} {n : ℕ} → Comes h s cs p n → CallsFor p (clock_of s cs) n (suc l) → CutBy l h s cs
  before_it : {cs : Calls} {a : Answer} → CutBy l h s cs → CutBy l h s (then cs a)

pub data CutBefore (l : ℕ) (h : Held) (s : Start) : Calls → Type 0 where
  an_earlier : {cs : Calls} {a : Answer} → CutBy l h s cs → CutBefore l h s (then cs a)

-- what the last call of a list comes to for the walk with limit l, by what it was given, and the count before it
unfoldable pub opening : ℕ → Held → Start → Calls → Opening
opening l h s start = start_opening h s
opening l h s (then cs a) = answer_opening (observed (run l h s cs)) a

unfoldable pub count_before : ℕ → Held → Start → Calls → ℕ
count_before l h s start = 0
count_before l h s (then cs a) = (run l h s cs).left.walk.moves

-- the path before it
unfoldable pub path_before : ℕ → Held → Start → Calls → List ℕ
path_before l h s start = normalised s.path
path_before l h s (then cs a) = (observed (run l h s cs)).core.path

-- The moves of a call of a walk with a limit, each with the caches after it: a list by the steps from what the call was given to what it leaves. A refused
-- call makes none; a call that is cut has made the moves up to the limit.
pub data Moved (l clock : ℕ) (boot : List ℕ) (count : ℕ) (o : Answered) : Opening → List Made → Type 0 where
  no_move : {p : Opening} → (o.left.verdict ≡ Ok tt → ⊥) → Moved l clock boot count o p []
  to_rest : {t : Turn} {ms : List Move} {w : Core} {r : Rest} → Rests t clock boot ms w r → o.left.verdict ≡ Ok tt
      → observed o ≡ rests_at t.caches w r (count + length ms) → Moved l clock boot count o (opens t) (made_in t.caches ms)
  to_limit : {t : Turn} {ms : List Move} {w : Core} → CallsForMore t clock ms w → count + length ms ≡ l → o.left.verdict ≡ Ok tt
      → observed o ≡ rests_at t.caches w (ended LimitReached 0 []) l → Moved l clock boot count o (opens t) (made_in t.caches ms)

-- A call shows what the unlimited walk does in it: the same number, or the same moves, question or end, count and caches, and the question's request in the buffer.
pub data Same (l clock : ℕ) (boot out : List ℕ) (count : ℕ) (o : Answered) (p : Opening) : Brings → Type 0 where
  same_number : {v : Verdict} → o.left.verdict ≡ v → (v ≡ Ok tt → ⊥) → Moved l clock boot count o p [] → Same l clock boot out count o p (number v)
  same_rest : {ms : List Made} {u : Unlimited} → o.left.verdict ≡ Ok tt → observed o ≡ u
      → o.left.out ≡ with_request (request_name u.core u.rest) out → Moved l clock boot count o p ms → Same l clock boot out count o p (comes ms u)
