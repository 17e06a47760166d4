-- Demand 3: "A limit only cuts a walk short", and document 01's paragraph on it ("Demand 3's list .."), as one claim about any list of calls.
use Rattle.std.specs.Prelude.{ℕ, suc, ◌≤◌, ◌<◌, ◌≡◌, false, List, [], ◌∷◌, ◌++◌, map, ◌⊎◌, length, Ok, Err, Some}
use Rattle.reply_read.specs.referral.Request.{request}
use Rattle.unc.specs.names.Paths.{normalised, path_units}
use Rattle.walk_steps.specs.steps.Steps.{Caches, Core, Question, asks, replaces, Rest, waits, ended, Turn, started, with_path, with_hit, hit_at, step2}
use Rattle.walk_steps.specs.steps.Held.{caches_of, core_of}
use Rattle.walk_steps.specs.declared.steps.End.{End}
use Rattle.walk_steps.specs.declared.steps.End.TheVariants.{LimitReached, TooLong}
use Rattle.walk_steps.specs.question_request.Questions.{request_name}
use Rattle.walk_calls.specs.declared.call_end.Refusal.TheVariants.{ShortBuffer}
use Rattle.theorems.specs.limit.Unlimited.{Move, replacement, Makes, Halts, Opening, opens, Unlimited, Made, made_in, rests_at, path_after, Rests, Brings, Call, CallsFor, Within}
use Rattle.walk_form.specs.held.Walks.{boot_in}
use Rattle.dfsc_memory.specs.Units.{texts_in}
use Rattle.theorems.specs.limit.Exported.{units_run, packed_answer}
use Rattle.theorems.specs.limit.Calls.{shown_move, Held, Start, Answer, Calls, start, then, run, after_answer, InList, start_opening, event_of, answer_opening, Follows, Comes, CutBy, CutBefore, clock_of, out_of, observed, opening, count_before, path_before, Moved, Same}

-- the moves that the last call of a list gives the walk with limit l
abbrev pub MovesOf : ℕ → Held → Start → Calls → List Made → Type 0
MovesOf l h s cs ms = Moved l (clock_of s cs) s.boot (count_before l h s cs) (run l h s cs) (opening l h s cs) ms

-- the walk shows in its last call what the unlimited walk does
abbrev pub SameIn : ℕ → Held → Start → Calls → Brings → Type 0
SameIn l h s cs b = Same l (clock_of s cs) s.boot (out_of s cs) (count_before l h s cs) (run l h s cs) (opening l h s cs) b

-- the walk ends in this call
abbrev pub EndsIn : ℕ → Held → Start → Calls → End → Type 0
EndsIn l h s cs e = ((run l h s cs).left.verdict ≡ Ok tt) × ((status : ℕ) × ((tried : List ℕ) × ((observed (run l h s cs)).rest ≡ ended e status tried)))

-- the walk waits for an answer when this call has returned
abbrev pub WaitsAfter : ℕ → Held → Start → Calls → Type 0
WaitsAfter l h s cs = (q : Question) × ((observed (run l h s cs)).rest ≡ waits q)

-- the request of the question then put is longer than the buffer, and no move over the limit was called for
pub record TooShort (l : ℕ) (h : Held) (s : Start) (cs : Calls) : Type 0 where
  pub opening : Opening
  pub count : ℕ
  pub comes_to : Comes h s cs opening count
  pub uncut : CutBy l h s cs → ⊥
  pub turn : Turn
  pub opened : opening ≡ opens turn
  pub moves : List Move
  pub core : Core
  pub question : Question
  pub rests : Rests turn (clock_of s cs) s.boot moves core (waits question)
  pub name : List ℕ
  pub named : request_name core (waits question) ≡ Some name
  pub long : length (out_of s cs) < length (request name)

pub record LimitOnlyCuts (h : Held) (s : Start) (l m : ℕ) : Type 0 where
  -- Document 01. "Demand 3's list is one start, from any caches, then referral answers and I/O answers. Each gets the walk and caches that the last one left;"
  pub each_gets : (cs : Calls) (a : Answer) → run l h s (then cs a) ≡ after_answer (run l h s cs) a
  -- "a refused start ends the list"
  pub start_ends : (cs : Calls) (a : Answer) → InList l h s (then cs a) → (run l h s start).left.verdict ≡ Ok tt
  -- "It is one claim about the list": the unlimited walk has followed all calls of it, unless one called for move L + 1.
  pub every_call : (cs : Calls) → (run l h s start).left.verdict ≡ Ok tt → ((u : Unlimited) × (Follows h s cs u × (CutBy l h s cs → ⊥))) ⊎ CutBy l h s cs
  -- "The unlimited walk is fed these calls alone, without L.": one walk for a list, and a greater limit follows it as far at least.
  pub one_unlimited : {cs : Calls} {u v : Unlimited} → Follows h s cs u → Follows h s cs v → u ≡ v
  pub as_far : {cs : Calls} {u : Unlimited} → Follows h s cs u → (CutBy l h s cs → ⊥) → CutBy m h s cs → ⊥
  -- The walk holds what the start was given: limit, size and bootstrap DC.
  pub settings_kept : (cs : Calls) → (run l h s start).left.verdict ≡ Ok tt
      → ((run l h s cs).left.walk.limit ≡ l) × (((run l h s cs).left.walk.size ≡ s.size)
      × (boot_in (run l h s cs).left.walk (run l h s cs).left.texts ≡ s.boot))
  -- What a call brings the unlimited walk is determined, and every call comes to rest with L moves called for at most, or calls for move
  -- L + 1, and never both.
  pub one_walk : {p : Opening} {clock count : ℕ} {boot out : List ℕ} {a b : Brings} → Call clock boot out count p a → Call clock boot out count p b → a ≡ b
  pub rests_or_calls : (p : Opening) (clock n : ℕ) (boot : List ℕ) → n ≤ l → Within clock boot n l p ⊎ CallsFor p clock n (suc l)
  pub never_both : {p : Opening} {clock n : ℕ} {boot : List ℕ} → Within clock boot n l p → CallsFor p clock n (suc l) → ⊥
  -- Document 01. "On this list 10 comes exactly when the request of the question then put is longer than the buffer; no end needs one."
  pub ten_then : (cs : Calls) → InList l h s cs → (run l h s cs).left.verdict ≡ Err ShortBuffer → TooShort l h s cs
  pub ten_only_then : (cs : Calls) → TooShort l h s cs → (run l h s cs).left.verdict ≡ Err ShortBuffer
  -- "It holds what the steps use, the caches and a count, first 0."
  pub first_zero : {p : Opening} {n : ℕ} → Comes h s start p n → n ≡ 0
  -- "A start that no number but 10 refuses, or an answer to its question, goes on by the steps;"
  pub start_goes_on : (t : Turn) → start_opening h s ≡ opens t
      → started (caches_of h.refs h.doms) (core_of (normalised s.path) s.size false) s.clock ≡ t
  pub answer_goes_on : (u : Unlimited) (a : Answer) (t : Turn) → answer_opening u a ≡ opens t → event_of u a ≡ Some t
  -- "all other calls, and those with 10, give their number below and change nothing"
  pub start_changes_nothing : ((run l h s start).left.verdict ≡ Ok tt → ⊥)
      → ((run l h s start).left.walk ≡ h.walk) × (((run l h s start).left.texts ≡ h.texts) × ((run l h s start).left.out ≡ s.out))
  pub no_change : (cs : Calls) (a : Answer) → ((run l h s (then cs a)).left.verdict ≡ Ok tt → ⊥)
      → ((run l h s (then cs a)).left.walk ≡ (run l h s cs).left.walk) × (((run l h s (then cs a)).left.texts ≡ (run l h s cs).left.texts)
      × (((run l h s (then cs a)).refs ≡ (run l h s cs).refs) × (((run l h s (then cs a)).doms ≡ (run l h s cs).doms)
      × ((run l h s (then cs a)).left.out ≡ out_of s (then cs a)))))
  -- "no end needs one": where a call is refused, ends or is cut the buffer stays as it was
  pub buffer_stays : (cs : Calls) → InList l h s cs → ((run l h s cs).left.verdict ≡ Ok tt → ⊥) ⊎ ((e : End) × EndsIn l h s cs e) → (run l h s cs).left.out ≡ out_of s cs
  -- "A move called for ends 26 or is made and counted; then a replacement goes on and a question waits."
  pub question_called_for : {q : Question} {r : Rest} → Halts (asks q) r → (r ≡ ended TooLong 0 []) ⊎ (r ≡ waits q)
  pub replacement_called_for : (c : Caches) (clock : ℕ) (w : Core) (p : List ℕ)
      → Halts (replaces p) (ended TooLong 0 [])
      ⊎ Makes c clock w (replaces p) (replacement p ∷ []) (with_hit (hit_at c (with_path p w)) (with_path p w)) (step2 c (with_path p w) clock)
  -- "The L walk's moves, its caches after each, its refusal numbers, its end and its count are those of the unlimited walk until that calls for move L + 1"
  pub until_then_same : (cs : Calls) {p : Opening} {n : ℕ} → Comes h s cs p n → (CutBy l h s cs → ⊥)
      → (b : Brings) × (Call (clock_of s cs) s.boot (out_of s cs) n p b × SameIn l h s cs b)
  -- "whether or not 10 would follow; in that call the L walk ends 24 with the caches as they then are", having made the moves up to L
  pub then_cut : (cs : Calls) {p : Opening} {n : ℕ} → Comes h s cs p n → (CutBefore l h s cs → ⊥) → (k : CallsFor p (clock_of s cs) n (suc l))
      → ((run l h s cs).left.verdict ≡ Ok tt) × ((observed (run l h s cs) ≡ rests_at k.turn.caches k.core (ended LimitReached 0 []) l)
      × MovesOf l h s cs (made_in k.turn.caches k.moves))
  -- "moves made inside it are stated as a list of moves by the steps, each with the caches after it, from what it was given to the path, question, caches and
  -- count that it leaves"; the list is determined
  pub moves_of_a_call : (cs : Calls) → InList l h s cs → (ms : List Made) × MovesOf l h s cs ms
  -- the caches after each move of a call are those that it leaves: the steps change no cache after the event
  pub caches_after : (cs : Calls) {ms : List Made} → InList l h s cs → (run l h s cs).left.verdict ≡ Ok tt → MovesOf l h s cs ms
      → (moves : List Move) × (ms ≡ map (λ m. record { move = m; caches = caches_of (run l h s cs).refs (run l h s cs).doms }) moves)
  -- the question put last is the one that the host is shown of what the call left (kind, party, name, size), and the path left is that of the last replacement
  pub last_shown : (cs : Calls) {ms : List Made} {q : Question} → InList l h s cs → (run l h s cs).left.verdict ≡ Ok tt → (observed (run l h s cs)).rest ≡ waits q → MovesOf l h s cs ms
      → (first : List Made) × (ms ≡ first ++ (record { move = shown_move (run l h s cs) q; caches = caches_of (run l h s cs).refs (run l h s cs).doms } ∷ []))
  pub path_left : (cs : Calls) {ms : List Made} → InList l h s cs → (run l h s cs).left.verdict ≡ Ok tt → MovesOf l h s cs ms
      → (observed (run l h s cs)).core.path ≡ path_after (path_before l h s cs) ms
  pub moves_one_list : (cs : Calls) {ms ns : List Made} → MovesOf l h s cs ms → MovesOf l h s cs ns → ms ≡ ns
  -- The calls that hosts in other languages make, from any units with these texts: each gives and leaves what the call of the list does, the walk as its packed form.
  pub exported : (units : List ℕ) → texts_in units ≡ h.texts → (run l h s start).left.verdict ≡ Ok tt → (cs : Calls) → units_run l h s units cs ≡ packed_answer (run l h s cs)
  -- Demand 3. "Until the call in which the L walk ends, each call gives both walks the same moves, with equal caches after each, and the same refusal number or question."
  pub start_refused : ((run l h s start).left.verdict ≡ Ok tt → ⊥) → run m h s start ≡ run l h s start
  pub until_the_end : (cs : Calls) → (run l h s start).left.verdict ≡ Ok tt → WaitsAfter l h s cs
      → ((run m h s cs).left.verdict ≡ (run l h s cs).left.verdict) × ((observed (run m h s cs) ≡ observed (run l h s cs))
      × (((run m h s cs).left.out ≡ (run l h s cs).left.out) × ((ms : List Made) × (MovesOf l h s cs ms × MovesOf m h s cs ms))))
  -- "If the L walk ends in anything but "limit reached", the M walk ends in that call too, with the same moves, end and caches."
  pub ends_alike : (cs : Calls) {e : End} → InList l h s cs → (e ≡ LimitReached → ⊥) → EndsIn l h s cs e
      → ((run m h s cs).left.verdict ≡ Ok tt) × ((observed (run m h s cs) ≡ observed (run l h s cs))
      × ((ms : List Made) × (MovesOf l h s cs ms × MovesOf m h s cs ms)))
  -- "If it ends in "limit reached", the M walk, unless refused there for a short output buffer, first makes the same moves, with equal caches after each."
  pub first_the_same : (cs : Calls) → InList l h s cs → EndsIn l h s cs LimitReached
      → ((run m h s cs).left.verdict ≡ Err ShortBuffer)
      ⊎ ((ms : List Made) × ((more : List Made) × (MovesOf l h s cs ms × MovesOf m h s cs (ms ++ more))))
  -- ""Limit reached" comes exactly when the steps, taken without a limit, call for move L + 1." (`then-cut` is the other direction.)
  pub limit_reached_then : (cs : Calls) → InList l h s cs → EndsIn l h s cs LimitReached
      → (p : Opening) × ((n : ℕ) × (Comes h s cs p n × ((CutBefore l h s cs → ⊥) × CallsFor p (clock_of s cs) n (suc l))))
  -- "Step 11 replacements made from a warm cache are moves too."
  pub replacement_is_a_move : {t : Turn} {clock : ℕ} {boot : List ℕ} {ms : List Move} {w : Core} {r : Rest} (p : List ℕ) → Rests t clock boot ms w r → t.called ≡ replaces p
      → length p ≤ path_units → (more : List Move) × (ms ≡ replacement p ∷ more)
