-- The unlimited walk: the steps, taken without a limit. It has no fuel and no end 24; where interlinks lead round for ever it does not come to
-- rest, so it is a relation.
use Rattle.std.specs.Prelude.{ℕ, ◌+◌, ◌≤◌, ◌<◌, ◌≡◌, true, false, List, [], ◌∷◌, ◌++◌, map, length, Err, Option}
use Rattle.unc.specs.names.Paths.{path_units}
use Rattle.cache.specs.order.Memory.{referrals, domains, encode}
use Rattle.walk_steps.specs.steps.Steps.{Caches, Core, Question, Called, stops, asks, replaces, Turn, Rest, waits, ended, with_path, with_hit, hit_at, step2, name_asked}
use Rattle.walk_steps.specs.declared.steps.Kind.{Kind}
use Rattle.walk_steps.specs.declared.steps.End.{End}
use Rattle.walk_steps.specs.declared.steps.End.TheVariants.{TooLong}
use Rattle.walk_steps.specs.question_request.Questions.{request_name, name_fits}
use Rattle.walk_shown.specs.question.Shown.{party_of}
use Rattle.walk_calls.specs.call_end.Closing.{Verdict}
use Rattle.walk_calls.specs.declared.call_end.Refusal.TheVariants.{ShortBuffer}

-- "A move is a question put (kind, party, name, size) or a step 11 replacement (new path)." A party is its place and its text.
pub data Move : Type 0 where
  question : Kind → ℕ → Option (List ℕ) → List ℕ → ℕ → Move
  replacement : List ℕ → Move

-- "A move called for .. is made and counted; then a replacement goes on": the replacements made from a point of the steps, and the point then.
pub data Makes (c : Caches) (clock : ℕ) : Core → Called → List Move → Core → Called → Type 0 where
  here : {w : Core} {a : Called} → Makes c clock w a [] w a
  goes_on : {w v : Core} {p : List ℕ} {a : Called} {ms : List Move} → length p ≤ path_units
      → Makes c clock (with_hit (hit_at c (with_path p w)) (with_path p w)) (step2 c (with_path p w) clock) ms v a
      → Makes c clock w (replaces p) (replacement p ∷ ms) v a

-- where the steps come to rest: "A move called for ends 26 or is made ..; then .. a question waits"
pub data Halts : Called → Rest → Type 0 where
  at_end : {e : End} {status : ℕ} {tried : List ℕ} → Halts (stops e status tried) (ended e status tried)
  is_put : {q : Question} → length q.tried ≤ path_units → Halts (asks q) (waits q)
  try_long : {q : Question} → path_units < length q.tried → Halts (asks q) (ended TooLong 0 [])
  path_long : {p : List ℕ} → path_units < length p → Halts (replaces p) (ended TooLong 0 [])

-- the question that was put where the steps rest
unfoldable pub last_move : Caches → List ℕ → Core → Rest → List Move
last_move c boot w (waits q) = question q.kind q.party (party_of c w boot q) (name_asked w q) q.size ∷ []
last_move c boot w (ended e status tried) = []

-- how many moves are called for at a point: one, or none at an end
unfoldable pub calls_one : Called → ℕ
calls_one (stops e status tried) = 0
calls_one (asks q) = 1
calls_one (replaces p) = 1

-- From the turn of an event the steps come to rest, having made these moves.
pub record Rests (t : Turn) (clock : ℕ) (boot : List ℕ) (ms : List Move) (w : Core) (r : Rest) : Type 0 where
  pub replacements : List Move
  pub called : Called
  pub made : Makes t.caches clock t.core t.called replacements w called
  pub halts : Halts called r
  pub moves : ms ≡ replacements ++ last_move t.caches boot w r

-- From the turn of an event the steps call for a move more, having made these.
pub record CallsForMore (t : Turn) (clock : ℕ) (ms : List Move) (w : Core) : Type 0 where
  pub called : Called
  pub made : Makes t.caches clock t.core t.called ms w called
  pub move : calls_one called ≡ 1

-- what a call comes to before any move: the number that refuses it, or the turn of its event
pub data Opening : Type 0 where
  refuses : Verdict → Opening
  opens : Turn → Opening

-- "It holds what the steps use, the caches and a count", and where it rests.
pub record Unlimited : Type 0 where
  pub core : Core
  pub rest : Rest
  pub count : ℕ
  pub refs : List ℕ
  pub doms : List ℕ

unfoldable pub rests_at : Caches → Core → Rest → ℕ → Unlimited
rests_at c w r count =
    record { core = w; rest = r; count = count; refs = encode referrals c.referrals; doms = encode domains c.domains }

-- a move, with the caches after it: the steps change no cache after the event
pub record Made : Type 0 where
  pub move : Move
  pub caches : Caches

unfoldable pub made_in : Caches → List Move → List Made
made_in c ms = map (λ m. record { move = m; caches = c }) ms

-- the path after these moves
unfoldable pub path_moved : List ℕ → Move → List ℕ
path_moved path (question kind place party name size) = path
path_moved path (replacement p) = p

unfoldable pub path_after : List ℕ → List Made → List ℕ
path_after path [] = path
path_after path (m ∷ ms) = path_after (path_moved path m.move) ms

-- what a call brings: a number, and then nothing changes; or the moves made and the walk then
pub data Brings : Type 0 where
  number : Verdict → Brings
  comes : List Made → Unlimited → Brings

-- A call of the unlimited walk, which has made `count` moves before it. "10 comes exactly when the request of the question then put is longer than the buffer".
pub data Call (clock : ℕ) (boot out : List ℕ) (count : ℕ) : Opening → Brings → Type 0 where
  refused : {v : Verdict} → Call clock boot out count (refuses v) (number v)
  short : {t : Turn} {ms : List Move} {w : Core} {r : Rest} → Rests t clock boot ms w r → name_fits (length out) (request_name w r) ≡ false
      → Call clock boot out count (opens t) (number (Err ShortBuffer))
  taken : {t : Turn} {ms : List Move} {w : Core} {r : Rest} → Rests t clock boot ms w r → name_fits (length out) (request_name w r) ≡ true
      → Call clock boot out count (opens t) (comes (made_in t.caches ms) (rests_at t.caches w r (count + length ms)))

-- In this call the unlimited walk calls for move number n.
pub record CallsFor (o : Opening) (clock count n : ℕ) : Type 0 where
  pub turn : Turn
  pub opening : o ≡ opens turn
  pub moves : List Move
  pub core : Core
  pub more : CallsForMore turn clock moves core
  pub number : count + length moves + 1 ≡ n

-- In this call it comes to rest, and l moves at most have been called for. (A move that ends 26 is called for and not counted.)
pub data Within (clock : ℕ) (boot : List ℕ) (count l : ℕ) : Opening → Type 0 where
  refused : {v : Verdict} → Within clock boot count l (refuses v)
  rests : {t : Turn} {ms : List Move} {w : Core} {r : Rest} → (x : Rests t clock boot ms w r)
      → count + length x.replacements + calls_one x.called ≤ l → Within clock boot count l (opens t)
