-- What is held of a walk and of its caches, in the words of Steps: caches as lent memory, a question and a rest as numbers beside the lent texts.
use Rattle.std.specs.Prelude.{ℕ, Bool, List}
use Rattle.cache.specs.order.Memory.{referrals, domains, decode}
use Rattle.walk_steps.specs.steps.Steps.{Caches, Core, Question, Rest, waits, ended}
use Rattle.walk_steps.specs.declared.steps.Asking.{Asking}
use Rattle.walk_steps.specs.declared.steps.Next.{Next}
use Rattle.walk_steps.specs.declared.steps.Next.TheVariants.{Asks, Ends}

-- both caches, as lent memory holds them
unfoldable pub caches_of : List ℕ → List ℕ → Caches
caches_of refs doms = record { referrals = decode referrals refs; domains = decode domains doms }

-- what the steps use of a walk
abbrev pub core_of : List ℕ → ℕ → Bool → Core
core_of path size hit = record { path = path; size = size; hit = hit }

-- a question, its path tried apart
unfoldable pub asking_of : Question → Asking
asking_of q = record { kind = q.kind; entry = q.entry; party = q.party; began = q.began; size = q.size; uncovered = q.uncovered }

-- the next move of a walk at rest
unfoldable pub next_of : Rest → Next
next_of (waits q) = Asks (asking_of q)
next_of (ended e status tried) = Ends e status

-- the path tried: of a question that waits for I/O, and of end 20
unfoldable pub tried_of : Rest → List ℕ
tried_of (waits q) = q.tried
tried_of (ended e status tried) = tried

-- a question that is held, with the path that it tries
unfoldable pub question_of : Asking → List ℕ → Question
question_of q tried = record {
  kind = q.kind;
  entry = q.entry;
  party = q.party;
  began = q.began;
  size = q.size;
  tried = tried;
  uncovered = q.uncovered;
}
