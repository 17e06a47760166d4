-- Shapes of the code, proved equal to the rules; nothing here is to be believed.
-- Words of the functions that take the answer to an I/O try: what they are given, and the parts of what comes of it.
use Rattle.std.specs.Prelude.{ℕ, ◌≤◌, ◌≡◌, true, List, length, take, drop, Option, Some, None}
use Rattle.laws.specs.Choice.{choose}
use Rattle.unc.specs.names.Paths.{matches}
use Rattle.walk_steps.specs.walk_texts.Texts.{texts_of}
use Rattle.walk_steps.specs.walk_texts.Code.{Standing}
use Rattle.cache.specs.order.Entries.{Referral}
use Rattle.cache.specs.order.Order.{good_prefix}
use Rattle.cache.specs.order.Memory.{referrals, domains, decode, in_order}
use Rattle.cache_lookup.specs.Lookup.{with_key}
use Rattle.cache_lookup.specs.Code.{entry_at}
use Rattle.walk_steps.specs.steps.Steps.{Core, Question, Called, ends, asks, link_request, onward, step8}
use Rattle.walk_steps.specs.steps.Code.{called_of}
use Rattle.walk_steps.specs.declared.steps.Kind.TheVariants.{Io}
use Rattle.walk_steps.specs.declared.steps.End.TheVariants.{Failed}
use Rattle.walk_steps.specs.declared.steps.Asking.{Asking}
use Rattle.walk_steps.specs.declared.steps.Progress.{Progress}
use Rattle.walk_steps.specs.cycle.Code.{Usable}
use Rattle.walk_steps.specs.rounds.Code.{in_round}
use Rattle.walk_answers.specs.declared.io_answer.Failure.{Failure}
use Rattle.walk_answers.specs.declared.io_answer.Failure.TheVariants.{Calls, Tries}

-- the path tried, in its room
unfoldable pub tried_room : ℕ → List ℕ → List ℕ
tried_room tried rooms = take tried (drop 256 rooms)

-- a walk waits for an I/O answer: both caches are in order, both texts stand in their rooms, the prefix in use matches the path
pub record Trying (refs doms rooms : List ℕ) (g : Progress) (q : Asking) (tried : ℕ) : Type 0 where
  pub order : in_order referrals refs ≡ true
  pub doms_order : in_order domains doms ≡ true
  pub few : g.len ≤ 256
  pub tried_few : tried ≤ 256
  pub long : length rooms ≡ 512
  pub stands : rooms ≡ texts_of (take g.len rooms) (tried_room tried rooms)
  pub good : good_prefix (take g.len rooms) ≡ true
  pub waits_io : q.kind ≡ Io
  pub inside : q.entry ≤ g.len
  pub matched : matches (take q.entry (take g.len rooms)) (take g.len rooms) ≡ true

-- a try that failed: there is no path tried any more, and place i holds the entry in use
pub record Failing (refs rooms : List ℕ) (len i : ℕ) : Type 0 where
  pub standing : Standing len rooms
  pub usable : Usable refs (take len rooms) i

-- the place found, if its entry has the target asked and the one with which the round began
unfoldable pub with_parties : List ℕ → ℕ → ℕ → Option ℕ → Option ℕ
with_parties refs party began None = None
with_parties refs party began (Some i) = choose (in_round (length (entry_at referrals i refs).targets) party began) (Some i) None

-- the place of the entry in use
unfoldable pub place_in_use : List ℕ → List ℕ → ℕ → ℕ → Option ℕ
place_in_use prefix refs party began = with_parties refs party began (with_key referrals prefix (decode referrals refs))

-- after PATH_NOT_COVERED a root's target is asked for the link
unfoldable pub not_covered : Core → Question → ℕ → Referral → Called
not_covered w q status e = choose e.settings.root (asks (link_request w q.entry q.party q.party true)) (ends Failed status)

-- the try at the next target, or the round is exhausted
unfoldable pub next_target : Core → Question → ℕ → Referral → Called
next_target w q status e = onward (length e.targets) q (λ place. step8 w e place q.began) (ends Failed status)

-- what a failed try calls for, in a round that began so
unfoldable pub failure_calls : Core → Referral → ℕ → Failure → Called
failure_calls w e began (Calls next) = called_of next
failure_calls w e began (Tries place) = asks (step8 w e place began)
