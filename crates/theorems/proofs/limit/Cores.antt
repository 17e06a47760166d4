-- An event keeps the path and the size of the walk; a replacement keeps the size, and its path is the walk's.
use Rattle.std.specs.Prelude.{Option, None, Some}
use mathlib.Core.Path.{◌≡◌, refl, sym, subst}
use mathlib.Core.List.{List, ◌++◌}
use Prim.Native.Nat.{ℕ}
use native.Mathlib.Omega.{arith}
use Rattle.cache.specs.order.Entries.{Referral}
use Rattle.reply_read.specs.referral.Replies as replies
use Rattle.reply_read.specs.referral.Replies.{malformed, nothing, says, read_referral}
use Rattle.reply_read.specs.name_lists.NameLists.{read_dcs}
use Rattle.walk_steps.specs.steps.Steps.{Caches, Core, Question, Called, Turn, Rest, waits, ended, started, from_step2, with_hit, with_path, referral_in_use, name_asked, dc_answer, stored_turn, referral_answer, referral_succeeds, referral_answered, io_with, io_answered}
use Rattle.walk_steps.specs.steps.Held.{caches_of}
use Rattle.walk_steps.specs.declared.steps.Kind.{Kind}
use Rattle.walk_steps.specs.declared.steps.Kind.TheVariants.{Dc, Root, Link, Sysvol, Io}
use Rattle.walk_calls.specs.calls.Calls.{referral_event, io_event}
use Rattle.theorems.proofs.keeps.CalledLaws.{chosen}
use Rattle.theorems.proofs.keeps.HintLaws.{kind_to}
use Rattle.theorems.specs.limit.Unlimited.{Move, made_in, Makes, here, goes_on, last_move, path_moved, path_after, Unlimited}
use Rattle.theorems.specs.limit.Calls.{Answer, referral, io, event_of}

pub record SameCore (w v : Core) : Type 0 where
  pub path : v.path ≡ w.path
  pub size : v.size ≡ w.size

-- the turn of an event
module _ (c : Caches) (w : Core) where
  abbrev Keeps : Turn → Type 0
  Keeps t = SameCore w t.core

  same : SameCore w w
  same = record { path = refl; size = refl }

  pub started_same : (clock : ℕ) → SameCore w (started c w clock).core
  unfolding started from_step2 with_hit
  started_same clock = chosen Keeps _ _ _ same (record { path = refl; size = refl })

  module _ (clock : ℕ) (reply : List ℕ) where
    dc_same : (r : replies.Reply (List (List ℕ))) → Keeps (dc_answer c w r)
    unfolding dc_answer with_hit
    dc_same malformed = same
    dc_same nothing = same
    dc_same (says names) = record { path = refl; size = refl }

    reply_same : (q : Question) (r : replies.Reply replies.ReferralReply) → Keeps (referral_answer c w q clock r)
    unfolding referral_answer stored_turn with_hit
    reply_same q malformed = same
    reply_same q nothing = same
    reply_same q (says r) = chosen Keeps _ _ _ same (record { path = refl; size = refl })

    succeeds_same : (q : Question) → Keeps (referral_succeeds c w q reply clock)
    unfolding referral_succeeds
    succeeds_same q = go q.kind
      where
        go : (k : Kind) → Keeps (referral_succeeds c w (kind_to k q) reply clock)
        go Dc = dc_same (read_dcs q.size reply)
        go Root = reply_same (kind_to Root q) (read_referral q.size (name_asked w (kind_to Root q)) reply)
        go Link = reply_same (kind_to Link q) (read_referral q.size (name_asked w (kind_to Link q)) reply)
        go Sysvol = reply_same (kind_to Sysvol q) (read_referral q.size (name_asked w (kind_to Sysvol q)) reply)
        go Io = same

    answered_same : (q : Question) (status : ℕ) → Keeps (referral_answered c w q status reply clock)
    unfolding referral_answered
    answered_same q status = chosen Keeps _ _ _ (chosen Keeps _ _ _ same (succeeds_same q)) same

  io_with_lem : (q : Question) (status : ℕ) (e : Option Referral) → Keeps (io_with c w q status e)
  unfolding io_with
  io_with_lem q status None = same
  io_with_lem q status (Some e) = chosen Keeps _ _ _ same same

  io_same : (q : Question) (status : ℕ) → Keeps (io_answered c w q status)
  unfolding io_answered
  io_same q status = chosen Keeps _ _ _ (io_with_lem q status (referral_in_use c w q)) same

  -- an event, where there is one
  abbrev KeepsIf : Option Turn → Type 0
  KeepsIf o = (t : Turn) → o ≡ Some t → Keeps t

  no_event : KeepsIf None
  no_event t e = absurd (let z : ◌≡◌ {A = ℕ} 0 1 = cc in omega arith)

  one_event : {u : Turn} → Keeps u → KeepsIf (Some u)
  one_event {u} k t e =
      let z : u ≡ t = cc in subst Keeps z k

  pub referral_same : (r : Rest) (status : ℕ) (reply : List ℕ) (clock : ℕ) → KeepsIf (referral_event c w r status reply clock)
  unfolding referral_event
  referral_same (ended e s tried) status reply clock = no_event
  referral_same (waits q) status reply clock = chosen KeepsIf _ _ _ no_event (one_event (answered_same clock reply q status))

  pub io_event_same : (r : Rest) (status : ℕ) → KeepsIf (io_event c w r status)
  unfolding io_event
  io_event_same (ended e s tried) status = no_event
  io_event_same (waits q) status = chosen KeepsIf _ _ _ (one_event (io_same q status)) no_event

pub event_same : (u : Unlimited) (a : Answer) (t : Turn) → event_of u a ≡ Some t → SameCore u.core t.core
unfolding event_of
event_same u (referral status reply clock out) = referral_same (caches_of u.refs u.doms) u.core u.rest status reply clock
event_same u (io status clock out) = io_event_same (caches_of u.refs u.doms) u.core u.rest status

-- the moves of a call
last_path : (c d : Caches) (boot path : List ℕ) (w : Core) (r : Rest) → path_after path (made_in d (last_move c boot w r)) ≡ path
unfolding last_move made_in path_after path_moved
last_path c d boot path w (waits q) = refl
last_path c d boot path w (ended e status tried) = refl

pub made_path : {c : Caches} {clock : ℕ} {w v : Core} {a b : Called} {ms : List Move} (boot : List ℕ) (r : Rest) → Makes c clock w a ms v b
    → v.path ≡ path_after w.path (made_in c (ms ++ last_move c boot v r))
unfolding made_in path_after path_moved with_hit with_path
made_path {c} {w = w} boot r here = sym (last_path c c boot w.path w r)
made_path boot r (goes_on f x) = made_path boot r x

pub made_size : {c : Caches} {clock : ℕ} {w v : Core} {a b : Called} {ms : List Move} → Makes c clock w a ms v b → v.size ≡ w.size
unfolding with_hit with_path
made_size here = refl
made_size (goes_on f x) = made_size x
