-- The call that is due, made: what it leaves, and what is printed after it. Document 01, "Examples to hold it to".
use Rattle.std.specs.Prelude.{ℕ, ◌≡◌, List, [], take, replicate, eqb}
use Rattle.laws.specs.Choice.{choose}
use Rattle.walk_form.specs.declared.held.Walk.{Walk}
use Rattle.walk_calls.specs.calls.Calls.{Answered, refusal_number, start_call, io_call, referral_call}
use Rattle.listing_spelling.specs.spell.Spelling.{Put}
use Rattle.script_output.specs.printed.Printed.{refused_line}
use Rattle.script_output.specs.outcome.Telling.{outcome_lines}
use Rattle.script_lines.specs.lines.Script.{after}
use Rattle.script_lines.specs.declared.lines.Script.{Script}
use Rattle.script_lines.specs.declared.lines.Last.TheVariants.{Stopped}
use Rattle.script_lines.specs.declared.lines.Due.{Due}
use Rattle.script_lines.specs.declared.lines.Due.TheVariants as due
use Rattle.script_run.specs.declared.call_due.Done.{Done}

-- the walk that the program holds, and all memory that it lends
pub record LentMemory : Type 0 where
  pub walk : Walk
  pub refs : List ℕ
  pub doms : List ℕ
  pub texts : List ℕ
  pub path : List ℕ
  pub boot : List ℕ
  pub reply : List ℕ

abbrev pub lent_memory : Walk → List ℕ → List ℕ → List ℕ → List ℕ → List ℕ → List ℕ → LentMemory
lent_memory walk refs doms texts path boot reply =
    record { walk = walk; refs = refs; doms = doms; texts = texts; path = path; boot = boot; reply = reply }

-- what a call leaves: what was read, the walk, both caches and the walk's texts; and what is printed
pub record CallLeft : Type 0 where
  pub script : Script
  pub walk : Walk
  pub refs : List ℕ
  pub doms : List ℕ
  pub texts : List ℕ
  pub printed : List ℕ

abbrev pub call_left : Script → Walk → List ℕ → List ℕ → List ℕ → List ℕ → CallLeft
call_left script walk refs doms texts printed = record { script = script; walk = walk; refs = refs; doms = doms; texts = texts; printed = printed }

-- "A refusal prints refused= and its number .., then stops."
unfoldable pub call_told : Script → Answered → CallLeft
call_told s a =
    call_left (choose (eqb (refusal_number a.left.verdict) 0) s (after Stopped s)) a.left.walk a.refs a.doms a.left.texts
    (outcome_lines (refusal_number a.left.verdict) a.refs a.doms a.left.walk a.left.texts)

-- the buffer for a request holds every one
unfoldable pub request_room : List ℕ
request_room = replicate 516 0

unfoldable pub start_made : Script → LentMemory → CallLeft
start_made s h = call_told s (record {
  left = start_call h.refs h.doms h.texts h.walk (take s.path h.path) (take s.boot h.boot) s.limit s.size s.clock request_room;
  refs = h.refs;
  doms = h.doms;
})

unfoldable pub io_made : Script → LentMemory → CallLeft
io_made s h = call_told s (io_call h.refs h.doms h.texts h.walk s.status s.clock request_room)

unfoldable pub referral_made : Script → LentMemory → CallLeft
referral_made s h = call_told s (referral_call h.refs h.doms h.texts h.walk s.status (take s.reply h.reply) s.clock request_room)

-- nothing is called
abbrev pub uncalled : Script → List ℕ → LentMemory → CallLeft
uncalled s printed h = call_left s h.walk h.refs h.doms h.texts printed

-- the call that is due; "0: input not of this form"
unfoldable pub made : Due → Script → LentMemory → CallLeft
made due.None s h = uncalled s [] h
made due.Start s h = start_made s h
made due.Io s h = io_made s h
made due.Referral s h = referral_made s h
made due.Refusal s h = uncalled (after Stopped s) (refused_line 0) h

-- a call's answer and the memory after it: what is printed stands at the beginning of d
pub record CallMade (x : CallLeft) (r : Done) (refs doms texts d o : List ℕ) : Type 0 where
  pub left : call_left r.script r.walk refs doms texts x.printed ≡ x
  pub printed : Put d 0 x.printed o r.bytes
