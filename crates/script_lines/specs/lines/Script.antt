-- The input of `walk`. Lines come in this order: the settings path, limit, size, now, boot; then answers [now=] status= [reply=]. What is not of this
-- form is refused with 0. A line is its bytes without the byte 0A hex that ends it; of a long one the first are kept, and the rest is known as `Rest` says.
use Rattle.std.specs.Prelude.{ℕ, ◌%◌, Bool, true, false, ◌&&◌, not, List, [], ◌∷◌, length, take, eqb, leb, Option, None, Some}
use Rattle.laws.specs.Choice.{choose}
use Rattle.laws.specs.Lists.{every, pasted}
use Rattle.listing_spelling.specs.unspell.Reading.{unspelled, is_spelled}
use Rattle.listing_write.specs.Keys.{path_key, size_key, status_key}
use Rattle.listing_read.specs.line.Lines.{value_of, line_has_key, number_said}
use Rattle.script_lines.specs.line_bytes.Hexes.{is_hex, hex_number, hex_bytes}
use Rattle.script_lines.specs.declared.line_bytes.Held.{Held}
use Rattle.script_lines.specs.declared.line_bytes.Rest.{Rest}
use Rattle.script_lines.specs.declared.line_bytes.Rest.TheVariants as rest
use Rattle.script_lines.specs.declared.lines.Last.{Last}
use Rattle.script_lines.specs.declared.lines.Last.TheVariants.{Nothing, Path, Limit, Size, Now, Boot, Clock, Status, Reply, Other, Stopped}
use Rattle.script_lines.specs.declared.lines.Script.{Script}
use Rattle.script_lines.specs.declared.lines.Input.{Input}
use Rattle.script_lines.specs.declared.lines.Input.TheVariants.{Part, Line, End}
use Rattle.script_lines.specs.declared.lines.Due.{Due}
use Rattle.script_lines.specs.declared.lines.Due.TheVariants as due

-- limit=
abbrev pub limit_key : List ℕ
limit_key = 108 ∷ 105 ∷ 109 ∷ 105 ∷ 116 ∷ 61 ∷ []

-- now=
abbrev pub now_key : List ℕ
now_key = 110 ∷ 111 ∷ 119 ∷ 61 ∷ []

-- boot=
abbrev pub boot_key : List ℕ
boot_key = 98 ∷ 111 ∷ 111 ∷ 116 ∷ 61 ∷ []

-- reply=
abbrev pub reply_key : List ℕ
reply_key = 114 ∷ 101 ∷ 112 ∷ 108 ∷ 121 ∷ 61 ∷ []

-- what was read, when nothing was
unfoldable pub nothing_read : Script
nothing_read = record { last = Nothing; path = 0; limit = 0; size = 0; clock = 0; boot = 0; status = 0; reply = 0 }

-- a further line was read; `Other`: it was not of the form
unfoldable pub after : Last → Script → Script
after l s =
    record { last = l; path = s.path; limit = s.limit; size = s.size; clock = s.clock; boot = s.boot; status = s.status; reply = s.reply }

-- what was read, with one thing more
unfoldable pub with_path_units : ℕ → Script → Script
with_path_units n s =
    record { last = s.last; path = n; limit = s.limit; size = s.size; clock = s.clock; boot = s.boot; status = s.status; reply = s.reply }

unfoldable pub with_limit : ℕ → Script → Script
with_limit n s =
    record { last = s.last; path = s.path; limit = n; size = s.size; clock = s.clock; boot = s.boot; status = s.status; reply = s.reply }

unfoldable pub with_size : ℕ → Script → Script
with_size n s =
    record { last = s.last; path = s.path; limit = s.limit; size = n; clock = s.clock; boot = s.boot; status = s.status; reply = s.reply }

unfoldable pub with_clock : ℕ → Script → Script
with_clock n s =
    record { last = s.last; path = s.path; limit = s.limit; size = s.size; clock = n; boot = s.boot; status = s.status; reply = s.reply }

unfoldable pub with_boot : ℕ → Script → Script
with_boot n s =
    record { last = s.last; path = s.path; limit = s.limit; size = s.size; clock = s.clock; boot = n; status = s.status; reply = s.reply }

unfoldable pub with_status : ℕ → Script → Script
with_status n s =
    record { last = s.last; path = s.path; limit = s.limit; size = s.size; clock = s.clock; boot = s.boot; status = n; reply = s.reply }

unfoldable pub with_reply : ℕ → Script → Script
with_reply n s =
    record { last = s.last; path = s.path; limit = s.limit; size = s.size; clock = s.clock; boot = s.boot; status = s.status; reply = n }

-- what was read, and the lent memory that it went into
pub record ReadInto : Type 0 where
  pub script : Script
  pub room : List ℕ

abbrev pub read_into : Script → List ℕ → ReadInto
read_into s room = record { script = s; room = room }

-- "Paths are spelled as in the listing": a line of this key whose text fits the memory lent for it
unfoldable pub is_text : List ℕ → List ℕ → ℕ → Bool
is_text key line room = line_has_key key line && (is_spelled (value_of key line) && leb (length (unspelled (value_of key line))) room)

unfoldable pub text_said : List ℕ → List ℕ → List ℕ
text_said key line = unspelled (value_of key line)

pub record TextRead : Type 0 where
  pub said : Option ℕ
  pub room : List ℕ

abbrev pub text_read : Option ℕ → List ℕ → TextRead
text_read said room = record { said = said; room = room }

unfoldable pub text_taken : List ℕ → List ℕ → List ℕ → TextRead
text_taken key line room =
    choose (is_text key line (length room)) (text_read (Some (length (text_said key line))) (pasted room 0 (text_said key line))) (text_read None room)

unfoldable pub text_or_other : Script → (ℕ → Script) → TextRead → ReadInto
text_or_other s f t = by t.said
  where
    by : Option ℕ → ReadInto
    by None = read_into (after Other s) t.room
    by (Some n) = read_into (f n) t.room

unfoldable pub takes_path : Script → List ℕ → List ℕ → ReadInto
takes_path s line room = text_or_other s (λ n. after Path (with_path_units n s)) (text_taken path_key line room)

unfoldable pub takes_boot : Script → List ℕ → List ℕ → ReadInto
takes_boot s line room = text_or_other s (λ n. after Boot (with_boot n s)) (text_taken boot_key line room)

-- numbers are decimal, "without leading zeros", of 32 bits
unfoldable pub or_other : Script → (ℕ → Script) → Option ℕ → Script
or_other s f None = after Other s
or_other s f (Some n) = f n

unfoldable pub takes_limit : Script → List ℕ → Script
takes_limit s line = or_other s (λ n. after Limit (with_limit n s)) (number_said limit_key line)

unfoldable pub takes_size : Script → List ℕ → Script
takes_size s line = or_other s (λ n. after Size (with_size n s)) (number_said size_key line)

unfoldable pub takes_clock : Last → Script → List ℕ → Script
takes_clock l s line = or_other s (λ n. after l (with_clock n s)) (number_said now_key line)

-- "status= has exactly 8" hex digits
unfoldable pub status_said : List ℕ → Option ℕ
status_said line =
    choose (line_has_key status_key line && (eqb (length (value_of status_key line)) 8 && every is_hex (value_of status_key line)))
    (Some (hex_number (value_of status_key line)))
    None

unfoldable pub takes_status : Script → List ℕ → Script
takes_status s line = or_other s (λ n. after Status (with_status n s)) (status_said line)

-- an answer begins with "now= first where it changed", or with its status
unfoldable pub takes_answer : Script → List ℕ → Script
takes_answer s line = choose (line_has_key now_key line) (takes_clock Clock s line) (takes_status s line)

-- the line is the reply of the status that was read last
unfoldable pub is_status : Last → Bool
is_status Nothing = false
is_status Path = false
is_status Limit = false
is_status Size = false
is_status Now = false
is_status Boot = false
is_status Clock = false
is_status Status = true
is_status Reply = false
is_status Other = false
is_status Stopped = false

unfoldable pub is_reply : Script → List ℕ → Bool
is_reply s line = is_status s.last && line_has_key reply_key line

-- "reply= an even number" of hex digits: n of those that are kept, and the rest
unfoldable pub whole_bytes : ℕ → Rest → Bool
whole_bytes n rest.None = eqb (n % 2) 0
whole_bytes n rest.Even = eqb (n % 2) 0
whole_bytes n rest.Odd = eqb (n % 2) 1
whole_bytes n rest.Other = false

-- the bytes of a reply, as many as the memory lent for them holds
unfoldable pub takes_reply : Script → List ℕ → Rest → List ℕ → ReadInto
takes_reply s line r room =
    choose (whole_bytes (length (value_of reply_key line)) r && every is_hex (value_of reply_key line))
    (read_into (after Reply (with_reply (length (take (length room) (hex_bytes (value_of reply_key line)))) s)) (pasted room 0 (take (length room) (hex_bytes (value_of reply_key line)))))
    (read_into (after Other s) room)

-- what was read, and all memory that it goes into
pub record InputRead : Type 0 where
  pub script : Script
  pub path : List ℕ
  pub boot : List ℕ
  pub reply : List ℕ

abbrev pub input_read : Script → List ℕ → List ℕ → List ℕ → InputRead
input_read s path boot reply = record { script = s; path = path; boot = boot; reply = reply }

-- what a line that is kept whole changes
pub record WholeRead : Type 0 where
  pub script : Script
  pub path : List ℕ
  pub boot : List ℕ

abbrev pub whole_read : Script → List ℕ → List ℕ → WholeRead
whole_read s path boot = record { script = s; path = path; boot = boot }

-- a line that is kept whole, by what was read last
unfoldable pub takes_after : Last → Script → List ℕ → List ℕ → List ℕ → WholeRead
takes_after Nothing s line path boot = whole_read (takes_path s line path).script (takes_path s line path).room boot
takes_after Path s line path boot = whole_read (takes_limit s line) path boot
takes_after Limit s line path boot = whole_read (takes_size s line) path boot
takes_after Size s line path boot = whole_read (takes_clock Now s line) path boot
takes_after Now s line path boot = whole_read (takes_boot s line boot).script path (takes_boot s line boot).room
takes_after Boot s line path boot = whole_read (takes_answer s line) path boot
takes_after Clock s line path boot = whole_read (takes_status s line) path boot
takes_after Status s line path boot = whole_read (takes_answer s line) path boot
takes_after Reply s line path boot = whole_read (takes_answer s line) path boot
takes_after Other s line path boot = whole_read s path boot
takes_after Stopped s line path boot = whole_read s path boot

unfoldable pub is_whole : Rest → Bool
is_whole rest.None = true
is_whole rest.Even = false
is_whole rest.Odd = false
is_whole rest.Other = false

-- a line: the bytes that are kept, and the rest. Only a reply may be longer than the memory for a line.
unfoldable pub takes : Script → List ℕ → Rest → List ℕ → List ℕ → List ℕ → InputRead
takes s line r path boot reply =
    choose (is_reply s line) (input_read (takes_reply s line r reply).script path boot (takes_reply s line r reply).room)
    (choose (is_whole r)
    (input_read (takes_after s.last s line path boot).script (takes_after s.last s line path boot).path (takes_after s.last s line path boot).boot reply)
    (input_read (after Other s) path boot reply))

-- A whole line of any length, where the first `most` bytes are kept: a reply is read to its end, any other line may have no more bytes than these. Theorem
-- `line_taken_lem`: this is what `takes` makes of the kept bytes and the rest.
unfoldable pub line_taken : ℕ → Script → List ℕ → List ℕ → List ℕ → List ℕ → InputRead
line_taken most s line path boot reply =
    choose (is_reply s line) (input_read (takes_reply s line rest.None reply).script path boot (takes_reply s line rest.None reply).room)
    (choose (leb (length line) most)
    (input_read (takes_after s.last s line path boot).script (takes_after s.last s line path boot).path (takes_after s.last s line path boot).boot reply)
    (input_read (after Other s) path boot reply))

-- the bytes that are kept
unfoldable pub kept_of : List ℕ → Held → List ℕ
kept_of line h = take h.kept line

-- the program goes on until it has stopped
unfoldable pub walk_goes_on : Last → Bool
walk_goes_on Nothing = true
walk_goes_on Path = true
walk_goes_on Limit = true
walk_goes_on Size = true
walk_goes_on Now = true
walk_goes_on Boot = true
walk_goes_on Clock = true
walk_goes_on Status = true
walk_goes_on Reply = true
walk_goes_on Other = true
walk_goes_on Stopped = false

-- no line is read once it has stopped
unfoldable pub takes_on : Script → List ℕ → Rest → List ℕ → List ℕ → List ℕ → InputRead
takes_on s line r path boot reply = choose (walk_goes_on s.last) (takes s line r path boot reply) (input_read s path boot reply)

-- what comes of the input: a part of a line, which waits for the rest; a line; or the end, which stops the program
unfoldable pub input_taken : Input → Script → List ℕ → Rest → List ℕ → List ℕ → List ℕ → InputRead
input_taken Part s line r path boot reply = input_read s path boot reply
input_taken Line s line r path boot reply = takes_on s line r path boot reply
input_taken End s line r path boot reply = input_read (after Stopped s) path boot reply

-- Which call is due before what has come is read. "With reply= it is a referral's answer, without an I/O answer": a status that the line does not go on
-- with a reply was an answer to an I/O try.
unfoldable pub line_due : Script → List ℕ → Due
line_due s line = choose (is_status s.last && not (line_has_key reply_key line)) due.Io due.None

-- So was the last status of the input. The input may end there, after the settings or after a reply; else it is not of the form.
unfoldable pub end_due : Last → Due
end_due Nothing = due.Refusal
end_due Path = due.Refusal
end_due Limit = due.Refusal
end_due Size = due.Refusal
end_due Now = due.Refusal
end_due Boot = due.None
end_due Clock = due.Refusal
end_due Status = due.Io
end_due Reply = due.None
end_due Other = due.Refusal
end_due Stopped = due.None

unfoldable pub due_before : Input → Script → List ℕ → Due
due_before Part s line = due.None
due_before Line s line = line_due s line
due_before End s line = end_due s.last

-- Which call is due when a line has been read: after the settings a start, after a reply the answer to a referral request. A line that is not of the form
-- is refused.
unfoldable pub read_due : Last → Due
read_due Nothing = due.None
read_due Path = due.None
read_due Limit = due.None
read_due Size = due.None
read_due Now = due.None
read_due Boot = due.Start
read_due Clock = due.None
read_due Status = due.None
read_due Reply = due.Referral
read_due Other = due.Refusal
read_due Stopped = due.None

unfoldable pub due_after : Input → Script → Due
due_after Part s = due.None
due_after Line s = read_due s.last
due_after End s = due.None
