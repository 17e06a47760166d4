-- The call that is made is the call that is due, and what is printed is its outcome.
use mathlib.Core.Path.{◌≡◌, refl, sym, ap, subst, ◌∙◌}
use mathlib.Core.Bool.{true}
use mathlib.Core.List.{List, []}
use Prim.Native.Nat.{ℕ, ◌+◌, ◌≤◌, min}
use native.Mathlib.Nat.{zero-add}
use native.Mathlib.Omega.{arith}
use lib.ListN.{length, take}
use lib.Dec.{eqb}
use borrow.Author.Tests.{ne_eqb}
use Rattle.std.specs.Prelude.{Result, Ok, Err}
use Rattle.std.specs.Result.{result_unwrap_or}
use Rattle.laws.specs.Choice.{choose}
use Rattle.laws.specs.Lists.{every, part}
use Rattle.laws.proofs.Pasting.{part_pasted}
use Rattle.laws.proofs.Choices.{choose_yes, choose_no}
use Rattle.script_lines.proofs.line_bytes.HexLaws.{take_least}
use Rattle.walk_form.specs.declared.held.Walk.{Walk}
use Rattle.walk_calls.specs.call_end.Code.{verdict_of, left}
use Rattle.walk_calls.specs.declared.call_end.Refusal.{Refusal}
use Rattle.walk_calls.specs.declared.call_end.Refusal.TheVariants.{BadPath, LongPath, BadSettings, NotInOrder, OutOfForm, ShortBuffer}
use Rattle.walk_calls.specs.calls.Calls.{Answered, refusal_number, start_call, io_call, referral_call}
use Rattle.walk_calls.specs.calls.Code.{answered}
use Rattle.listing_spelling.specs.spell.Spelling.{Put}
use Rattle.listing_spelling.proofs.spell.PutLaws.{length_put}
use Rattle.listing_write.proofs.EntryLaws.{put_same}
use Rattle.script_output.specs.printed.Printed.{refused_line, is_byte}
use Rattle.script_output.proofs.printed.PrintedLaws.{refused_bytes, nothing_put}
use Rattle.script_output.proofs.printed.ByteLaws.{refused_all}
use Rattle.script_output.specs.outcome.Telling.{outcome_lines}
use Rattle.script_output.proofs.outcome.TellingLaws.{outcome_bytes, taken_whole}
use Rattle.script_output.proofs.outcome.ByteLaws.{outcome_all}
use Rattle.script_lines.specs.lines.Script.{after}
use Rattle.script_lines.specs.declared.lines.Script.{Script}
use Rattle.script_lines.specs.declared.lines.Last.TheVariants.{Stopped}
use Rattle.script_lines.specs.declared.lines.Due.{Due}
use Rattle.script_lines.specs.declared.lines.Due.TheVariants as due
use Rattle.script_run.specs.declared.call_due.Done.{Done}
use Rattle.script_run.specs.call_due.Calling.{LentMemory, lent_memory, CallLeft, call_left, call_told, request_room, start_made, io_made, referral_made, made, CallMade}
use Rattle.script_run.specs.call_due.Code.{Refused}

-- a refusal's number is not 0
refused_some : (e : Refusal) → refusal_number (Err e) ≡ 0 → ⊥
unfolding refusal_number
refused_some BadPath h = omega arith
refused_some LongPath h = omega arith
refused_some BadSettings h = omega arith
refused_some NotInOrder h = omega arith
refused_some OutOfForm h = omega arith
refused_some ShortBuffer h = omega arith

-- what a call gave back
module _ (s : Script) (w : Walk) (refs doms texts d m : List ℕ) {b : ℕ} where
  module _ (o : Result Walk Refusal) {k : ℕ} (e : k ≡ refusal_number (verdict_of o)) (p : Put d 0 (outcome_lines k refs doms (result_unwrap_or o w) texts) m b) where
    told_by : (t : Script) → t ≡ choose (eqb (refusal_number (verdict_of o)) 0) s (after Stopped s)
        → CallMade (call_told s (answered o w texts [] refs doms)) (record { script = t; walk = result_unwrap_or o w; bytes = b }) refs doms texts d m
    unfolding call_told
    told_by t h = record {
      left = λ i. call_left (h i) (result_unwrap_or o w) refs doms texts (outcome_lines (refusal_number (verdict_of o)) refs doms (result_unwrap_or o w) texts);
      printed = put_same (ap (λ (x : ℕ). outcome_lines x refs doms (result_unwrap_or o w) texts) e) p;
    }

  module _ {a : Result Walk Refusal} where
    pub told_taken : (v : Walk) → a ≡ Ok v → Put d 0 (outcome_lines 0 refs doms v texts) m b
        → CallMade (call_told s (answered a w texts [] refs doms)) (record { script = s; walk = v; bytes = b }) refs doms texts d m
    unfolding refusal_number
    told_taken v h p =
        subst (λ (r : Result Walk Refusal). CallMade (call_told s (answered r w texts [] refs doms)) (record { script = s; walk = v; bytes = b }) refs doms texts d m) (sym h)
        (told_by (Ok v) {k = 0} refl p s (sym (choose_yes _ _ refl)))

    pub told_refused : (e : Refusal) → a ≡ Err e → {k : ℕ} → k ≡ refusal_number (Err e) → Put d 0 (outcome_lines k refs doms w texts) m b → {t : Script} → t ≡ after Stopped s
        → CallMade (call_told s (answered a w texts [] refs doms)) (record { script = t; walk = w; bytes = b }) refs doms texts d m
    told_refused e h k p {t} g =
        subst (λ (r : Result Walk Refusal). CallMade (call_told s (answered r w texts [] refs doms)) (record { script = t; walk = w; bytes = b }) refs doms texts d m) (sym h)
        (told_by (Err e) k p t (g ∙ sym (choose_no _ _ (ne_eqb _ 0 (refused_some e)))))

-- the bytes of a request are not printed
told_answer : (s : Script) (o : Result Walk Refusal) (w : Walk) {texts out refs doms : List ℕ} {a : Answered} → answered o w texts out refs doms ≡ a → call_told s (answered o w texts [] refs doms) ≡ call_told s a
unfolding call_told
told_answer s o w e = ap (call_told s) e

module _ {r : Done} {refs doms texts d m : List ℕ} where
  made_as : {x y : CallLeft} → x ≡ y → CallMade x r refs doms texts d m → CallMade y r refs doms texts d m
  made_as e x = subst (λ (z : CallLeft). CallMade z r refs doms texts d m) e x

  -- the buffer q that was lent for the request is as the definition has it
  module _ (s : Script) {q : List ℕ} (w : q ≡ request_room) where
    pub start_made_lem : (walk : Walk) (before path boot : List ℕ) (o : Result Walk Refusal) {out : List ℕ} {p b : ℕ} → p ≡ min s.path (length path) → b ≡ min s.boot (length boot)
        → left o walk texts out ≡ start_call refs doms before walk (take p path) (take b boot) s.limit s.size s.clock q
        → CallMade (call_told s (answered o walk texts [] refs doms)) r refs doms texts d m → CallMade (start_made s (lent_memory walk refs doms before path boot [])) r refs doms texts d m
    unfolding start_made
    start_made_lem walk before path boot o {out} {p} {b} hp hb e =
        made_as
        (told_answer s _ walk
        (λ i. record { left = (e ∙ (λ j. start_call refs doms before walk (take_least s.path path p hp j) (take_least s.boot boot b hb j) s.limit s.size s.clock (w j))) i; refs = refs; doms = doms }))

    pub io_made_lem : (walk : Walk) (refs₀ texts₀ : List ℕ) (o : Result Walk Refusal) {out : List ℕ} → answered o walk texts out refs doms ≡ io_call refs₀ doms texts₀ walk s.status s.clock q
        → CallMade (call_told s (answered o walk texts [] refs doms)) r refs doms texts d m → CallMade (io_made s (lent_memory walk refs₀ doms texts₀ [] [] [])) r refs doms texts d m
    unfolding io_made
    io_made_lem walk refs₀ texts₀ o e = made_as (told_answer s _ walk (e ∙ ap (io_call refs₀ doms texts₀ walk s.status s.clock) w))

    pub referral_made_lem : (walk : Walk) (refs₀ doms₀ texts₀ reply : List ℕ) (o : Result Walk Refusal) {out : List ℕ} {k : ℕ} → k ≡ min s.reply (length reply)
        → answered o walk texts out refs doms ≡ referral_call refs₀ doms₀ texts₀ walk s.status (take k reply) s.clock q
        → CallMade (call_told s (answered o walk texts [] refs doms)) r refs doms texts d m → CallMade (referral_made s (lent_memory walk refs₀ doms₀ texts₀ [] [] reply)) r refs doms texts d m
    unfolding referral_made
    referral_made_lem walk refs₀ doms₀ texts₀ reply o {out} {k} hk e =
        made_as (told_answer s _ walk (e ∙ (λ j. referral_call refs₀ doms₀ texts₀ walk s.status (take_least s.reply reply k hk j) s.clock (w j))))

-- no call is due, or a refusal
module _ (s : Script) {e : Due} (walk : Walk) (refs doms texts path boot reply d : List ℕ) where
  pub due_none : e ≡ due.None → CallMade (made e s (lent_memory walk refs doms texts path boot reply)) (record { script = s; walk = walk; bytes = 0 }) refs doms texts d d
  unfolding made
  due_none h = made_as (ap (λ (x : Due). made x s (lent_memory walk refs doms texts path boot reply)) (sym h)) (record { left = refl; printed = nothing_put d 0 refl })

  pub due_refusal : e ≡ due.Refusal → {r : Done} {m : List ℕ} → Refused s walk r d m → CallMade (made e s (lent_memory walk refs doms texts path boot reply)) r refs doms texts d m
  unfolding made
  due_refusal h x =
      made_as (ap (λ (y : Due). made y s (lent_memory walk refs doms texts path boot reply)) (sym h))
      (record { left = λ i. call_left (x.script i) (x.walk i) refs doms texts (refused_line 0); printed = x.printed })

pub refusal_room : (m : ℕ) → 4931 ≤ m → 0 + length (refused_line 0) ≤ m
refusal_room m h = omega (arith, refused_bytes 0)

-- the most bytes that a call prints
told_bytes : (s : Script) (a : Answered) → length (call_told s a).printed ≤ 4931
unfolding call_told
told_bytes s a = outcome_bytes _ _ _ _ _

pub made_bytes : (e : Due) (s : Script) (h : LentMemory) → length (made e s h).printed ≤ 4931
unfolding made start_made io_made referral_made
made_bytes due.None s h = omega arith
made_bytes due.Start s h = told_bytes s _
made_bytes due.Io s h = told_bytes s _
made_bytes due.Referral s h = told_bytes s _
made_bytes due.Refusal s h = omega (arith, refused_bytes 0)

told_all : (s : Script) (a : Answered) → every is_byte (call_told s a).printed ≡ true
unfolding call_told
told_all s a = outcome_all _ _ _ _ _

made_all : (e : Due) (s : Script) (h : LentMemory) → every is_byte (made e s h).printed ≡ true
unfolding made start_made io_made referral_made every
made_all due.None s h = refl
made_all due.Start s h = told_all s _
made_all due.Io s h = told_all s _
made_all due.Referral s h = told_all s _
made_all due.Refusal s h = refused_all 0

-- and they lie in the buffer
module _ (e : Due) (s : Script) (h : LentMemory) {r : Done} {refs doms texts d o : List ℕ} (m : CallMade (made e s h) r refs doms texts d o) (fits : 4931 ≤ length d) where
  pub made_within : r.bytes ≤ length o
  made_within = let b = made_bytes e s h in let n = m.printed.end in let l = length_put m.printed (omega arith) in omega arith

  pub made_taken : r.bytes ≡ length (take r.bytes o)
  made_taken = taken_whole r.bytes o made_within

  -- what is printed is taken from the buffer, and all of it is bytes
  made_printed : take r.bytes o ≡ (made e s h).printed
  unfolding part
  made_printed =
      let b = made_bytes e s h in
      let n : r.bytes ≡ length (made e s h).printed = m.printed.end ∙ zero-add _ in
      rw (n, m.printed.memory) (part_pasted d 0 (made e s h).printed (omega arith))

  pub printed_all : every is_byte (take r.bytes o) ≡ true
  printed_all = rw made_printed (made_all e s h)

  pub printed_few : length (take r.bytes o) ≤ 4931
  printed_few = rw made_printed (made_bytes e s h)
