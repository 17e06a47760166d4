-- The calls that hosts in other languages make are those of the list.
use mathlib.Core.Path.{◌≡◌, refl, sym, ap, ◌∙◌}
use mathlib.Core.Bool.{Bool, true, false}
use mathlib.Core.List.{List, ◌++◌}
use Prim.Native.Nat.{ℕ}
use native.Mathlib.Omega.{arith}
use lib.ListN.{take, drop}
use lib.Seq.{take-append_seam, drop-append_seam}
use Rattle.std.specs.Prelude.{Ok, Err}
use Rattle.laws.specs.Choice.{choose}
use Rattle.walk_form.specs.declared.held.Walk.{Walk}
use Rattle.walk_form.specs.packed.Packing.{packed_walk, unpacked}
use Rattle.walk_form.proofs.packed.PackLaws.{unpack_pack, length_packed}
use Rattle.walk_calls.specs.call_end.Closing.{Verdict}
use Rattle.walk_calls.specs.declared.call_end.Refusal.{Refusal}
use Rattle.walk_calls.specs.declared.call_end.Refusal.TheVariants.{BadPath, LongPath, BadSettings, NotInOrder, OutOfForm, ShortBuffer}
use Rattle.walk_calls.specs.calls.Calls.{Answered, refusal_number, start_call, referral_call, io_call}
use Rattle.walk_calls.specs.call_end.Closing.{Left, refused, closes}
use Rattle.walk_steps.specs.steps.Steps.{Resting}
use Rattle.dfsc_memory.specs.Units.{AnswerLeft, units_left, held_in, walk_in, head_after, in_units, start_units, answer_in_units, referral_answer_units, io_answer_units, no_walk, texts_in}
use Rattle.theorems.specs.limit.Calls.{Held, Start, Answer, referral, io, Calls, start, then, run, after_answer}
use Rattle.theorems.proofs.limit.ListLaws.{answer_identity}
use Rattle.theorems.specs.limit.Exported.{answered_units, units_run, packed_answer}

module _ (w : Walk) (t : List ℕ) where
  head : take 32 (packed_walk w ++ t) ≡ packed_walk w
  head = ap (λ (n : ℕ). take n (packed_walk w ++ t)) (sym (length_packed w)) ∙ take-append_seam (packed_walk w) t

  tail : drop 32 (packed_walk w ++ t) ≡ t
  tail = ap (λ (n : ℕ). drop n (packed_walk w ++ t)) (sym (length_packed w)) ∙ drop-append_seam (packed_walk w) t

  walk_back : walk_in (packed_walk w ++ t) ≡ w
  unfolding walk_in held_in
  walk_back = ap (λ (u : List ℕ). held_in (unpacked u)) head ∙ ap held_in (unpack_pack w)

-- a number is no "taken"
not_taken : (e : Refusal) → ◌≡◌ {A = Verdict} (Err e) (Ok tt) → ⊥
not_taken e h = let z : ◌≡◌ {A = ℕ} 0 1 = cc in omega arith

-- the packed form after a call
head_after_lem : (v : Verdict) (w : Walk) (u : List ℕ) → ((v ≡ Ok tt → ⊥) → take 32 u ≡ packed_walk w) → head_after (refusal_number v) w u ≡ packed_walk w
unfolding head_after refusal_number choose
head_after_lem (Ok tt) w u h = refl
head_after_lem (Err BadPath) w u h = h (not_taken BadPath)
head_after_lem (Err LongPath) w u h = h (not_taken LongPath)
head_after_lem (Err BadSettings) w u h = h (not_taken BadSettings)
head_after_lem (Err NotInOrder) w u h = h (not_taken NotInOrder)
head_after_lem (Err OutOfForm) w u h = h (not_taken OutOfForm)
head_after_lem (Err ShortBuffer) w u h = h (not_taken ShortBuffer)

units_left_lem : (u : List ℕ) (o : Answered) → ((o.left.verdict ≡ Ok tt → ⊥) → take 32 u ≡ packed_walk o.left.walk) → answer_in_units u o ≡ packed_answer o
unfolding answer_in_units in_units packed_answer
units_left_lem u o h =
    ap (λ (p : List ℕ). record { left = units_left (refusal_number o.left.verdict) (p ++ o.left.texts) o.left.out; refs = o.refs; doms = o.doms })
    (head_after_lem o.left.verdict o.left.walk u h)

-- an answer to a walk that is held as units
one_answer : (o : Answered) (a : Answer) → answered_units (packed_answer o) a ≡ answer_in_units (packed_walk o.left.walk ++ o.left.texts) (after_answer o a)
unfolding answered_units packed_answer referral_answer_units io_answer_units after_answer
one_answer o (referral status reply clock out) =
    λ j. answer_in_units (packed_walk o.left.walk ++ o.left.texts) (referral_call o.refs o.doms (tail o.left.walk o.left.texts j) (walk_back o.left.walk o.left.texts j) status reply clock out)
one_answer o (io status clock out) =
    λ j. answer_in_units (packed_walk o.left.walk ++ o.left.texts) (io_call o.refs o.doms (tail o.left.walk o.left.texts j) (walk_back o.left.walk o.left.texts j) status clock out)

-- a start that is taken leaves nothing of the walk that it was given
module _ (v w : Walk) (texts out : List ℕ) where
  passes : (b : Bool) (n : Verdict) {x y : Left} → (n ≡ Ok tt → ⊥) → (x.verdict ≡ Ok tt → x ≡ y) → (choose b x (refused n v texts out)).verdict ≡ Ok tt
      → choose b x (refused n v texts out) ≡ choose b y (refused n w texts out)
  unfolding choose
  passes true n h f e = f e
  passes false n h f e = absurd (h e)

  closes_alike : (l : ℕ) (boot : List ℕ) (x : Resting) → (closes l boot x v texts out).verdict ≡ Ok tt → closes l boot x v texts out ≡ closes l boot x w texts out
  unfolding closes
  closes_alike l boot x = passes _ (Err ShortBuffer) (not_taken ShortBuffer) (λ e. refl)

  starts_alike : (refs doms path boot : List ℕ) (l size clock : ℕ) → (start_call refs doms texts v path boot l size clock out).verdict ≡ Ok tt
      → start_call refs doms texts v path boot l size clock out ≡ start_call refs doms texts w path boot l size clock out
  unfolding start_call
  starts_alike refs doms path boot l size clock =
      passes _ (Err NotInOrder) (not_taken NotInOrder)
      (passes _ (Err BadPath) (not_taken BadPath)
      (passes _ (Err LongPath) (not_taken LongPath) (passes _ (Err BadSettings) (not_taken BadSettings) (passes _ (Err OutOfForm) (not_taken OutOfForm) (closes_alike l boot _)))))

module _ (l : ℕ) (h : Held) (s : Start) (units : List ℕ) (e : texts_in units ≡ h.texts) (v : (run l h s start).left.verdict ≡ Ok tt) where
  first_units : units_run l h s units start ≡ answer_in_units units (run l h s start)
  unfolding units_run run answer_in_units start_units
  first_units =
      ap (λ (x : Left). record { left = in_units units x; refs = h.refs; doms = h.doms })
      (ap (λ (t : List ℕ). start_call h.refs h.doms t no_walk s.path s.boot l s.size s.clock s.out) e
      ∙ sym (starts_alike h.walk no_walk h.texts s.out h.refs h.doms s.path s.boot l s.size s.clock v))

  -- along every list the exported calls are those of the list
  pub exported : (cs : Calls) → units_run l h s units cs ≡ packed_answer (run l h s cs)
  unfolding units_run run
  exported start = first_units ∙ units_left_lem units (run l h s start) (λ n. absurd (n v))
  exported (then cs a) =
      ap (λ (o : AnswerLeft). answered_units o a) (exported cs)
      ∙ (one_answer (run l h s cs) a
      ∙ units_left_lem (packed_walk (run l h s cs).left.walk ++ (run l h s cs).left.texts) (after_answer (run l h s cs) a)
      (λ n. head (run l h s cs).left.walk (run l h s cs).left.texts ∙ ap (λ (o : Answered). packed_walk o.left.walk) (sym (answer_identity (run l h s cs) a n))))
