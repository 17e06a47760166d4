-- Laws of an answer.
use mathlib.Core.Path.{◌≡◌, refl, sym, ap, ◌∙◌}
use mathlib.Core.Bool.{Bool, true, false, ◌&&◌}
use mathlib.Core.List.{List}
use mathlib.Core.Logic.{◌⊎◌, inl, inr}
use Prim.Native.Nat.{ℕ, ◌-◌}
use lib.ListN.{length}
use Rattle.std.specs.Prelude.{Err, None, Option, Some}
use Rattle.laws.specs.Choice.{choose}
use Rattle.laws.proofs.Choices.{choose_yes, choose_no, and_left, and_right}
use Rattle.laws.proofs.Orders.{told}
use Rattle.cache.specs.order.Memory.{referrals, domains, encode, in_order}
use Rattle.walk_steps.specs.steps.Steps.{Caches, Turn, turned, referral_answered, io_answered}
use Rattle.walk_steps.specs.steps.Held.{caches_of, question_of}
use Rattle.walk_steps.specs.declared.steps.End.{End}
use Rattle.walk_steps.specs.declared.steps.Asking.{Asking}
use Rattle.walk_steps.specs.declared.steps.Next.{Next}
use Rattle.walk_steps.specs.declared.steps.Next.TheVariants.{Asks, Ends}
use Rattle.walk_steps.specs.question_request.Questions.{rest_fits}
use Rattle.walk_store.specs.after_reply.Code.{leaves}
use Rattle.walk_form.specs.held.Walks.{tried_in, has_tried, in_form}
use Rattle.walk_form.specs.declared.held.Walk.{Walk}
use Rattle.walk_form.specs.held.Walks.{core_in}
use Rattle.walk_calls.specs.answer_steps.Code.{AnswerDue, progress_of, io_turn, referral_turn, Closed, closing}
use Rattle.walk_calls.proofs.answer_steps.DueLaws.{none_tried}
use Rattle.walk_calls.specs.resting.Code.{walk_question}
use Rattle.walk_calls.proofs.resting.RestingLaws.{question_none}
use Rattle.walk_calls.specs.call_end.Closing.{Left, closes}
use Rattle.walk_calls.specs.declared.call_end.Refusal.TheVariants.{NotInOrder, OutOfForm, ShortBuffer}
use Rattle.walk_calls.specs.calls.Calls.{Answered, refused_answer, rest_at, rest_in, referral_event, io_event, answers, answer_call, referral_call, io_call}

-- an answer, by its tests
module _ (event : Option Turn) (clock : ℕ) (walk : Walk) (texts out refs doms : List ℕ) {b : Bool} (o : b ≡ (in_order referrals refs && in_order domains doms)) where
  pub call_order : b ≡ false → refused_answer (Err NotInOrder) walk texts out refs doms ≡ answer_call event clock walk texts out refs doms
  unfolding answer_call
  call_order h = sym (choose_no _ _ (sym o ∙ h))

  module _ (h : b ≡ true) {f : Bool} (p : f ≡ in_form walk texts) where
    pub call_form : f ≡ false → refused_answer (Err OutOfForm) walk texts out refs doms ≡ answer_call event clock walk texts out refs doms
    unfolding answer_call
    call_form g = sym (choose_yes _ _ (sym o ∙ h) ∙ choose_no _ _ (sym p ∙ g))

    module _ (g : f ≡ true) where
      taken : {y : Answered} → y ≡ answers event clock walk texts out refs doms → y ≡ answer_call event clock walk texts out refs doms
      unfolding answer_call
      taken e = e ∙ sym (choose_yes _ _ (sym o ∙ h) ∙ choose_yes _ _ (sym p ∙ g))

      pub call_none : event ≡ None → refused_answer (Err OutOfForm) walk texts out refs doms ≡ answer_call event clock walk texts out refs doms
      unfolding answers
      call_none e = taken (ap (λ (v : Option Turn). answers v clock walk texts out refs doms) (sym e))

      pub call_some : (t : Turn) {y : Answered} → event ≡ Some t → y ≡ answers (Some t) clock walk texts out refs doms → y ≡ answer_call event clock walk texts out refs doms
      call_some t e k = taken (k ∙ ap (λ (v : Option Turn). answers v clock walk texts out refs doms) (sym e))

-- no question waits
pub call_unasked : (event : Option Turn) (clock : ℕ) (walk : Walk) (texts out refs doms : List ℕ) {b : Bool} → b ≡ (in_order referrals refs && in_order domains doms) → b ≡ true
    → walk_question walk texts ≡ None → ((e : End) (s : ℕ) → walk.next ≡ Ends e s → event ≡ None)
    → refused_answer (Err OutOfForm) walk texts out refs doms ≡ answer_call event clock walk texts out refs doms
call_unasked event clock walk texts out refs doms o h n v = go (question_none walk texts n)
  where
    go : (in_form walk texts ≡ false) ⊎ ((in_form walk texts ≡ true) × ((e : End) × ((s : ℕ) × (walk.next ≡ Ends e s))))
        → refused_answer (Err OutOfForm) walk texts out refs doms ≡ answer_call event clock walk texts out refs doms
    go (inl f) = call_form event clock walk texts out refs doms o h refl f
    go (inr t) = call_none event clock walk texts out refs doms o h refl t.0 (v t.1.0 t.1.1.0 t.1.1.1)

-- the event of an I/O answer, and that of a referral's
module _ (c : Caches) (walk : Walk) (texts : List ℕ) (status : ℕ) where
  pub io_ended : (e : End) (s : ℕ) → walk.next ≡ Ends e s → io_event c (core_in walk texts) (rest_in walk texts) status ≡ None
  unfolding io_event rest_in rest_at
  io_ended e s h = ap (λ (n : Next). io_event c (core_in walk texts) (rest_at (tried_in walk texts) n) status) h

  module _ (q : Asking) (h : walk.next ≡ Asks q) {t : Bool} (u : t ≡ has_tried q.kind) where
    io_waits : io_event c (core_in walk texts) (rest_in walk texts) status
        ≡ choose (has_tried q.kind) (Some (io_answered c (core_in walk texts) (question_of q (tried_in walk texts)) status)) None
    unfolding io_event rest_in rest_at question_of
    io_waits = ap (λ (n : Next). io_event c (core_in walk texts) (rest_at (tried_in walk texts) n) status) h

    pub io_other : t ≡ false → io_event c (core_in walk texts) (rest_in walk texts) status ≡ None
    io_other k = io_waits ∙ choose_no _ _ (sym u ∙ k)

    io_event_lem : t ≡ true → io_event c (core_in walk texts) (rest_in walk texts) status ≡ Some (io_answered c (core_in walk texts) (question_of q (tried_in walk texts)) status)
    io_event_lem k = io_waits ∙ choose_yes _ _ (sym u ∙ k)

  module _ (reply : List ℕ) (clock : ℕ) where
    pub referral_ended : (e : End) (s : ℕ) → walk.next ≡ Ends e s → referral_event c (core_in walk texts) (rest_in walk texts) status reply clock ≡ None
    unfolding referral_event rest_in rest_at
    referral_ended e s h = ap (λ (n : Next). referral_event c (core_in walk texts) (rest_at (tried_in walk texts) n) status reply clock) h

    module _ (q : Asking) (h : walk.next ≡ Asks q) {t : Bool} (u : t ≡ has_tried q.kind) where
      referral_waits : referral_event c (core_in walk texts) (rest_in walk texts) status reply clock
          ≡ choose (has_tried q.kind) None (Some (referral_answered c (core_in walk texts) (question_of q (tried_in walk texts)) status reply clock))
      unfolding referral_event rest_in rest_at question_of
      referral_waits = ap (λ (n : Next). referral_event c (core_in walk texts) (rest_at (tried_in walk texts) n) status reply clock) h

      pub referral_other : t ≡ true → referral_event c (core_in walk texts) (rest_in walk texts) status reply clock ≡ None
      referral_other k = referral_waits ∙ choose_yes _ _ (sym u ∙ k)

      referral_event_lem : t ≡ false
          → referral_event c (core_in walk texts) (rest_in walk texts) status reply clock ≡ Some (referral_answered c (core_in walk texts) (question_of q (tried_in walk texts)) status reply clock)
      referral_event_lem k = referral_waits ∙ choose_no _ _ (sym u ∙ k)

-- a turn whose call ends is the answer's
module _ (t : Turn) (clock : ℕ) (walk : Walk) (texts out refs doms : List ℕ) where
  abbrev fits : Bool
  fits = rest_fits (length out) (turned (walk.limit - walk.moves) clock t)

  pub answers_closing : {l : Left} {r d : List ℕ} → record { ending = l; refs = r; doms = d } ≡ closing clock walk texts out refs doms t
      → record { left = l; refs = r; doms = d } ≡ answers (Some t) clock walk texts out refs doms
  unfolding answers closing closes leaves progress_of
  answers_closing {l} {r} {d} e = go (told fits)
    where
      go : (fits ≡ true) ⊎ (fits ≡ false) → record { left = l; refs = r; doms = d } ≡ answers (Some t) clock walk texts out refs doms
      go (inl y) =
          (λ j.
          record {
            left = ap (λ (x : Closed). x.ending) e j;
            refs = (ap (λ (x : Closed). x.refs) e ∙ choose_yes (encode referrals t.caches.referrals) refs y) j;
            doms = (ap (λ (x : Closed). x.doms) e ∙ choose_yes (encode domains t.caches.domains) doms y) j;
          })
          ∙ sym (choose_yes _ (refused_answer (Err ShortBuffer) walk texts out refs doms) y)
      go (inr n) =
          (λ j.
          record {
            left = (ap (λ (x : Closed). x.ending) e ∙ choose_no _ _ n) j;
            refs = (ap (λ (x : Closed). x.refs) e ∙ choose_no (encode referrals t.caches.referrals) refs n) j;
            doms = (ap (λ (x : Closed). x.doms) e ∙ choose_no (encode domains t.caches.domains) doms n) j;
          })
          ∙ sym (choose_no _ (refused_answer (Err ShortBuffer) walk texts out refs doms) n)

-- an answer that is due
module _ (refs doms texts : List ℕ) (walk : Walk) (out : List ℕ) {b : Bool} (o : b ≡ (in_order referrals refs && in_order domains doms)) (h : b ≡ true) {f : Bool} (p : f ≡ in_form walk texts)
    (g : f ≡ true) (q : Asking) (k : walk.next ≡ Asks q) {t : Bool} (u : t ≡ has_tried q.kind) where
  pub due : {has : Bool} → t ≡ has → AnswerDue refs doms walk texts q has
  due v = record { order = and_left _ _ (sym o ∙ h); doms_order = and_right (in_order referrals refs) _ (sym o ∙ h); form = sym p ∙ g; next = k; kind = sym u ∙ v }

  -- I/O
  pub io_taken : (status clock : ℕ) → t ≡ true → {l : Left} {r d : List ℕ} → record { ending = l; refs = r; doms = d } ≡ closing clock walk texts out refs doms (io_turn refs doms texts walk q status)
      → record { left = l; refs = r; doms = d } ≡ io_call refs doms texts walk status clock out
  unfolding io_call io_turn
  io_taken status clock v e =
      call_some _ clock walk texts out refs doms o h p g (io_turn refs doms texts walk q status) (io_event_lem (caches_of refs doms) walk texts status q k u v)
      (answers_closing (io_turn refs doms texts walk q status) clock walk texts out refs doms e)

  -- a referral
  module _ (status : ℕ) (reply : List ℕ) (clock : ℕ) (v : t ≡ false) where
    asked : referral_event (caches_of refs doms) (core_in walk texts) (rest_in walk texts) status reply clock ≡ Some (referral_turn refs doms texts walk q status reply clock)
    unfolding referral_turn
    asked =
        referral_event_lem (caches_of refs doms) walk texts status reply clock q k u v
        ∙ ap (λ (l : List ℕ). Some (referral_answered (caches_of refs doms) (core_in walk texts) (question_of q l) status reply clock)) (none_tried (due v) refl)

    pub referral_taken : {l : Left} {r d : List ℕ}
        → record { ending = l; refs = r; doms = d } ≡ closing clock walk texts out refs doms (referral_turn refs doms texts walk q status reply clock)
        → record { left = l; refs = r; doms = d } ≡ referral_call refs doms texts walk status reply clock out
    unfolding referral_call
    referral_taken e =
        call_some _ clock walk texts out refs doms o h p g (referral_turn refs doms texts walk q status reply clock) asked
        (answers_closing (referral_turn refs doms texts walk q status reply clock) clock walk texts out refs doms e)
