-- An answer that fails leaves both caches as they were.
use mathlib.Core.Path.{◌≡◌, refl, sym, ap, ◌∙◌}
use mathlib.Core.Bool.{true, false, ◌&&◌}
use mathlib.Core.List.{List}
use mathlib.Core.Logic.{◌⊎◌, inl, inr}
use Prim.Native.Nat.{ℕ, ◌-◌}
use native.Mathlib.Omega.{arith}
use lib.ListN.{length}
use lib.Dec.{leb, eqb}
use Rattle.std.specs.Prelude.{Err, Option, None, Some}
use Rattle.laws.proofs.Choices.{choose_yes, choose_no, and_left, and_right}
use Rattle.laws.proofs.Orders.{told}
use Rattle.laws.proofs.Tests.{not_both}
use Rattle.cache.specs.order.Memory.{referrals, domains, encode, in_order}
use Rattle.cache.proofs.order.MemoryLaws.{encode_decode}
use Rattle.cache.specs.order.Entries.{Referral}
use Rattle.walk_steps.specs.steps.Steps.{Caches, Core, Question, Rest, waits, ended, Turn, turned, severity, is_in_use, referral_in_use, referral_answered, io_with, io_answered}
use Rattle.walk_steps.specs.steps.Held.{caches_of}
use Rattle.walk_steps.specs.question_request.Questions.{rest_fits}
use Rattle.walk_form.specs.held.Walks.{has_tried, in_form}
use Rattle.walk_form.specs.declared.held.Walk.{Walk}
use Rattle.walk_form.specs.held.Walks.{core_in}
use Rattle.walk_calls.specs.calls.Calls.{refused_answer, rest_in, referral_event, io_event, answers, answer_call, referral_call, io_call}
use Rattle.walk_calls.specs.call_end.Closing.{Verdict}
use Rattle.walk_calls.specs.declared.call_end.Refusal.TheVariants.{NotInOrder, OutOfForm, ShortBuffer}
use Rattle.theorems.specs.keeps.Failures.{Unchanged, FailuresKeep}
use Rattle.theorems.proofs.keeps.CalledLaws.{picked}

-- the turn of an answer that fails
module _ (c : Caches) (w : Core) (status clock : ℕ) (reply : List ℕ) where
  referral_turn_lem : (q : Question) → leb 2 (severity status) ≡ true → (referral_answered c w q status reply clock).caches ≡ c
  unfolding referral_answered
  referral_turn_lem q s =
      picked (λ (t : Turn). t.caches ≡ c) (is_in_use c w q) _ _
      (λ u. picked (λ (t : Turn). t.caches ≡ c) (leb 2 (severity status)) _ _ (λ h. refl) (λ h. absurd (not_both s h)))
      (λ u. refl)

  io_with_lem : (q : Question) (e : Option Referral) → eqb (severity status) 3 ≡ true → (io_with c w q status e).caches ≡ c
  unfolding io_with
  io_with_lem q None s = refl
  io_with_lem q (Some e) s =
      picked (λ (t : Turn). t.caches ≡ c) (eqb (severity status) 3) _ _ (λ h. refl) (λ h. absurd (not_both s h))

  io_turn_lem : (q : Question) → eqb (severity status) 3 ≡ true → (io_answered c w q status).caches ≡ c
  unfolding io_answered
  io_turn_lem q s = picked (λ (t : Turn). t.caches ≡ c) (is_in_use c w q) _ _ (λ u. io_with_lem q (referral_in_use c w q) s) (λ u. refl)

  some_one : {t u : Turn} → Some t ≡ Some u → u.caches ≡ t.caches
  some_one {t} {u} e = let z : u ≡ t = cc in ap (λ (x : Turn). x.caches) z

  none_some : {t : Turn} → None ≡ Some t → ⊥
  none_some e = let z : ◌≡◌ {A = ℕ} 0 1 = cc in omega arith

  referral_event_lem : (r : Rest) → leb 2 (severity status) ≡ true → (t : Turn) → referral_event c w r status reply clock ≡ Some t → t.caches ≡ c
  unfolding referral_event
  referral_event_lem (ended e f tried) s t h = absurd (none_some h)
  referral_event_lem (waits q) s t h = go (told (has_tried q.kind))
    where
      go : (has_tried q.kind ≡ true) ⊎ (has_tried q.kind ≡ false) → t.caches ≡ c
      go (inl k) = absurd (none_some (sym (choose_yes None (Some (referral_answered c w q status reply clock)) k) ∙ h))
      go (inr k) = some_one (sym (choose_no None (Some (referral_answered c w q status reply clock)) k) ∙ h) ∙ referral_turn_lem q s

  io_event_lem : (r : Rest) → eqb (severity status) 3 ≡ true → (t : Turn) → io_event c w r status ≡ Some t → t.caches ≡ c
  unfolding io_event
  io_event_lem (ended e f tried) s t h = absurd (none_some h)
  io_event_lem (waits q) s t h = go (told (has_tried q.kind))
    where
      go : (has_tried q.kind ≡ true) ⊎ (has_tried q.kind ≡ false) → t.caches ≡ c
      go (inl k) = some_one (sym (choose_yes (Some (io_answered c w q status)) None k) ∙ h) ∙ io_turn_lem q s
      go (inr k) = absurd (none_some (sym (choose_no (Some (io_answered c w q status)) None k) ∙ h))

-- a call whose event leaves the caches
module _ (refs doms texts : List ℕ) (walk : Walk) (out : List ℕ) (clock : ℕ) where
  away : (v : Verdict) → Unchanged refs doms (refused_answer v walk texts out refs doms)
  away v = record { refs_stay = refl; doms_stay = refl }

  answers_stay : (event : Option Turn) → (in_order referrals refs && in_order domains doms) ≡ true → ((t : Turn) → event ≡ Some t → t.caches ≡ caches_of refs doms)
      → Unchanged refs doms (answers event clock walk texts out refs doms)
  unfolding answers caches_of
  answers_stay None o k = away (Err OutOfForm)
  answers_stay (Some t) o k =
      picked (Unchanged refs doms) (rest_fits (length out) (turned (walk.limit - walk.moves) clock t)) _ _
      (λ h. record {
        refs_stay = ap (λ (c : Caches). encode referrals c.referrals) (k t refl) ∙ encode_decode referrals refs (and_left _ _ o);
        doms_stay = ap (λ (c : Caches). encode domains c.domains) (k t refl) ∙ encode_decode domains doms (and_right (in_order referrals refs) _ o);
      })
      (λ h. away (Err ShortBuffer))

  answer_stays : (event : Option Turn) → ((t : Turn) → event ≡ Some t → t.caches ≡ caches_of refs doms) → Unchanged refs doms (answer_call event clock walk texts out refs doms)
  unfolding answer_call
  answer_stays event k =
      picked (Unchanged refs doms) (in_order referrals refs && in_order domains doms) _ _
      (λ o. picked (Unchanged refs doms) (in_form walk texts) _ _ (λ h. answers_stay event o k) (λ h. away (Err OutOfForm)))
      (λ o. away (Err NotInOrder))

pub failures_keep : FailuresKeep
unfolding referral_call io_call
failures_keep = record {
  answer_referral = λ refs doms texts walk status reply clock out s.
      answer_stays refs doms texts walk out clock (referral_event (caches_of refs doms) (core_in walk texts) (rest_in walk texts) status reply clock)
      (referral_event_lem (caches_of refs doms) (core_in walk texts) status clock reply (rest_in walk texts) s);
  answer_io = λ refs doms texts walk status clock out s.
      answer_stays refs doms texts walk out clock (io_event (caches_of refs doms) (core_in walk texts) (rest_in walk texts) status)
      (io_event_lem (caches_of refs doms) (core_in walk texts) status clock out (rest_in walk texts) s);
}
