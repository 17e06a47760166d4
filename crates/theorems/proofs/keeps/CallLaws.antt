-- What the calls keep.
use mathlib.Core.Path.{subst, ◌≡◌, refl, sym, ap, ◌∙◌}
use mathlib.Core.Bool.{Bool, true, false, ◌&&◌}
use mathlib.Core.List.{List}
use Prim.Native.Nat.{ℕ, ◌-◌, ◌≤◌}
use native.Mathlib.Omega.{arith}
use lib.ListN.{length}
use lib.Dec.{leb, eqb}
use borrow.Author.Tests.{leb-true}
use Rattle.std.specs.Prelude.{Ok, Err, Option, None, Some}
use Rattle.laws.proofs.Choices.{choose_yes}
use Rattle.unc.specs.names.Names.{good_name}
use Rattle.unc.specs.names.Paths.{good_path, normalised, path_units}
use Rattle.cache.specs.order.Memory.{referrals, domains, in_order}
use Rattle.walk_steps.specs.steps.Steps.{Caches, Core, Rest, Turn, Resting, turned, started}
use Rattle.walk_steps.specs.steps.Held.{caches_of, core_of}
use Rattle.walk_steps.specs.question_request.Questions.{rest_fits}
use Rattle.walk_form.specs.held.Walks.{good_limit, good_settings, boot_in, in_form}
use Rattle.walk_form.specs.declared.held.Walk.{Walk}
use Rattle.walk_form.specs.held.Walks.{core_in}
use Rattle.walk_calls.specs.call_end.Closing.{Left, refused, closes}
use Rattle.walk_calls.specs.calls.Calls.{refusal_number, start_rest, start_call, refused_answer, rest_in, referral_event, io_event, answers, answer_call, referral_call, io_call}
use Rattle.walk_calls.specs.call_end.Closing.{Verdict}
use Rattle.walk_calls.specs.declared.call_end.Refusal.TheVariants.{BadPath, LongPath, BadSettings, NotInOrder, OutOfForm, ShortBuffer}
use Rattle.theorems.specs.keeps.Code.{Proper}
use Rattle.theorems.specs.keeps.Keeps.{StartKeeps, AnswerKeeps, CallsKeep}
use Rattle.theorems.specs.keeps.Named.{referral_names, io_names, domain_names, Elsewhere}
use Rattle.theorems.proofs.keeps.NamedLaws.{same_elsewhere}
use Rattle.theorems.proofs.keeps.RestLaws.{GoodTurn, turned_proper}
use Rattle.theorems.proofs.keeps.CalledLaws.{picked}
use Rattle.theorems.proofs.keeps.EventLaws.{path_counted, started_proper, referral_good, io_good, referral_elsewhere, io_elsewhere}
use Rattle.theorems.proofs.keeps.BackLaws.{caches_good, caches_order, caches_back, form_proper, proper_form, settings_parts, form_settings}

-- a verdict with a refusal's number is not "taken"
refusal : (v : Verdict) → 1 ≤ refusal_number v → v ≡ Ok tt → ⊥
unfolding refusal_number
refusal v h e = let z : refusal_number v ≡ 0 = ap refusal_number e in omega arith

module _ (walk : Walk) (texts out : List ℕ) where
  -- a refused call
  pub refused_keeps : (v : Verdict) → 1 ≤ refusal_number v → StartKeeps walk texts out (refused v walk texts out)
  refused_keeps v h = record { keeps_form = λ e. absurd (refusal v h e); identity = λ e. refl }

  -- a call whose steps rest properly
  pub closes_keeps : (limit : ℕ) (boot : List ℕ) (x : Resting) → good_limit limit ≡ true → good_name boot ≡ true → Proper x.core x.rest
      → StartKeeps walk texts out (closes limit boot x walk texts out)
  unfolding closes refusal_number
  closes_keeps limit boot x l b p =
      picked (StartKeeps walk texts out) (rest_fits (length out) x) _ _
      (λ t. record { keeps_form = λ e. proper_form limit boot x p l b; identity = λ e. absurd (e refl) })
      (λ t. refused_keeps (Err ShortBuffer) (omega arith))

-- `start`
pub start_keeps : (refs doms texts : List ℕ) (walk : Walk) (path boot : List ℕ) (limit size clock : ℕ) (out : List ℕ)
    → StartKeeps walk texts out (start_call refs doms texts walk path boot limit size clock out)
unfolding start_call start_rest refusal_number
start_keeps refs doms texts walk path boot limit size clock out =
    picked Keeps (in_order referrals refs && in_order domains doms) _ _
    (λ o.
    picked Keeps (good_path path) _ _
    (λ g.
    picked Keeps (leb (length (normalised path)) path_units) _ _
    (λ l.
    picked Keeps (good_settings limit size boot) _ _
    (λ s. picked Keeps (eqb (length texts) 768) _ _ (λ t. rested o g l s) (λ t. refused_keeps walk texts out (Err OutOfForm) (omega arith)))
    (λ s. refused_keeps walk texts out (Err BadSettings) (omega arith)))
    (λ l. refused_keeps walk texts out (Err LongPath) (omega arith)))
    (λ g. refused_keeps walk texts out (Err BadPath) (omega arith)))
    (λ o. refused_keeps walk texts out (Err NotInOrder) (omega arith))
  where
    Keeps : Left → Type 0
    Keeps x = StartKeeps walk texts out x

    rested : (in_order referrals refs && in_order domains doms) ≡ true → good_path path ≡ true → leb (length (normalised path)) path_units ≡ true → good_settings limit size boot ≡ true
        → StartKeeps walk texts out (closes limit boot (turned limit clock (started (caches_of refs doms) (core_of (normalised path) size false) clock)) walk texts out)
    rested o g l s =
        let k = settings_parts limit size boot s in
        closes_keeps walk texts out limit boot (turned limit clock (started (caches_of refs doms) (core_of (normalised path) size false) clock)) k.0 k.1.1
        (started_proper (caches_of refs doms) (caches_good refs doms o) (core_of (normalised path) size false) k.1.0 (path_counted path g (leb-true (length (normalised path)) 256 l)) limit clock)

-- an answer
module _ (f g : ℕ → Bool) (refs doms texts : List ℕ) (walk : Walk) (out : List ℕ) where
  -- an event that is good, and changes no place but those that it names
  record Kept (t : Turn) : Type 0 where
    good : GoodTurn t
    elsewhere : Elsewhere f g (caches_of refs doms) t.caches

  turned_away : (v : Verdict) → 1 ≤ refusal_number v → AnswerKeeps f g walk texts out refs doms (refused_answer v walk texts out refs doms)
  turned_away v h = record { keeps_form = λ e. absurd (refusal v h e); identity = λ e. refl; order = refl; elsewhere = same_elsewhere f g (caches_of refs doms) }

  module _ (clock : ℕ) (o : (in_order referrals refs && in_order domains doms) ≡ true) (formed : in_form walk texts ≡ true) where
    closed : (t : Turn) → GoodTurn t → StartKeeps walk texts out (closes walk.limit (boot_in walk texts) (turned (walk.limit - walk.moves) clock t) walk texts out)
    closed t k =
        let s = form_settings walk texts formed in
        closes_keeps walk texts out walk.limit (boot_in walk texts) (turned (walk.limit - walk.moves) clock t) s.0 s.1 (turned_proper (walk.limit - walk.moves) clock t k)

    taken : (t : Turn) → rest_fits (length out) (turned (walk.limit - walk.moves) clock t) ≡ true
        → (closes walk.limit (boot_in walk texts) (turned (walk.limit - walk.moves) clock t) walk texts out).verdict ≡ Ok tt
    unfolding closes
    taken t h = ap (λ (x : Left). x.verdict) (choose_yes _ _ h)

    answers_keep : (event : Option Turn) → ((t : Turn) → event ≡ Some t → Kept t) → AnswerKeeps f g walk texts out refs doms (answers event clock walk texts out refs doms)
    unfolding answers refusal_number
    answers_keep None k = turned_away (Err OutOfForm) (omega arith)
    answers_keep (Some t) k =
        picked (AnswerKeeps f g walk texts out refs doms) (rest_fits (length out) (turned (walk.limit - walk.moves) clock t)) _ _
        (λ h. record {
          keeps_form = (closed t (k t refl).good).keeps_form;
          identity = λ e. absurd (e (taken t h));
          order = caches_order t.caches (k t refl).good.caches ∙ sym o;
          elsewhere = subst (Elsewhere f g (caches_of refs doms)) (sym (caches_back t.caches (k t refl).good.caches)) (k t refl).elsewhere;
        })
        (λ h. turned_away (Err ShortBuffer) (omega arith))

  answer_keeps : (event : Option Turn) (clock : ℕ)
      → ((in_order referrals refs && in_order domains doms) ≡ true → in_form walk texts ≡ true → (t : Turn) → event ≡ Some t → Kept t)
      → AnswerKeeps f g walk texts out refs doms (answer_call event clock walk texts out refs doms)
  unfolding answer_call refusal_number
  answer_keeps event clock k =
      picked (AnswerKeeps f g walk texts out refs doms) (in_order referrals refs && in_order domains doms) _ _
      (λ o.
      picked (AnswerKeeps f g walk texts out refs doms) (in_form walk texts) _ _ (λ h. answers_keep clock o h event (k o h))
      (λ h. turned_away (Err OutOfForm) (omega arith)))
      (λ o. turned_away (Err NotInOrder) (omega arith))

module _ (refs doms texts : List ℕ) (walk : Walk) where
  c : Caches
  c = caches_of refs doms

  w : Core
  w = core_in walk texts

  r : Rest
  r = rest_in walk texts

  -- `answer_referral`
  pub referral_keeps : (status : ℕ) (reply : List ℕ) (clock : ℕ) (out : List ℕ)
      → AnswerKeeps (referral_names (caches_of refs doms) (core_in walk texts) (rest_in walk texts) reply clock) (domain_names (caches_of refs doms) (core_in walk texts) (rest_in walk texts)) walk texts out refs doms
      (referral_call refs doms texts walk status reply clock out)
  unfolding referral_call c w r
  referral_keeps status reply clock out =
      answer_keeps (referral_names c w r reply clock) (domain_names c w r) refs doms texts walk out (referral_event c w r status reply clock) clock
      (λ o f t e. record {
        good = referral_good c (caches_good refs doms o) w r (form_proper walk texts f) status reply clock t e;
        elsewhere = referral_elsewhere c w r status reply clock t e;
      })

  -- `answer_io`
  pub io_keeps : (status clock : ℕ) (out : List ℕ)
      → AnswerKeeps (io_names (caches_of refs doms) (core_in walk texts) (rest_in walk texts)) (domain_names (caches_of refs doms) (core_in walk texts) (rest_in walk texts)) walk texts out refs doms
      (io_call refs doms texts walk status clock out)
  unfolding io_call c w r
  io_keeps status clock out =
      answer_keeps (io_names c w r) (domain_names c w r) refs doms texts walk out (io_event c w r status) clock
      (λ o f t e. record {
        good = io_good c (caches_good refs doms o) w r (form_proper walk texts f) status t e;
        elsewhere = io_elsewhere c w r status t e;
      })

-- the laws of the three calls
pub calls_keep : CallsKeep
calls_keep = record {
  start = start_keeps;
  answer_referral = λ refs doms texts walk. referral_keeps refs doms texts walk;
  answer_io = λ refs doms texts walk. io_keeps refs doms texts walk;
}
