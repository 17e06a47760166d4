-- What a call that is taken leaves stands: caches in order, a walk in form, and where it waits the entry that its question uses.
use mathlib.Core.Path.{◌≡◌, refl, sym, ap, ◌∙◌, subst}
use mathlib.Core.Bool.{true, false, ◌&&◌}
use mathlib.Core.List.{List}
use Prim.Native.Nat.{ℕ, ◌-◌, ◌≤◌}
use native.Mathlib.Omega.{arith}
use lib.ListN.{length}
use lib.Dec.{leb, eqb}
use borrow.Author.Tests.{leb-true}
use Rattle.std.specs.Prelude.{Err, Option, None, Some}
use Rattle.unc.specs.names.Names.{good_name}
use Rattle.unc.specs.names.Paths.{good_path, normalised, path_units}
use Rattle.cache.specs.order.Memory.{referrals, domains, encode, in_order}
use Rattle.walk_steps.specs.steps.Steps.{Caches, Core, Turn, Resting, turned, started, is_in_use}
use Rattle.walk_steps.specs.steps.Held.{caches_of, core_of}
use Rattle.walk_steps.specs.question_request.Questions.{rest_fits}
use Rattle.walk_form.specs.held.Walks.{good_limit, good_settings, boot_in, in_form, walk_of, texts_after}
use Rattle.walk_form.specs.declared.held.Walk.{Walk}
use Rattle.walk_form.specs.held.Walks.{core_in}
use Rattle.walk_calls.specs.call_end.Closing.{Left, refused, closes}
use Rattle.walk_calls.specs.calls.Calls.{refusal_number, start_rest, start_call, refused_answer, rest_in, referral_event, io_event, answers, answer_call, referral_call, io_call}
use Rattle.walk_calls.specs.call_end.Closing.{Verdict}
use Rattle.walk_calls.specs.declared.call_end.Refusal.TheVariants.{BadPath, LongPath, BadSettings, NotInOrder, OutOfForm, ShortBuffer}
use Rattle.theorems.specs.keeps.Code.{Proper}
use Rattle.theorems.specs.keeps.Stands.{Stands, StartStands, AnswerStands, CallsStand}
use Rattle.theorems.proofs.keeps.CalledLaws.{picked}
use Rattle.theorems.proofs.keeps.RestLaws.{GoodTurn, turned_proper}
use Rattle.theorems.proofs.keeps.EventLaws.{path_counted, started_proper, referral_good, io_good}
use Rattle.theorems.proofs.keeps.BackLaws.{caches_good, caches_order, caches_back, form_proper, core_back, rest_back, proper_form, settings_parts, form_settings}
use Rattle.theorems.proofs.keeps.UseLaws.{RestUses, turned_uses}
use Rattle.theorems.proofs.keeps.PutLaws.{TurnUses, started_rests, referral_uses, io_uses}

refused_stands : (refs doms : List ℕ) (v : Verdict) (walk : Walk) (texts out : List ℕ) → 1 ≤ refusal_number v → StartStands refs doms (refused v walk texts out)
unfolding StartStands
refused_stands refs doms v walk texts out h e = absurd (omega arith)

-- a call whose steps rest at x, over caches in order
module _ (refs doms : List ℕ) (order : (in_order referrals refs && in_order domains doms) ≡ true) (limit : ℕ) (boot : List ℕ) (l : good_limit limit ≡ true) (b : good_name boot ≡ true)
    (x : Resting) (p : Proper x.core x.rest) (u : RestUses (caches_of refs doms) x) where
  rest_stands : Stands refs doms (walk_of limit boot x) (texts_after boot x)
  unfolding RestUses
  rest_stands = record {
    order = order;
    form = proper_form limit boot x p l b;
    there = λ q h. ap (λ (w : Core). is_in_use (caches_of refs doms) w q) (core_back limit boot x p) ∙ u q (sym (rest_back limit boot x p) ∙ h);
  }

  closes_stands : (walk : Walk) (texts out : List ℕ) → StartStands refs doms (closes limit boot x walk texts out)
  unfolding closes StartStands refusal_number
  closes_stands walk texts out =
      picked (StartStands refs doms) (rest_fits (length out) x) _ _ (λ t e. rest_stands) (λ t. refused_stands refs doms (Err ShortBuffer) walk texts out (omega arith))

-- `start`
pub start_stands : (refs doms texts : List ℕ) (walk : Walk) (path boot : List ℕ) (limit size clock : ℕ) (out : List ℕ)
    → StartStands refs doms (start_call refs doms texts walk path boot limit size clock out)
unfolding start_call start_rest refusal_number
start_stands refs doms texts walk path boot limit size clock out =
    picked Fit (in_order referrals refs && in_order domains doms) _ _
    (λ o.
    picked Fit (good_path path) _ _
    (λ g.
    picked Fit (leb (length (normalised path)) path_units) _ _
    (λ l.
    picked Fit (good_settings limit size boot) _ _
    (λ s. picked Fit (eqb (length texts) 768) _ _ (λ t. rested o g l s) (λ t. refused_stands refs doms (Err OutOfForm) walk texts out (omega arith)))
    (λ s. refused_stands refs doms (Err BadSettings) walk texts out (omega arith)))
    (λ l. refused_stands refs doms (Err LongPath) walk texts out (omega arith)))
    (λ g. refused_stands refs doms (Err BadPath) walk texts out (omega arith)))
    (λ o. refused_stands refs doms (Err NotInOrder) walk texts out (omega arith))
  where
    Fit : Left → Type 0
    Fit x = StartStands refs doms x

    rested : (in_order referrals refs && in_order domains doms) ≡ true → good_path path ≡ true → leb (length (normalised path)) path_units ≡ true → good_settings limit size boot ≡ true
        → StartStands refs doms (closes limit boot (turned limit clock (started (caches_of refs doms) (core_of (normalised path) size false) clock)) walk texts out)
    rested o g l s =
        let k = settings_parts limit size boot s in
        closes_stands refs doms o limit boot k.0 k.1.1 (turned limit clock (started (caches_of refs doms) (core_of (normalised path) size false) clock))
        (started_proper (caches_of refs doms) (caches_good refs doms o) (core_of (normalised path) size false) k.1.0 (path_counted path g (leb-true (length (normalised path)) 256 l)) limit clock)
        (started_rests (caches_of refs doms) (core_of (normalised path) size false) (caches_good refs doms o) limit clock) walk texts out

-- an event that is good, and puts a question whose entry in use is there
record Puts (t : Turn) : Type 0 where
  good : GoodTurn t
  uses : TurnUses t

module _ (refs doms texts : List ℕ) (walk : Walk) (out : List ℕ) where
  turned_away : (v : Verdict) → 1 ≤ refusal_number v → AnswerStands (refused_answer v walk texts out refs doms)
  unfolding AnswerStands
  turned_away v h e = absurd (omega arith)

  module _ (clock : ℕ) (formed : in_form walk texts ≡ true) where
    turn_stands : (t : Turn) → Puts t
        → StartStands (encode referrals t.caches.referrals) (encode domains t.caches.domains)
        (closes walk.limit (boot_in walk texts) (turned (walk.limit - walk.moves) clock t) walk texts out)
    unfolding TurnUses
    turn_stands t k =
        let s = form_settings walk texts formed in
        let x : Resting = turned (walk.limit - walk.moves) clock t in
        closes_stands _ _ (caches_order t.caches k.good.caches) walk.limit (boot_in walk texts) s.0 s.1 x
        (turned_proper (walk.limit - walk.moves) clock t k.good)
        (subst (λ (c : Caches). RestUses c x) (sym (caches_back t.caches k.good.caches)) (turned_uses (walk.limit - walk.moves) clock t k.good.caches k.uses))
        walk texts out

    answers_stand : (event : Option Turn) → ((t : Turn) → event ≡ Some t → Puts t) → AnswerStands (answers event clock walk texts out refs doms)
    unfolding answers refusal_number AnswerStands StartStands
    answers_stand None k = turned_away (Err OutOfForm) (omega arith)
    answers_stand (Some t) k =
        picked AnswerStands (rest_fits (length out) (turned (walk.limit - walk.moves) clock t)) _ _ (λ h. turn_stands t (k t refl)) (λ h. turned_away (Err ShortBuffer) (omega arith))

  answer_stands : (event : Option Turn) (clock : ℕ) → ((in_order referrals refs && in_order domains doms) ≡ true → in_form walk texts ≡ true → (t : Turn) → event ≡ Some t → Puts t)
      → AnswerStands (answer_call event clock walk texts out refs doms)
  unfolding answer_call refusal_number
  answer_stands event clock k =
      picked AnswerStands (in_order referrals refs && in_order domains doms) _ _
      (λ o. picked AnswerStands (in_form walk texts) _ _ (λ h. answers_stand clock h event (k o h)) (λ h. turned_away (Err OutOfForm) (omega arith)))
      (λ o. turned_away (Err NotInOrder) (omega arith))

-- `answer_referral`
pub referral_stands : (refs doms texts : List ℕ) (walk : Walk) (status : ℕ) (reply : List ℕ) (clock : ℕ) (out : List ℕ)
    → AnswerStands (referral_call refs doms texts walk status reply clock out)
unfolding referral_call
referral_stands refs doms texts walk status reply clock out =
    answer_stands refs doms texts walk out (referral_event (caches_of refs doms) (core_in walk texts) (rest_in walk texts) status reply clock) clock
    (λ o f t e. record {
      good = referral_good (caches_of refs doms) (caches_good refs doms o) (core_in walk texts) (rest_in walk texts) (form_proper walk texts f) status reply clock t e;
      uses = referral_uses (caches_of refs doms) (caches_good refs doms o) (core_in walk texts) (rest_in walk texts) status reply clock t e;
    })

-- `answer_io`
pub io_stands : (refs doms texts : List ℕ) (walk : Walk) (status clock : ℕ) (out : List ℕ) → AnswerStands (io_call refs doms texts walk status clock out)
unfolding io_call
io_stands refs doms texts walk status clock out =
    answer_stands refs doms texts walk out (io_event (caches_of refs doms) (core_in walk texts) (rest_in walk texts) status) clock
    (λ o f t e. record {
      good = io_good (caches_of refs doms) (caches_good refs doms o) (core_in walk texts) (rest_in walk texts) (form_proper walk texts f) status t e;
      uses = io_uses (caches_of refs doms) (caches_good refs doms o) (core_in walk texts) (rest_in walk texts) (form_proper walk texts f) status t e;
    })

-- the laws of the three calls
pub calls_stand : CallsStand
calls_stand = record { start = start_stands; answer_referral = referral_stands; answer_io = io_stands }
