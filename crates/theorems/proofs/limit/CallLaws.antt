-- A start and an answer, with a limit, against what they come to for the unlimited walk.
use mathlib.Core.Path.{◌≡◌, refl, sym, ap, ◌∙◌, subst}
use mathlib.Core.Bool.{Bool, true, false, ◌&&◌}
use mathlib.Core.List.{List}
use mathlib.Core.Logic.{◌⊎◌, inl, inr}
use Prim.Native.Nat.{ℕ, ◌-◌, ◌≤◌}
use native.Mathlib.Omega.{arith}
use lib.ListN.{length}
use lib.Dec.{leb, eqb}
use Rattle.std.specs.Prelude.{Ok, Err, Option, None, Some}
use Rattle.laws.specs.Choice.{choose}
use Rattle.laws.proofs.Choices.{choose_yes, choose_no, and_left, and_right, and_yes_left}
use Rattle.laws.proofs.Orders.{told}
use Rattle.laws.proofs.Tests.{not_both}
use Rattle.unc.specs.names.Names.{good_name}
use Rattle.unc.specs.names.Paths.{good_path, normalised, path_units, component_count}
use Rattle.cache.specs.order.Memory.{referrals, domains, encode, in_order}
use Rattle.cache.proofs.order.MemoryLaws.{encode_decode}
use Rattle.cache_store.specs.domain_cache.Domains.{good_size}
use Rattle.walk_steps.specs.steps.Steps.{Caches, Core, Turn, Resting, ends, started, from_step2, turned}
use Rattle.walk_steps.specs.steps.Held.{caches_of, core_of}
use Rattle.walk_steps.specs.declared.steps.End.TheVariants.{NotDfs}
use Rattle.walk_steps.specs.question_request.Questions.{rest_fits, out_after}
use Rattle.walk_form.specs.held.Walks.{good_limit, good_settings, in_form, boot_in, walk_of, texts_after}
use Rattle.walk_form.specs.declared.held.Walk.{Walk}
use Rattle.walk_form.specs.held.Walks.{core_in}
use Rattle.walk_calls.specs.call_end.Closing.{Left, refused, closes}
use Rattle.walk_calls.specs.calls.Calls.{Answered, start_rest, start_call, answers, answer_call, referral_call, io_call, rest_in}
use Rattle.walk_calls.specs.call_end.Closing.{Verdict}
use Rattle.walk_calls.specs.declared.call_end.Refusal.TheVariants.{BadPath, LongPath, BadSettings, NotInOrder, OutOfForm, ShortBuffer}
use Rattle.theorems.specs.limit.Unlimited.{Opening, opens, refuses, rests_at}
use Rattle.theorems.specs.limit.Calls.{Held, Start, Answer, referral, io, start, run, after_answer, answer_clock, answer_out, observed, start_opening, event_of, event_opening, answer_opening}
use Rattle.theorems.proofs.limit.Classify.{Fine, Closed, Followed, CutOff, classified, turned_away}

-- what is read back from the walk that a rest leaves
pub record Back (l : ℕ) (boot : List ℕ) (x : Resting) : Type 0 where
  pub core : core_in (walk_of l boot x) (texts_after boot x) ≡ x.core
  pub rest : rest_in (walk_of l boot x) (texts_after boot x) ≡ x.rest
  pub boot_is : boot_in (walk_of l boot x) (texts_after boot x) ≡ boot
  pub form : in_form (walk_of l boot x) (texts_after boot x) ≡ true

abbrev pub Either : ℕ → ℕ → List ℕ → List ℕ → ℕ → Answered → Opening → Type 0
Either l clock boot out n o p = Followed l clock boot out n o p ⊎ CutOff l clock boot out n o p

-- a call that is closed at a rest
module _ (l : ℕ) (boot out : List ℕ) (t : Turn) (x : Resting) (b : Back l boot x) (walk : Walk) (texts refs doms : List ℕ)
    (er : refs ≡ encode referrals t.caches.referrals) (ed : doms ≡ encode domains t.caches.domains) where
  abbrev result : Answered
  result = record { left = closes l boot x walk texts out; refs = refs; doms = doms }

  abbrev good : Answered
  good = record {
    left = record { verdict = (Ok tt); walk = walk_of l boot x; texts = texts_after boot x; out = out_after x out };
    refs = refs;
    doms = doms;
  }

  result_good : rest_fits (length out) x ≡ true → result ≡ good
  unfolding closes
  result_good h = ap (λ (y : Left). record { left = y; refs = refs; doms = doms }) (choose_yes _ _ h)

  result_shut : rest_fits (length out) x ≡ false → result.left ≡ refused (Err ShortBuffer) walk texts out
  unfolding closes
  result_shut h = choose_no _ _ h

  good_seen : observed good ≡ rests_at t.caches x.core x.rest (l - x.left)
  unfolding observed rests_at walk_of
  good_seen = λ j. record { core = b.core j; rest = b.rest j; count = l - x.left; refs = er j; doms = ed j }

  good_fine : Fine l boot good
  unfolding walk_of
  good_fine = record { form = b.form; limit = refl; boot_is = b.boot_is; few = omega arith }

  pub closed_result : Closed l boot out t x result
  unfolding out_after
  closed_result = record {
    fits = λ h. ap (λ (o : Answered). o.left.verdict) (result_good h);
    sees = λ h. ap observed (result_good h) ∙ good_seen;
    writes = λ h. ap (λ (o : Answered). o.left.out) (result_good h);
    fine = λ h. subst (Fine l boot) (sym (result_good h)) good_fine;
    shut = λ h. ap (λ (y : Left). y.verdict) (result_shut h);
  }

through : {l : ℕ} {boot out : List ℕ} {t : Turn} {x : Resting} {a b : Answered} → (rest_fits (length out) x ≡ true → b ≡ a)
    → (rest_fits (length out) x ≡ false → b.left.verdict ≡ Err ShortBuffer) → Closed l boot out t x a → Closed l boot out t x b
through {l} {boot} y n c = record {
  fits = λ h. ap (λ (o : Answered). o.left.verdict) (y h) ∙ c.fits h;
  sees = λ h. ap observed (y h) ∙ c.sees h;
  writes = λ h. ap (λ (o : Answered). o.left.out) (y h) ∙ c.writes h;
  fine = λ h. subst (Fine l boot) (sym (y h)) (c.fine h);
  shut = n;
}

-- an answer
called : (o : Answered) (a : Answer)
    → after_answer o a ≡ answer_call (event_of (observed o) a) (answer_clock a) o.left.walk o.left.texts (answer_out a) o.refs o.doms
unfolding after_answer event_of answer_clock answer_out observed referral_call io_call
called o (referral status reply clock out) = refl
called o (io status clock out) = refl

-- what is known of the rest after an answer
abbrev pub BackAfter : Answered → Answer → Type 0
BackAfter o a =
    (t : Turn) → (in_order referrals o.refs && in_order domains o.doms) ≡ true → in_form o.left.walk o.left.texts ≡ true → event_of (observed o) a ≡ Some t
    → Back o.left.walk.limit (boot_in o.left.walk o.left.texts) (turned (o.left.walk.limit - o.left.walk.moves) (answer_clock a) t)

-- a number that the tests before the steps give
abbrev early : Verdict → Bool
early (Ok tt) = false
early (Err BadPath) = true
early (Err LongPath) = true
early (Err BadSettings) = true
early (Err NotInOrder) = true
early (Err OutOfForm) = true
early (Err ShortBuffer) = false

early_not : {v w : Verdict} → early v ≡ true → early w ≡ false → v ≡ w → ⊥
early_not e f g = not_both (sym (ap early g) ∙ e) f

pub turned_early : (l clock : ℕ) (boot out : List ℕ) (n : ℕ) (o : Answered) (v : Verdict) → o.left.verdict ≡ v → early v ≡ true → Followed l clock boot out n o (refuses v)
turned_early l clock boot out n o v e h = turned_away l clock boot out n o v e (early_not h refl) (early_not h refl)

module _ (o : Answered) (a : Answer) (form : in_form o.left.walk o.left.texts ≡ true) (few : o.left.walk.moves ≤ o.left.walk.limit) (back : BackAfter o a) where
  abbrev walk : Walk
  walk = o.left.walk

  abbrev texts : List ℕ
  texts = o.left.texts

  abbrev This : Opening → Type 0
  This p = Either walk.limit (answer_clock a) (boot_in walk texts) (answer_out a) walk.moves (after_answer o a) p

  in_order_lem : (in_order referrals o.refs && in_order domains o.doms) ≡ true
      → after_answer o a ≡ answers (event_of (observed o) a) (answer_clock a) walk texts (answer_out a) o.refs o.doms
  unfolding answer_call
  in_order_lem h = called o a ∙ (choose_yes _ _ h ∙ choose_yes _ _ form)

  opening_order : (in_order referrals o.refs && in_order domains o.doms) ≡ true → answer_opening (observed o) a ≡ event_opening (event_of (observed o) a)
  unfolding answer_opening observed
  opening_order h = choose_yes _ _ h

  answer_no_order : (in_order referrals o.refs && in_order domains o.doms) ≡ false → This (answer_opening (observed o) a)
  unfolding answer_opening observed answer_call
  answer_no_order h =
      let v : (after_answer o a).left.verdict ≡ Err NotInOrder = ap (λ (x : Answered). x.left.verdict) (called o a ∙ choose_no _ _ h) in
      subst This (sym (choose_no (event_opening (event_of (observed o) a)) (refuses (Err NotInOrder)) h)) (inl (turned_early _ _ _ _ _ _ (Err NotInOrder) v refl))

  answer_none : (in_order referrals o.refs && in_order domains o.doms) ≡ true → event_of (observed o) a ≡ None → This (answer_opening (observed o) a)
  unfolding event_opening answers
  answer_none h e =
      let v : (after_answer o a).left.verdict ≡ Err OutOfForm =
      ap (λ (x : Answered). x.left.verdict) (in_order_lem h ∙ ap (λ (y : Option Turn). answers y (answer_clock a) walk texts (answer_out a) o.refs o.doms) e) in
      subst This (sym (opening_order h ∙ ap event_opening e)) (inl (turned_early _ _ _ _ _ _ (Err OutOfForm) v refl))

  answer_some : (in_order referrals o.refs && in_order domains o.doms) ≡ true → (t : Turn) → event_of (observed o) a ≡ Some t → This (answer_opening (observed o) a)
  unfolding event_opening answers
  answer_some h t e =
      let v : after_answer o a ≡ answers (Some t) (answer_clock a) walk texts (answer_out a) o.refs o.doms =
      in_order_lem h ∙ ap (λ (y : Option Turn). answers y (answer_clock a) walk texts (answer_out a) o.refs o.doms) e in
      subst This (sym (opening_order h ∙ ap event_opening e))
      (classified walk.limit (answer_clock a) (boot_in walk texts) (answer_out a) walk.moves few t (after_answer o a)
      (through (λ f. v ∙ choose_yes _ _ f) (λ f. ap (λ (x : Answered). x.left.verdict) (v ∙ choose_no _ _ f))
      (closed_result walk.limit (boot_in walk texts) (answer_out a) t (turned (walk.limit - walk.moves) (answer_clock a) t) (back t h form e) walk texts
      (encode referrals t.caches.referrals) (encode domains t.caches.domains) refl refl)))

  pub answer_either : This (answer_opening (observed o) a)
  answer_either = go (told (in_order referrals o.refs && in_order domains o.doms)) (event_of (observed o) a) refl
    where
      go : ((in_order referrals o.refs && in_order domains o.doms) ≡ true) ⊎ ((in_order referrals o.refs && in_order domains o.doms) ≡ false)
          → (e : Option Turn) → event_of (observed o) a ≡ e → This (answer_opening (observed o) a)
      go (inr h) e f = answer_no_order h
      go (inl h) None f = answer_none h f
      go (inl h) (Some t) f = answer_some h t f

-- a start
pub started_caches : (c : Caches) (w : Core) (clock : ℕ) → (started c w clock).caches ≡ c
unfolding started from_step2
started_caches c w clock = go (told (eqb (component_count w.path) 1))
  where
    go : (eqb (component_count w.path) 1 ≡ true) ⊎ (eqb (component_count w.path) 1 ≡ false)
        → (choose (eqb (component_count w.path) 1) (record { caches = c; core = w; called = ends NotDfs 0 }) (from_step2 c w clock)).caches ≡ c
    go (inl h) = ap (λ (t : Turn). t.caches) (choose_yes _ (from_step2 c w clock) h)
    go (inr h) = ap (λ (t : Turn). t.caches) (choose_no (record { caches = c; core = w; called = ends NotDfs 0 }) (from_step2 c w clock) h)

-- the tests of a start
pub record Accepted (h : Held) (s : Start) : Type 0 where
  pub order : (in_order referrals h.refs && in_order domains h.doms) ≡ true
  pub path : good_path s.path ≡ true
  pub short : leb (length (normalised s.path)) path_units ≡ true
  pub settings : (good_size s.size && good_name s.boot) ≡ true
  pub texts : eqb (length h.texts) 768 ≡ true

abbrev pub start_turn : Held → Start → Turn
start_turn h s = started (caches_of h.refs h.doms) (core_of (normalised s.path) s.size false) s.clock

abbrev pub BackStart : ℕ → Held → Start → Type 0
BackStart l h s = Accepted h s → Back l s.boot (turned l s.clock (start_turn h s))

module _ (l : ℕ) (h : Held) (s : Start) (limit : good_limit l ≡ true) (back : BackStart l h s) where
  abbrev That : Opening → Type 0
  That p = Either l s.clock s.boot s.out 0 (run l h s start) p

  -- the number that refuses a start
  away : (v : Verdict) → start_opening h s ≡ refuses v
      → start_call h.refs h.doms h.texts h.walk s.path s.boot l s.size s.clock s.out ≡ refused v h.walk h.texts s.out
      → early v ≡ true → That (start_opening h s)
  unfolding run
  away v e f n = subst That (sym e) (inl (turned_early _ _ _ _ _ _ v (ap (λ (x : Left). x.verdict) f) n))

  module _ (a : Accepted h s) where
    abbrev turn : Turn
    turn = start_turn h s

    settled : good_settings l s.size s.boot ≡ true
    unfolding good_settings
    settled = and_yes_left _ limit ∙ a.settings

    opened : start_opening h s ≡ opens turn
    unfolding start_opening
    opened = choose_yes _ _ a.order ∙ (choose_yes _ _ a.path ∙ (choose_yes _ _ a.short ∙ (choose_yes _ _ a.settings ∙ choose_yes _ _ a.texts)))

    goes_on : run l h s start ≡ record { left = closes l s.boot (turned l s.clock turn) h.walk h.texts s.out; refs = h.refs; doms = h.doms }
    unfolding run start_call start_rest
    goes_on =
        ap (λ (x : Left). record { left = x; refs = h.refs; doms = h.doms })
        (choose_yes _ _ a.order ∙ (choose_yes _ _ a.path ∙ (choose_yes _ _ a.short ∙ (choose_yes _ _ settled ∙ choose_yes _ _ a.texts))))

    refs_kept : h.refs ≡ encode referrals turn.caches.referrals
    unfolding caches_of
    refs_kept =
        sym (ap (λ (c : Caches). encode referrals c.referrals) (started_caches (caches_of h.refs h.doms) (core_of (normalised s.path) s.size false) s.clock)
        ∙ encode_decode referrals h.refs (and_left _ _ a.order))

    doms_kept : h.doms ≡ encode domains turn.caches.domains
    unfolding caches_of
    doms_kept =
        sym (ap (λ (c : Caches). encode domains c.domains) (started_caches (caches_of h.refs h.doms) (core_of (normalised s.path) s.size false) s.clock)
        ∙ encode_decode domains h.doms (and_right (in_order referrals h.refs) _ a.order))

    start_closed : Closed l s.boot s.out turn (turned l s.clock turn) (run l h s start)
    start_closed =
        subst (λ (o : Answered). Closed l s.boot s.out turn (turned l s.clock turn) o) (sym goes_on)
        (closed_result l s.boot s.out turn (turned l s.clock turn) (back a) h.walk h.texts h.refs h.doms refs_kept doms_kept)

    start_taken : That (start_opening h s)
    start_taken =
        let z : l ≡ l - 0 = omega arith in
        subst That (sym opened)
        (classified l s.clock s.boot s.out 0 (omega arith) turn (run l h s start)
        (subst (λ (k : ℕ). Closed l s.boot s.out turn (turned k s.clock turn) (run l h s start)) z start_closed))

  abbrev Told : Bool → Type 0
  Told t = (t ≡ true) ⊎ (t ≡ false)

  pub start_either : That (start_opening h s)
  unfolding start_opening start_call good_settings
  start_either =
      go (told (in_order referrals h.refs && in_order domains h.doms)) (told (good_path s.path)) (told (leb (length (normalised s.path)) path_units))
      (told (good_size s.size && good_name s.boot)) (told (eqb (length h.texts) 768))
    where
      go : Told (in_order referrals h.refs && in_order domains h.doms) → Told (good_path s.path) → Told (leb (length (normalised s.path)) path_units)
          → Told (good_size s.size && good_name s.boot) → Told (eqb (length h.texts) 768) → That (start_opening h s)
      go (inr a) p q r t = away (Err NotInOrder) (choose_no _ _ a) (choose_no _ _ a) refl
      go (inl a) (inr p) q r t =
          away (Err BadPath) (choose_yes _ _ a ∙ choose_no _ _ p) (choose_yes _ _ a ∙ choose_no _ _ p) refl
      go (inl a) (inl p) (inr q) r t =
          away (Err LongPath) (choose_yes _ _ a ∙ (choose_yes _ _ p ∙ choose_no _ _ q)) (choose_yes _ _ a ∙ (choose_yes _ _ p ∙ choose_no _ _ q))
          refl
      go (inl a) (inl p) (inl q) (inr r) t =
          away (Err BadSettings) (choose_yes _ _ a ∙ (choose_yes _ _ p ∙ (choose_yes _ _ q ∙ choose_no _ _ r)))
          (choose_yes _ _ a ∙ (choose_yes _ _ p ∙ (choose_yes _ _ q ∙ choose_no _ _ (and_yes_left _ limit ∙ r))))
          refl
      go (inl a) (inl p) (inl q) (inl r) (inr t) =
          away (Err OutOfForm) (choose_yes _ _ a ∙ (choose_yes _ _ p ∙ (choose_yes _ _ q ∙ (choose_yes _ _ r ∙ choose_no _ _ t))))
          (choose_yes _ _ a ∙ (choose_yes _ _ p ∙ (choose_yes _ _ q ∙ (choose_yes _ _ (and_yes_left _ limit ∙ r) ∙ choose_no _ _ t))))
          refl
      go (inl a) (inl p) (inl q) (inl r) (inl t) = start_taken (record { order = a; path = p; short = q; settings = r; texts = t })
