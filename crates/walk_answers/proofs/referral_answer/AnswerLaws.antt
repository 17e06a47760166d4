-- Laws of an answer: where the steps rest at a next move, what a call leaves, the entry in use, then the status, then the reply.
use mathlib.Core.Path.{◌≡◌, refl, sym, ap, ◌∙◌}
use mathlib.Core.Bool.{Bool, true, false, not}
use mathlib.Core.List.{List, []}
use mathlib.Core.Logic.{◌⊎◌, inl, inr}
use Prim.Native.Nat.{ℕ, ◌/◌, ◌≤◌, ◌<◌}
use native.Mathlib.Omega.{arith}
use lib.ListN.{length, take}
use borrow.Author.Tests.{le-leb, lt-leb, not-true, not-false}
use Rattle.laws.specs.Choice.{choose}
use Rattle.laws.proofs.Choices.{choose_yes, choose_no}
use Rattle.laws.proofs.Orders.{told, lt_or_le}
use Rattle.laws.proofs.Tests.{not_both}
use Rattle.cache.specs.order.Memory.{Kind, referrals, domains, decode, encode, in_order}
use Rattle.cache.proofs.order.MemoryLaws.{encode_decode}
use Rattle.cache.proofs.order.KindLaws.{prefix_short}
use Rattle.walk_steps.specs.walk_texts.Code.{Standing}
use Rattle.walk_steps.specs.steps.Steps.{Caches, Core, Called, ends, Turn, goes, turned, with_hit, referral_fails, referral_succeeds, referral_answered, severity, is_in_use}
use Rattle.walk_steps.specs.steps.Held.{caches_of, core_of, asking_of, question_of}
use Rattle.walk_steps.specs.steps.Code.{core_at, rested_at, called_of}
use Rattle.walk_steps.specs.declared.steps.Kind.{Kind as Kinds}
use Rattle.walk_steps.specs.declared.steps.End.TheVariants as end
use Rattle.walk_steps.specs.declared.steps.Next.{Next}
use Rattle.walk_steps.specs.declared.steps.Next.TheVariants.{Asks, Ends}
use Rattle.walk_steps.specs.declared.steps.Asking.{Asking}
use Rattle.walk_steps.specs.declared.steps.Progress.{Progress}
use Rattle.walk_steps.specs.declared.steps.Rested.{Rested}
use Rattle.walk_steps.proofs.steps.StepLaws.{asked_as}
use Rattle.walk_steps.specs.cycle.Code.{rested_with, packed}
use Rattle.walk_steps.proofs.cycle.MoveLaws.{standing_path, packed_end, packed_asked, goes_asks, goes_stops}
use Rattle.walk_steps.specs.question_request.Questions.{name_fits, rest_fits}
use Rattle.walk_steps.specs.question_request.Code.{next_units, named}
use Rattle.walk_steps.proofs.rounds.RoundLaws.{in_use_same}
use Rattle.walk_store.specs.declared.reply_taken.Taken.{Taken}
use Rattle.walk_store.specs.declared.reply_taken.Taken.TheVariants as taken
use Rattle.walk_store.specs.party_hint.Code.{Lent, lent_caches}
use Rattle.walk_store.specs.reply_taken.Code.{taken_turn, put_back, CanPutBack, TakenIn}
use Rattle.walk_store.specs.after_reply.Code.{GoingOn, left_by, leaves}
use Rattle.walk_store.proofs.after_reply.RestLaws.{kept_goes, rest_path, rest_tested, always_fits}
use Rattle.walk_answers.specs.referral_answer.Code.{Awaiting, Succeeding}

-- the rest at a next move is where the steps rest that call for it
pub rest_called : (rooms : List ℕ) (g : Progress) → Standing g.len rooms → (next : Next) (c : Caches) {r : Rested} → r ≡ rested_at next g.len g.left g.hit
    → rested_with r rooms ≡ packed (goes g.left c g.clock (core_at g rooms) (called_of next))
unfolding rested_at called_of asking_of question_of
rest_called rooms g s (Asks q) c e =
    packed_asked g.len rooms s g.left g.size g.hit (question_of q []) refl
    (asked_as g.left (core_at g rooms) (question_of q []) q e refl (sym (standing_path g.len rooms s)) refl)
    ∙ ap packed (sym (goes_asks g.left c g.clock (core_at g rooms) (question_of q [])))
rest_called rooms g s (Ends e status) c h =
    packed_end g.len rooms s e status g.left g.size g.hit h
    ∙ ap packed (sym (goes_stops g.left c g.clock (core_at g rooms) e status []))

-- a cache that a turn does not change
unchanged : {E : Type 0} (k : Kind E) (b : Bool) (raw : List ℕ) → in_order k raw ≡ true → raw ≡ choose b (encode k (decode k raw)) raw
unchanged k b raw order = go (told b)
  where
    go : (b ≡ true) ⊎ (b ≡ false) → raw ≡ choose b (encode k (decode k raw)) raw
    go (inl t) = sym (encode_decode k raw order) ∙ sym (choose_yes _ _ t)
    go (inr t) = sym (choose_no _ _ t)

-- nothing is stored
pub still_left : (g : Progress) (refs doms : List ℕ) → in_order referrals refs ≡ true → in_order domains doms ≡ true → (w : Core) (a : Called) {t : Turn}
    → record { caches = caches_of refs doms; core = w; called = a } ≡ t → {r : Rested} {rooms : List ℕ}
    → rested_with r rooms ≡ packed (goes g.left (caches_of refs doms) g.clock w a) → left_by r rooms refs doms ≡ leaves g refs doms t
unfolding leaves turned caches_of
still_left g refs doms o p w a h e =
    (λ j.
    record {
      rest = e j;
      refs = unchanged referrals (rest_fits g.room (goes g.left (caches_of refs doms) g.clock w a)) refs o j;
      doms = unchanged domains (rest_fits g.room (goes g.left (caches_of refs doms) g.clock w a)) doms p j;
    })
    ∙ ap (leaves g refs doms) h

-- the entry in use, then the status
module _ (refs doms rooms : List ℕ) (g : Progress) (q : Asking) (a : Awaiting refs doms rooms g q) (status : ℕ) (reply : List ℕ) {b : Bool}
    (e : b ≡ is_in_use (caches_of refs doms) (core_of (take g.len rooms) 0 true) (question_of q [])) where
  use_is : {x : Bool} → b ≡ x → (size : ℕ) (hit : Bool) → is_in_use (caches_of refs doms) (core_of (take g.len rooms) size hit) (question_of q []) ≡ x
  use_is h size hit = in_use_same (caches_of refs doms) (take g.len rooms) size 0 hit true q [] [] ∙ (sym e ∙ h)

  abbrev turn : Turn
  turn = referral_answered (caches_of refs doms) (core_at g rooms) (question_of q []) status reply g.clock

  pub gone_left : not b ≡ true → {r : Rested} → r ≡ rested_at (Ends end.Gone 0) g.len g.left g.hit → left_by r rooms refs doms ≡ leaves g refs doms turn
  unfolding referral_answered called_of
  gone_left h k =
      still_left g refs doms a.refs_order a.doms_order (core_at g rooms) (ends end.Gone 0) (sym (choose_no _ _ (use_is (not-true b h) g.size g.hit)))
      (rest_called rooms g a.standing (Ends end.Gone 0) (caches_of refs doms) k)

  module _ (h : not b ≡ false) where
    pub fails_left : 2 ≤ status / 1073741824 → (next : Next) {r : Rested} → called_of next ≡ referral_fails (caches_of refs doms) (core_at g rooms) (question_of q []) status
        → r ≡ rested_at next g.len g.left g.hit → left_by r rooms refs doms ≡ leaves g refs doms turn
    unfolding referral_answered severity
    fails_left l next n k =
        still_left g refs doms a.refs_order a.doms_order (core_at g rooms) (called_of next)
        ((λ j. record { caches = caches_of refs doms; core = core_at g rooms; called = n j })
        ∙ sym (choose_yes _ _ (use_is (not-false b h) g.size g.hit) ∙ choose_yes _ _ (le-leb 2 (status / 1073741824) l)))
        (rest_called rooms g a.standing next (caches_of refs doms) k)

    pub succeeding : Succeeding refs doms rooms g q
    succeeding = record {
      standing = a.standing;
      in_use = record {
        refs_order = a.refs_order;
        doms_order = a.doms_order;
        good = a.good;
        inside = omega (arith, a.inside, standing_path g.len rooms a.standing);
        used = use_is (not-false b h);
      };
    }

    pub succeeds_left : status / 1073741824 < 2 → {r : Rested} {o m n : List ℕ}
        → left_by r o m n ≡ leaves g refs doms (referral_succeeds (caches_of refs doms) (core_at g rooms) (question_of q []) reply g.clock) → left_by r o m n ≡ leaves g refs doms turn
    unfolding referral_answered severity
    succeeds_left l k =
        k
        ∙ ap (leaves g refs doms) (sym (choose_yes _ _ (use_is (not-false b h) g.size g.hit) ∙ choose_no _ _ (lt-leb 2 (status / 1073741824) l)))

-- what was taken keeps the path, and has the caches that were left
taken_path : (w : Core) (k : Kinds) (t : Taken) (refs doms : List ℕ) → (taken_turn w k t refs doms).core.path ≡ w.path
unfolding taken_turn with_hit
taken_path w k (taken.Ends e status) refs doms = refl
taken_path w k (taken.Dcs i) refs doms = refl
taken_path w k (taken.Entry i h) refs doms = refl

taken_caches : (w : Core) (k : Kinds) (t : Taken) (refs doms : List ℕ) → (taken_turn w k t refs doms).caches ≡ caches_of refs doms
unfolding taken_turn
taken_caches w k (taken.Ends e status) refs doms = refl
taken_caches w k (taken.Dcs i) refs doms = refl
taken_caches w k (taken.Entry i h) refs doms = refl

-- a reply that was taken
module _ (refs doms rooms : List ℕ) (g : Progress) (q : Asking) (s : Succeeding refs doms rooms g q) (reply : List ℕ) (units : ℕ) (wide : g.room < 516 → units ≡ 2336)
    {t : Taken} {after more then : List ℕ} (e : taken_turn (core_at g rooms) q.kind t more then ≡ referral_succeeds (caches_of refs doms) (core_at g rooms) (question_of q []) reply g.clock)
    (back : units ≡ 2336 → put_back t after more then ≡ lent_caches refs doms) (i : TakenIn units t after (take g.len rooms) more then) where
  pub going_on_lem : GoingOn more rooms g t
  going_on_lem = record { ready = record { order = i.refs_order; standing = s.standing; good = s.in_use.good }; usable = i.usable }

  module _ {r : Rested} {o : List ℕ} (k : rested_with r o ≡ packed (turned g.left g.clock (taken_turn (core_at g rooms) q.kind t more then))) where
    abbrev made : Turn
    made = taken_turn (core_at g rooms) q.kind t more then

    short : length made.core.path ≤ 256
    short = omega (arith, ap length (taken_path (core_at g rooms) q.kind t more then), prefix_short _ s.in_use.good)

    rest_short : length (turned g.left g.clock made).core.path ≤ 256
    unfolding turned
    rest_short = (kept_goes g.left made.caches g.clock made.core made.called short).path_kept

    pub taken_fits : r.path ≤ 256
    unfolding turned
    taken_fits = rest_path _ r o k g.left made.core (kept_goes g.left made.caches g.clock made.core made.called short)

    abbrev turned_to : Turn
    turned_to = referral_succeeds (caches_of refs doms) (core_at g rooms) (question_of q []) reply g.clock

    caches_are : caches_of more then ≡ turned_to.caches
    caches_are = sym (taken_caches (core_at g rooms) q.kind t more then) ∙ ap (λ (x : Turn). x.caches) e

    module _ {b : Bool} (f : b ≡ name_fits g.room (named (next_units r.next (take r.path o)) (take r.path o))) where
      tested : b ≡ rest_fits g.room (turned g.left g.clock turned_to)
      tested = rest_tested _ r o k g.room f ∙ ap (λ (x : Turn). rest_fits g.room (turned g.left g.clock x)) e

      pub kept_left : b ≡ true → left_by r o more then ≡ leaves g refs doms turned_to
      unfolding leaves caches_of
      kept_left h =
          λ j.
          record {
            rest = (k ∙ ap (λ (x : Turn). packed (turned g.left g.clock x)) e) j;
            refs =
                (sym (encode_decode referrals more i.refs_order)
                ∙ (ap (λ (c : Caches). encode referrals c.referrals) caches_are ∙ sym (choose_yes _ refs (sym tested ∙ h)))) j;
            doms =
                (sym (encode_decode domains then i.doms_order) ∙ (ap (λ (c : Caches). encode domains c.domains) caches_are ∙ sym (choose_yes _ doms (sym tested ∙ h)))) j;
          }

      -- with a buffer that holds every request
      pub wide_left : 516 ≤ g.room → left_by r o more then ≡ leaves g refs doms turned_to
      wide_left l = kept_left (rest_tested _ r o k g.room f ∙ always_fits g.room _ l rest_short)

      module _ (h : b ≡ false) where
        narrow : g.room < 516
        narrow = go (lt_or_le g.room 516)
          where
            go : (g.room < 516) ⊎ (516 ≤ g.room) → g.room < 516
            go (inl l) = l
            go (inr l) = absurd (not_both (always_fits g.room _ l rest_short) (sym (rest_tested _ r o k g.room f) ∙ h))

        pub can_put : CanPutBack t after more then
        can_put = i.able (wide narrow)

        pub put_left : {m n : List ℕ} → lent_caches m n ≡ put_back t after more then → left_by r o m n ≡ leaves g refs doms turned_to
        unfolding leaves
        put_left p =
            λ j.
            record {
              rest = (k ∙ ap (λ (x : Turn). packed (turned g.left g.clock x)) e) j;
              refs = (ap (λ (l : Lent). l.refs) (p ∙ back (wide narrow)) ∙ sym (choose_no (encode referrals turned_to.caches.referrals) refs (sym tested ∙ h))) j;
              doms = (ap (λ (l : Lent). l.doms) (p ∙ back (wide narrow)) ∙ sym (choose_no (encode domains turned_to.caches.domains) doms (sym tested ∙ h))) j;
            }
