-- Laws of the answer to an I/O try.
use Rattle.std.specs.Prelude.{Some, Option, None}
use mathlib.Core.Path.{◌≡◌, refl, sym, ap, ◌∙◌, subst}
use mathlib.Core.Bool.{Bool, true, false}
use mathlib.Core.List.{List, []}
use mathlib.Core.Logic.{◌⊎◌, inl, inr}
use Prim.Native.Nat.{ℕ, ◌+◌, ◌-◌, ◌/◌, ◌≤◌, ◌<◌}
use native.Mathlib.Omega.{arith}
use lib.ListN.{length, take, drop, replicate, length-drop}
use lib.Seq.{length-take-le, take-take}
use lib.Dec.{leb, ltb}
use borrow.Author.Tests.{eq-eqb, ne_eqb, leb-false, ltb-true}
use Rattle.laws.specs.Choice.{choose}
use Rattle.laws.specs.Lists.{pasted, roomed}
use Rattle.laws.proofs.Choices.{choose_yes, choose_no, and_left}
use Rattle.laws.proofs.Orders.{told}
use Rattle.unc.specs.names.Paths.{matches}
use Rattle.walk_steps.specs.walk_texts.Texts.{texts_of}
use Rattle.walk_steps.specs.walk_texts.Code.{Standing}
use Rattle.walk_steps.proofs.walk_texts.TextLaws.{path_in_lem, tried_put}
use Rattle.cache.specs.places.Layout.{place_count}
use Rattle.cache.specs.order.Entries.{Referral}
use Rattle.cache.specs.order.Order.{good_referral}
use Rattle.cache.specs.order.Memory.{referrals, domains, decode, encode, in_order}
use Rattle.cache.proofs.order.MemoryLaws.{encode_decode}
use Rattle.cache.proofs.order.KindLaws.{referrals_lawful, referral_told}
use Rattle.cache_lookup.specs.Lookup.{with_key, target_hinted}
use Rattle.cache_lookup.specs.Code.{entry_at}
use Rattle.cache_lookup.proofs.LookupLaws.{KeyAt, key_found}
use Rattle.cache_lookup.proofs.StoreLaws.{entry_good}
use Rattle.cache_store.specs.entry_after_reply.Stored.{prefixed}
use Rattle.walk_steps.specs.steps.Steps.{Caches, Core, Called, stops, ends, asks, Turn, ended, rests, goes, turned, is_in_use, referral_in_use, hint_set, target_hint_set, with_referrals, next_place, onward, step8, severity, is_one_of, next_target_statuses, path_not_covered, io_fails, io_with, io_answered}
use Rattle.walk_steps.specs.steps.Held.{caches_of, core_of, next_of, tried_of, question_of}
use Rattle.walk_steps.specs.steps.Code.{core_at, rested_of, rested_at, called_of}
use Rattle.walk_steps.specs.declared.steps.Kind.{Kind}
use Rattle.walk_steps.specs.declared.steps.Kind.TheVariants.{Io}
use Rattle.walk_steps.specs.declared.steps.End.TheVariants.{Done, Failed, Gone}
use Rattle.walk_steps.specs.declared.steps.Next.{Next}
use Rattle.walk_steps.specs.declared.steps.Next.TheVariants.{Ends}
use Rattle.walk_steps.specs.declared.steps.Asking.{Asking}
use Rattle.walk_steps.specs.declared.steps.Progress.{Progress}
use Rattle.walk_steps.specs.declared.steps.Rested.{Rested}
use Rattle.walk_steps.proofs.steps.HeldLaws.{key_held, key_fits, used_is}
use Rattle.walk_steps.specs.cycle.Code.{Packed, rested_with, packed, Usable}
use Rattle.walk_steps.proofs.cycle.MoveLaws.{matches_same, goes_stops}
use Rattle.walk_steps.specs.question_request.Questions.{request_name, name_fits, rest_fits}
use Rattle.walk_steps.specs.rounds.Code.{targets_under, in_round}
use Rattle.walk_steps.proofs.rounds.RoundLaws.{round_past, targets_gone, targets_held, in_use_same, in_use_io}
use Rattle.walk_steps.proofs.rounds.FailLaws.{onward_end, onward_next}
use Rattle.walk_store.specs.after_reply.Code.{left_by, leaves}
use Rattle.walk_answers.proofs.referral_answer.AnswerLaws.{rest_called, still_left}
use Rattle.walk_answers.specs.declared.io_answer.Failure.{Failure}
use Rattle.walk_answers.specs.declared.io_answer.Failure.TheVariants.{Calls, Tries}
use Rattle.walk_answers.specs.io_answer.Code.{tried_room, Trying, Failing, with_parties, place_in_use, not_covered, next_target, failure_calls}

-- what that place tells
record InUse (prefix raw : List ℕ) (party began i : ℕ) : Type 0 where
  found : with_key referrals prefix (decode referrals raw) ≡ Some i
  round : in_round (length (entry_at referrals i raw).targets) party began ≡ true

module _ (prefix raw : List ℕ) (party began : ℕ) where
  use_told : (i : ℕ) → place_in_use prefix raw party began ≡ Some i → InUse prefix raw party began i
  unfolding place_in_use with_parties
  use_told i k = go (with_key referrals prefix (decode referrals raw)) refl k
    where
      go : (f : Option ℕ) → with_key referrals prefix (decode referrals raw) ≡ f → with_parties raw party began f ≡ Some i → InUse prefix raw party began i
      go None h k = absurd (let z : ◌≡◌ {A = ℕ} 0 1 = cc in omega arith)
      go (Some j) h k = at (told (in_round (length (entry_at referrals j raw).targets) party began))
        where
          at : (in_round (length (entry_at referrals j raw).targets) party began ≡ true) ⊎ (in_round (length (entry_at referrals j raw).targets) party began ≡ false) → InUse prefix raw party began i
          at (inl t) =
              let z : j ≡ i = cc (choose_yes (Some j) None t) in
              subst (InUse prefix raw party began) z (record { found = h; round = t })
          at (inr t) = absurd (let z : ◌≡◌ {A = ℕ} 0 1 = cc (choose_no (Some j) None t) in omega arith)

  gone_told : place_in_use prefix raw party began ≡ None → in_round (targets_under prefix raw) party began ≡ false
  unfolding place_in_use with_parties
  gone_told k = go (with_key referrals prefix (decode referrals raw)) refl k
    where
      go : (f : Option ℕ) → with_key referrals prefix (decode referrals raw) ≡ f → with_parties raw party began f ≡ None → in_round (targets_under prefix raw) party began ≡ false
      go None h k = sym (round_past _ party began (let z : 0 ≡ targets_under prefix raw = targets_gone prefix raw refl h in omega arith))
      go (Some j) h k = at (told (in_round (length (entry_at referrals j raw).targets) party began))
        where
          at : (in_round (length (entry_at referrals j raw).targets) party began ≡ true) ⊎ (in_round (length (entry_at referrals j raw).targets) party began ≡ false)
              → in_round (targets_under prefix raw) party began ≡ false
          at (inl t) = absurd (let z : ◌≡◌ {A = ℕ} 0 1 = cc (choose_yes (Some j) None t) in omega arith)
          at (inr t) = ap (λ (n : ℕ). in_round n party began) (sym (targets_held prefix raw refl j h refl)) ∙ t

-- the entry in use
module _ {prefix refs : List ℕ} {party began i : ℕ} (u : InUse prefix refs party began i) where
  use_fits : i < place_count refs
  use_fits = key_fits referrals prefix refs i u.found

  use_party : party < length (entry_at referrals i refs).targets
  unfolding in_round
  use_party = ltb-true _ _ (and_left (ltb party _) _ u.round)

  use_usable : (path : List ℕ) → in_order referrals refs ≡ true → matches prefix path ≡ true → Usable refs path i
  use_usable path order m =
      let k : KeyAt referrals prefix (decode referrals refs) i = key_found referrals prefix (decode referrals refs) i u.found in
      let e : entry_at referrals i refs ≡ k.entry = used_is referrals refs i k.entry k.here in
      record {
        fits = use_fits;
        good = ap good_referral e ∙ entry_good referrals referrals_lawful refs i order use_fits k.entry k.here;
        matched = ap (λ (x : Referral). matches x.prefix path) e ∙ matches_same k.entry.prefix prefix path k.same m;
      }

-- the answer, by the place of the entry in use and the severity
module _ (refs doms path : List ℕ) (size : ℕ) (hit : Bool) (q : Asking) (tried : List ℕ) (status : ℕ) (io : q.kind ≡ Io) where
  use_is : is_in_use (caches_of refs doms) (core_of path size hit) (question_of q tried) ≡ in_round (targets_under (take q.entry path) refs) q.party q.began
  use_is =
      in_use_same (caches_of refs doms) path size 0 hit true q tried []
      ∙ sym (in_use_io refs doms path q {r = in_round (targets_under (take q.entry path) refs) q.party q.began} refl io refl)

  answered_gone : place_in_use (take q.entry path) refs q.party q.began ≡ None
      → io_answered (caches_of refs doms) (core_of path size hit) (question_of q tried) status
      ≡ record { caches = caches_of refs doms; core = core_of path size hit; called = ends Gone 0 }
  unfolding io_answered
  answered_gone h = choose_no _ _ (use_is ∙ gone_told _ refs _ _ h)

  module _ (i : ℕ) (u : InUse (take q.entry path) refs q.party q.began i) where
    used : is_in_use (caches_of refs doms) (core_of path size hit) (question_of q tried) ≡ true
    used =
        use_is
        ∙ (ap (λ (n : ℕ). in_round n q.party q.began) (sym (targets_held (take q.entry path) refs refl i u.found refl)) ∙ u.round)

    held : referral_in_use (caches_of refs doms) (core_of path size hit) (question_of q tried) ≡ Some (entry_at referrals i refs)
    unfolding referral_in_use question_of caches_of prefixed
    held = key_held referrals (take q.entry path) refs i u.found

    answered_with : io_answered (caches_of refs doms) (core_of path size hit) (question_of q tried) status
        ≡ io_with (caches_of refs doms) (core_of path size hit) (question_of q tried) status (Some (entry_at referrals i refs))
    unfolding io_answered
    answered_with = choose_yes _ _ used ∙ ap (io_with (caches_of refs doms) (core_of path size hit) (question_of q tried) status) held

    answered_fails : severity status ≡ 3
        → io_answered (caches_of refs doms) (core_of path size hit) (question_of q tried) status
        ≡ record { caches = caches_of refs doms; core = core_of path size hit; called = io_fails (core_of path size hit) (question_of q []) status (entry_at referrals i refs) }
    unfolding io_with io_fails question_of onward
    answered_fails h = answered_with ∙ choose_yes _ _ (eq-eqb _ 3 h)

    hinting : Kind → Caches
    hinting k =
        hint_set (caches_of refs doms) (core_of path size hit)
        (record { kind = k; entry = q.entry; party = q.party; began = q.began; size = q.size; tried = tried; uncovered = q.uncovered })

    hint_kinded : hint_set (caches_of refs doms) (core_of path size hit) (question_of q tried) ≡ hinting Io
    unfolding question_of hinting
    hint_kinded = ap hinting io

    hint_io : hinting Io ≡ record { referrals = target_hinted i q.party (decode referrals refs); domains = decode domains doms }
    unfolding hinting hint_set target_hint_set with_referrals caches_of
    hint_io = rw u.found refl

    answered_done : (severity status ≡ 3 → ⊥)
        → io_answered (caches_of refs doms) (core_of path size hit) (question_of q tried) status
        ≡ record {
          caches = record { referrals = target_hinted i q.party (decode referrals refs); domains = decode domains doms };
          core = core_of path size hit;
          called = stops Done status tried;
        }
    unfolding io_with question_of
    answered_done h =
        answered_with
        ∙ (choose_no _ _ (ne_eqb _ 3 h)
        ∙ (λ j. record { caches = (hint_kinded ∙ hint_io) j; core = core_of path size hit; called = stops Done status tried }))

blank_room : (n : ℕ) → replicate n 0 ≡ roomed n []
unfolding roomed
blank_room n = let z : n ≡ n - 0 = omega arith in ap (λ (m : ℕ). replicate m 0) z

-- the rooms of a walk that waits for an I/O answer
module _ {refs doms rooms : List ℕ} {g : Progress} {q : Asking} {tried : ℕ} (k : Trying refs doms rooms g q tried) where
  path_units_lem : length (take g.len rooms) ≡ g.len
  path_units_lem = length-take-le g.len rooms (omega (arith, k.few, k.long))

  tried_units : length (tried_room tried rooms) ≡ tried
  unfolding tried_room
  tried_units = length-take-le tried (drop 256 rooms) (omega (arith, k.tried_few, k.long, length-drop 256 rooms))

  -- the prefix of the question
  pub entry_units : q.entry ≡ length (take q.entry rooms)
  entry_units = sym (length-take-le q.entry rooms (omega (arith, k.inside, k.few, k.long)))

  prefix_taken : take q.entry rooms ≡ take q.entry (take g.len rooms)
  prefix_taken = sym (take-take q.entry g.len rooms k.inside)

  -- the path tried is taken away
  module _ {o : List ℕ} (e : o ≡ pasted rooms 256 (replicate 256 0)) where
    cleared : o ≡ texts_of (take g.len rooms) []
    cleared =
        e
        ∙ ((λ j. pasted (k.stands j) 256 (blank_room 256 j))
        ∙ tried_put (take g.len rooms) (tried_room tried rooms) [] (omega (arith, path_units_lem, k.few)) (omega (arith, tried_units, k.tried_few)) (omega arith))

    cleared_path : take g.len o ≡ take g.len rooms
    cleared_path = (λ j. take (sym path_units_lem j) (cleared j)) ∙ path_in_lem (take g.len rooms) []

    cleared_standing : Standing g.len o
    cleared_standing = record { few = k.few; stands = cleared ∙ ap (λ (l : List ℕ). texts_of l []) (sym cleared_path) }

  abbrev turn : ℕ → Turn
  turn status = io_answered (caches_of refs doms) (core_at g rooms) (question_of q (tried_room tried rooms)) status

  module _ {f : Option ℕ} (e : f ≡ place_in_use (take q.entry rooms) refs q.party q.began) where
    place_is : {x : Option ℕ} → f ≡ x → place_in_use (take q.entry (take g.len rooms)) refs q.party q.began ≡ x
    place_is h = ap (λ (p : List ℕ). place_in_use p refs q.party q.began) (sym prefix_taken) ∙ (sym e ∙ h)

    -- the entry is gone
    pub gone_left : (status : ℕ) → f ≡ None → {o : List ℕ} {r : Rested} → o ≡ pasted rooms 256 (replicate 256 0) → r ≡ rested_at (Ends Gone 0) g.len g.left g.hit
        → left_by r o refs doms ≡ leaves g refs doms (turn status)
    unfolding called_of
    gone_left status h {o} d x =
        still_left g refs doms k.order k.doms_order (core_at g rooms) (ends Gone 0)
        (sym (answered_gone refs doms (take g.len rooms) g.size g.hit q (tried_room tried rooms) status k.waits_io (place_is h)))
        (rest_called o g (cleared_standing d) (Ends Gone 0) (caches_of refs doms) x
        ∙ (λ j. packed (goes g.left (caches_of refs doms) g.clock (core_of (cleared_path d j) g.size g.hit) (ends Gone 0))))

    module _ (i : ℕ) (h : f ≡ Some i) where
      in_use : InUse (take q.entry (take g.len rooms)) refs q.party q.began i
      in_use = use_told _ refs _ _ i (place_is h)

      pub done_fits : i < place_count refs
      done_fits = use_fits in_use

      pub done_party : q.party < length (entry_at referrals i refs).targets
      done_party = use_party in_use

      pub failing : {o : List ℕ} → o ≡ pasted rooms 256 (replicate 256 0) → Failing refs o g.len i
      failing d = record {
        standing = cleared_standing d;
        usable = subst (λ (p : List ℕ). Usable refs p i) (sym (cleared_path d)) (use_usable in_use (take g.len rooms) k.order k.matched);
      }

      -- the try is done
      module _ (status : ℕ) (x : status / 1073741824 ≡ 3 → ⊥) where
        abbrev done : Turn
        done = record {
          caches = record { referrals = target_hinted i q.party (decode referrals refs); domains = decode domains doms };
          core = core_at g rooms;
          called = stops Done status (tried_room tried rooms);
        }

        done_turn : done ≡ turn status
        unfolding severity
        done_turn = sym (answered_done refs doms (take g.len rooms) g.size g.hit q (tried_room tried rooms) status k.waits_io i in_use x)

        done_rests : turned g.left g.clock done ≡ rests (core_at g rooms) g.left (ended Done status (tried_room tried rooms))
        unfolding turned
        done_rests = goes_stops g.left _ g.clock (core_at g rooms) Done status (tried_room tried rooms)

        done_fit : rest_fits g.room (turned g.left g.clock done) ≡ true
        unfolding rest_fits rests request_name name_fits
        done_fit = ap (rest_fits g.room) done_rests

        pub done_left : {m : List ℕ} → m ≡ encode referrals (target_hinted i q.party (decode referrals refs))
            → left_by (record { next = Ends Done status; path = g.len; tried = tried; left = g.left; hit = g.hit }) rooms m doms ≡ leaves g refs doms (turn status)
        unfolding leaves packed rests rested_of next_of tried_of
        done_left d =
            (λ j.
            record {
              rest =
                  ((λ n.
                  record {
                    rested = record { next = Ends Done status; path = sym path_units_lem n; tried = sym tried_units n; left = g.left; hit = g.hit };
                    texts = k.stands n;
                  })
                  ∙ ap packed (sym done_rests)) j;
              refs = (d ∙ sym (choose_yes _ refs done_fit)) j;
              doms = (sym (encode_decode domains doms k.doms_order) ∙ sym (choose_yes _ doms done_fit)) j;
            })
            ∙ ap (leaves g refs doms) done_turn

      -- the try failed
      pub fails_left : (status : ℕ) → status / 1073741824 ≡ 3 → {o p : List ℕ} {r : Rested} → o ≡ pasted rooms 256 (replicate 256 0)
          → ((c : Caches) (tries : List ℕ) → rested_with r p ≡ packed (goes g.left c g.clock (core_at g o) (io_fails (core_at g o) (question_of q tries) status (entry_at referrals i refs))))
          → left_by r p refs doms ≡ leaves g refs doms (turn status)
      unfolding severity
      fails_left status x d y =
          still_left g refs doms k.order k.doms_order (core_at g rooms) (io_fails (core_at g rooms) (question_of q []) status (entry_at referrals i refs))
          (sym (answered_fails refs doms (take g.len rooms) g.size g.hit q (tried_room tried rooms) status k.waits_io i in_use x))
          (y (caches_of refs doms) []
          ∙ (λ j.
          packed
          (goes g.left (caches_of refs doms) g.clock (core_of (cleared_path d j) g.size g.hit)
          (io_fails (core_of (cleared_path d j) g.size g.hit) (question_of q []) status (entry_at referrals i refs)))))

-- the place after is one of the round
next_below : (n place : ℕ) → 0 < n → next_place n place < n
unfolding next_place
next_below n place h = go (told (leb n (place + 1)))
  where
    go : (leb n (place + 1) ≡ true) ⊎ (leb n (place + 1) ≡ false) → choose (leb n (place + 1)) 0 (place + 1) < n
    go (inl t) = rw (choose_yes 0 (place + 1) t) h
    go (inr t) = rw (choose_no 0 (place + 1) t) (leb-false n (place + 1) t)

failure_number : Failure → ℕ
failure_number (Calls next) = 0
failure_number (Tries place) = 1

target_in : Failure → ℕ
target_in (Calls next) = 0
target_in (Tries place) = place

pub no_try : (n : ℕ) (next : Next) (place : ℕ) → Calls next ≡ Tries place → place < n
unfolding failure_number
no_try n next place h = absurd (let z : ◌≡◌ {A = ℕ} 0 1 = ap failure_number h in omega arith)

-- the next target
module _ (q : Asking) (status : ℕ) (e : Referral) {m next : ℕ} (h : next ≡ next_place m q.party) (c : m ≡ length e.targets) where
  pub next_end : next ≡ q.began → (w : Core) (tried : List ℕ) → failure_calls w e q.began (Calls (Ends Failed status)) ≡ next_target w (question_of q tried) status e
  unfolding next_target failure_calls called_of question_of
  next_end x w tried = onward_end (question_of q tried) h c (λ place. step8 w e place q.began) (ends Failed status) x

  pub next_try : (next ≡ q.began → ⊥) → (w : Core) (tried : List ℕ) → failure_calls w e q.began (Tries next) ≡ next_target w (question_of q tried) status e
  unfolding next_target failure_calls question_of
  next_try x w tried = onward_next (question_of q tried) h c (λ place. step8 w e place q.began) (ends Failed status) x

  pub next_inside : good_referral e ≡ true → (place : ℕ) → Tries next ≡ Tries place → place < length e.targets
  unfolding target_in
  next_inside g place x =
      let s : 1 ≤ length e.targets = (referral_told e g).some in
      let z : next_place m q.party < m = next_below m q.party (omega arith) in
      let y : next ≡ place = ap target_in x in
      omega arith

-- by the status
module _ (q : Asking) (g : Progress) (status : ℕ) (e : Referral) where
  pub fails_covered : status ≡ path_not_covered → (next : Next) → ((path tried : List ℕ) → called_of next ≡ not_covered (core_of path g.size g.hit) (question_of q tried) status e)
      → (path tried : List ℕ) → failure_calls (core_of path g.size g.hit) e q.began (Calls next) ≡ io_fails (core_of path g.size g.hit) (question_of q tried) status e
  unfolding io_fails not_covered failure_calls
  fails_covered h next f path tried = f path tried ∙ sym (choose_yes _ _ (eq-eqb status path_not_covered h))

  module _ (h : status ≡ path_not_covered → ⊥) {t : Bool} (n : t ≡ is_one_of status next_target_statuses) where
    pub fails_on : t ≡ true → (r : Failure) → ((w : Core) (tried : List ℕ) → failure_calls w e q.began r ≡ next_target w (question_of q tried) status e)
        → (path tried : List ℕ) → failure_calls (core_of path g.size g.hit) e q.began r ≡ io_fails (core_of path g.size g.hit) (question_of q tried) status e
    unfolding io_fails next_target
    fails_on k r f path tried =
        f (core_of path g.size g.hit) tried ∙ sym (choose_no _ _ (ne_eqb status path_not_covered h) ∙ choose_yes _ _ (sym n ∙ k))

    pub fails_end : t ≡ false → (path tried : List ℕ)
        → failure_calls (core_of path g.size g.hit) e q.began (Calls (Ends Failed status)) ≡ io_fails (core_of path g.size g.hit) (question_of q tried) status e
    unfolding io_fails failure_calls called_of
    fails_end k path tried = sym (choose_no _ _ (ne_eqb status path_not_covered h) ∙ choose_no _ _ (sym n ∙ k))

-- where the steps rest after a failed try
module _ (rooms : List ℕ) (g : Progress) (q : Asking) (status : ℕ) (e : Referral) {f : Failure}
    (x : (path tried : List ℕ) → failure_calls (core_of path g.size g.hit) e q.began f ≡ io_fails (core_of path g.size g.hit) (question_of q tried) status e) where
  pub called_rests : Standing g.len rooms → (next : Next) → f ≡ Calls next → {r : Rested} → r ≡ rested_at next g.len g.left g.hit → (c : Caches) (tried : List ℕ)
      → rested_with r rooms ≡ packed (goes g.left c g.clock (core_at g rooms) (io_fails (core_at g rooms) (question_of q tried) status e))
  unfolding failure_calls
  called_rests s next h k c tried =
      rest_called rooms g s next c k
      ∙ ap (λ (a : Called). packed (goes g.left c g.clock (core_at g rooms) a))
      (ap (failure_calls (core_at g rooms) e q.began) (sym h) ∙ x (take g.len rooms) tried)

  pub tried_rests : (place : ℕ) → f ≡ Tries place → {y : Packed}
      → ((c : Caches) → y ≡ packed (goes g.left c g.clock (core_at g rooms) (asks (step8 (core_at g rooms) e place q.began)))) → (c : Caches) (tried : List ℕ)
      → y ≡ packed (goes g.left c g.clock (core_at g rooms) (io_fails (core_at g rooms) (question_of q tried) status e))
  unfolding failure_calls
  tried_rests place h k c tried =
      k c
      ∙ ap (λ (a : Called). packed (goes g.left c g.clock (core_at g rooms) a))
      (ap (failure_calls (core_at g rooms) e q.began) (sym h) ∙ x (take g.len rooms) tried)
