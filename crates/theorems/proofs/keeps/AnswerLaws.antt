-- An answer to a proper rest, over caches in order, leaves caches in order and calls for what is in form.
use Rattle.std.specs.Prelude.{Option, None, Some}
use mathlib.Core.Path.{◌≡◌, refl, sym, ap, ◌∙◌, subst}
use mathlib.Core.Bool.{Bool, true, false, ◌&&◌, ◌||◌, true≢false}
use mathlib.Core.List.{List}
use mathlib.Core.Logic.{◌⊎◌, inl, inr}
use Prim.Native.Nat.{ℕ, ◌+◌, ◌*◌, ◌≤◌, ◌<◌, min}
use native.Mathlib.Omega.{arith}
use lib.ListN.{length, take}
use lib.Dec.{leb, ltb, eqb}
use borrow.Author.Tests.{le-leb, lt-leb}
use Rattle.laws.specs.Choice.{choose}
use Rattle.laws.proofs.Choices.{choose_yes, choose_no, and_left, and_right, and_both}
use Rattle.laws.proofs.Orders.{told, lt_or_le}
use Rattle.unc.specs.names.Paths.{matches}
use Rattle.unc.proofs.names.MatchLaws.{matches_refl}
use Rattle.cache.specs.order.Entries.{Referral}
use Rattle.cache.specs.order.Order.{good_referral}
use Rattle.cache.specs.order.Memory.{referrals}
use Rattle.cache.proofs.order.KindLaws.{referral_told}
use Rattle.cache_store.specs.domain_cache.Domains.{good_size}
use Rattle.cache_lookup.specs.Lookup.{with_key}
use Rattle.reply_read.specs.referral.Replies as replies
use Rattle.reply_read.specs.referral.Replies.{malformed, nothing, says, read_referral}
use Rattle.reply_read.proofs.referral.SaysLaws.{Sound, says_sound}
use Rattle.reply_read.specs.name_lists.NameLists.{read_dcs}
use Rattle.reply_read.proofs.name_lists.SaysLaws.{says_dcs}
use Rattle.cache_store.specs.entry_after_reply.Stored.{fresh, prefixed, is_interlink}
use Rattle.walk_steps.specs.steps.Steps.{Caches, Core, Question, Called, ends, Turn, waits, with_hit, with_referrals, name_asked, is_in_use, referral_in_use, next_place, onward, doubled, failed_host, failed, referral_fails, hint_set, empty_end, dcs_in, dc_answer, covers_nothing, stored_turn, referral_answer, referral_succeeds, referral_answered, io_fails, io_with, io_answered, severity, is_one_of, next_target_statuses, step6, step8, link_request}
use Rattle.reply_read.specs.referral.Request.{most_size}
use Rattle.walk_steps.specs.steps.Steps.{buffer_overflow, path_not_found, path_not_covered}
use Rattle.walk_steps.specs.steps.Held.{asking_of, next_of, tried_of}
use Rattle.walk_steps.specs.declared.steps.Kind.{Kind}
use Rattle.walk_steps.specs.declared.steps.Kind.TheVariants.{Dc, Root, Link, Sysvol, Io}
use Rattle.walk_steps.specs.declared.steps.End.TheVariants.{NoDc, Failed, Gone}
use Rattle.walk_steps.specs.declared.steps.Asking.{Asking}
use Rattle.walk_steps.proofs.cycle.MoveLaws.{matches_same}
use Rattle.walk_form.specs.held.Walks.{names_domain, names_prefix, no_party, one_party, asked_in_form, has_tried}
use Rattle.walk_form.proofs.held.FormLaws.{Waiting, waiting_told, request_size, io_named, io_count}
use Rattle.theorems.specs.keeps.Code.{GoodCaches, Proper}
use Rattle.theorems.proofs.keeps.PrefixLaws.{first_matches, matches_trans}
use Rattle.theorems.proofs.keeps.CacheLaws.{Equal, prefixed_or, reply_good, stored_well, stored_kept}
use Rattle.theorems.proofs.keeps.CalledLaws.{Asked, Well, chosen, well_gone, well_malformed, well_failed, well_no_dc, well_not_dfs, well_done, well_asks, asked_root, asked_link, asked_io, asked_step5, well_stored}
use Rattle.theorems.proofs.keeps.RestLaws.{GoodTurn}
use Rattle.theorems.proofs.keeps.HintLaws.{kind_to, hint_good, dcs_good}

-- the same question with another size
resized : (path : List ℕ) (a : Asking) (s : ℕ) (k : Kind) → has_tried k ≡ false → good_size s ≡ true → asked_in_form path a k ≡ true
    → asked_in_form path (record { kind = a.kind; entry = a.entry; party = a.party; began = a.began; size = s; uncovered = a.uncovered }) k ≡ true
unfolding asked_in_form names_domain names_prefix no_party one_party has_tried
resized path a s Dc n g h =
    let r = and_right (names_domain path a) _ h in
    and_both (and_left (names_domain path a) _ h) (and_both (and_left (no_party a) _ r) (and_both g (and_right (good_size a.size) _ (and_right (no_party a) _ r))))
resized path a s Root n g h =
    let o : Bool = (eqb a.entry 0 && no_party a) || names_domain path a in
    and_both (and_left o _ h) (and_both g (and_right (good_size a.size) _ (and_right o _ h)))
resized path a s Link n g h = and_both (and_left (names_prefix path a) _ h) g
resized path a s Sysvol n g h =
    let r = and_right (names_domain path a) _ h in
    and_both (and_left (names_domain path a) _ h) (and_both (and_left (one_party a) _ r) (and_both g (and_right (good_size a.size) _ (and_right (one_party a) _ r))))
resized path a s Io n g h = absurd (true≢false n)

-- the next party of a round
pub next_inside : (n place : ℕ) → 0 < n → next_place n place < n
unfolding next_place
next_inside n place h = go (lt_or_le (place + 1) n)
  where
    go : (place + 1 < n) ⊎ (n ≤ place + 1) → choose (leb n (place + 1)) 0 (place + 1) < n
    go (inl u) = subst (λ (m : ℕ). m < n) (sym (choose_no 0 (place + 1) (lt-leb n (place + 1) u))) u
    go (inr u) = subst (λ (m : ℕ). m < n) (sym (choose_yes 0 (place + 1) (le-leb n (place + 1) u))) h

onward_well : (path : List ℕ) (n : ℕ) (q : Question) (ask : ℕ → Question) (a : Called) → Asked path (ask (next_place n q.party)) → Well path a → Well path (onward n q ask a)
unfolding onward
onward_well path n q ask a f g = chosen (Well path) (eqb (next_place n q.party) q.began) _ _ g (well_asks path f)

-- an end for want of an entry
well_empty : (path : List ℕ) (k : Kind) → Well path (ends (empty_end k) path_not_found)
unfolding empty_end
well_empty path Dc = well_no_dc path path_not_found
well_empty path Root = well_failed path path_not_found
well_empty path Link = well_failed path path_not_found
well_empty path Sysvol = well_no_dc path path_not_found
well_empty path Io = well_failed path path_not_found

-- the name asked matches the path
pub asked_matches : (w : Core) (q : Question) → has_tried q.kind ≡ false → matches (name_asked w q) w.path ≡ true
unfolding name_asked has_tried
asked_matches w q n = go q.kind n
  where
    go : (k : Kind) → has_tried k ≡ false → matches (name_asked w (kind_to k q)) w.path ≡ true
    go Dc h = first_matches 1 w.path
    go Root h = first_matches 2 w.path
    go Link h = matches_refl w.path
    go Sysvol h = first_matches 2 w.path
    go Io h = absurd (true≢false h)

module _ (c : Caches) (cs : GoodCaches c) (w : Core) (q : Question) (p : Proper w (waits q)) where
  pub told_q : Waiting w.path q.tried (asking_of q)
  unfolding next_of tried_of
  told_q = waiting_told w.path q.tried (asking_of q) p.next

  -- the caches stay, and so does the path
  stay : {a : Called} → Well w.path a → GoodTurn (record { caches = c; core = w; called = a })
  stay h = record { caches = cs; path = told_q.good; size = p.size; called = h }

  form : asked_in_form w.path (asking_of q) q.kind ≡ true
  unfolding asking_of
  form = told_q.form

  form_as : (k : Kind) → q.kind ≡ k → asked_in_form w.path (asking_of q) k ≡ true
  form_as k e = ap (asked_in_form w.path (asking_of q)) (sym e) ∙ form

  -- the entry of a link request and of an I/O try
  names_link : q.kind ≡ Link → names_prefix w.path (asking_of q) ≡ true
  unfolding asked_in_form
  names_link e = and_left _ _ (form_as Link e)

  names_io : q.kind ≡ Io → names_prefix w.path (asking_of q) ≡ true
  unfolding asked_in_form
  names_io e = and_left _ _ (form_as Io e)

  link_again : (entry place began : ℕ) (uncovered : Bool) → entry ≡ q.entry → names_prefix w.path (asking_of q) ≡ true → Asked w.path (link_request w entry place began uncovered)
  unfolding names_prefix asking_of link_request
  link_again entry place began uncovered e h =
      asked_link w told_q.good p.size entry place began uncovered (ap (λ (n : ℕ). names_prefix w.path (record { kind = Link; entry = n; party = place; began = began; size = w.size; uncovered = uncovered })) e ∙ h)

  -- a referral that fails
  module _ (none_tried : has_tried q.kind ≡ false) (status : ℕ) where
    asked_doubled : Asked w.path (doubled q)
    unfolding doubled asking_of good_size
    asked_doubled =
        let z : (1024 ≤ q.size) × (q.size ≤ 57344) = request_size told_q none_tried in
        let s : good_size (min (2 * q.size) most_size) ≡ true =
        and_both (le-leb 1024 (min (2 * q.size) 57344) (omega (arith, z.0))) (le-leb (min (2 * q.size) 57344) 57344 (omega arith)) in
        record { form = resized w.path (asking_of q) (min (2 * q.size) most_size) q.kind none_tried s form; tried = λ l. told_q.tried_form }

    well_fails : Well w.path (failed c w q status)
    unfolding failed failed_host
    well_fails = go q.kind refl
      where
        go : (k : Kind) → q.kind ≡ k → Well w.path (failed c w (kind_to k q) status)
        go Dc e = well_no_dc w.path status
        go Sysvol e = well_no_dc w.path status
        go Io e = well_failed w.path status
        go Root e =
            chosen (Well w.path) (eqb q.entry 0) _ _
            (chosen (Well w.path) w.hit _ _ (well_failed w.path status) (well_not_dfs w.path))
            (onward_well w.path _ _ (λ place. step6 w place q.began) (ends NoDc path_not_found) (asked_root w told_q.good p.size _ q.began) (well_no_dc w.path path_not_found))
        go Link e =
            onward_well w.path _ _ (λ place. link_request w q.entry place q.began q.uncovered) (ends Failed status)
            (link_again q.entry _ q.began q.uncovered refl (names_link e)) (well_failed w.path status)

    pub well_referral_fails : Well w.path (referral_fails c w q status)
    unfolding referral_fails
    well_referral_fails =
        chosen (Well w.path) (eqb status buffer_overflow && ltb q.size most_size) _ _ (well_asks w.path asked_doubled) well_fails

  -- a DC reply
  dc_turn : (reply : List ℕ) → GoodTurn (dc_answer c w (read_dcs q.size reply))
  unfolding dc_answer with_hit
  dc_turn reply = go (read_dcs q.size reply) refl
    where
      go : (x : replies.Reply (List (List ℕ))) → read_dcs q.size reply ≡ x → GoodTurn (dc_answer c w x)
      go malformed e = stay (well_malformed w.path)
      go nothing e = stay (well_empty w.path Dc)
      go (says names) e = record {
        caches = dcs_good c w cs names (says_dcs q.size reply names e);
        path = told_q.good;
        size = p.size;
        called = well_asks w.path (asked_step5 (with_hit true w) told_q.good p.size (dcs_in c w names).domains);
      }

  -- a reply that is stored
  module _ (none_tried : has_tried q.kind ≡ false) (there : is_in_use c w q ≡ true) (clock : ℕ) where
    stored_turn_lem : (r : replies.ReferralReply) → Sound (name_asked w q) r → GoodTurn (stored_turn (hint_set c w q) w q r clock)
    unfolding stored_turn with_referrals with_hit
    stored_turn_lem r s =
        let h : GoodCaches (hint_set c w q) = hint_good c w cs q there in
        let i : Bool = is_interlink r (hint_set c w q).domains in
        let f : good_referral (fresh r i clock) ≡ true = reply_good (name_asked w q) r s i clock in
        let l = stored_well (hint_set c w q).referrals h.refs r i clock f w.path (matches_trans r.prefix (name_asked w q) w.path s.prefix_matches (asked_matches w q none_tried)) in
        record {
          caches = record { refs = stored_kept (hint_set c w q).referrals h.refs r i clock f; doms = h.doms };
          path = told_q.good;
          size = p.size;
          called = well_stored w told_q.good p.size q.kind _ l.well l.matching;
        }

    referral_turn_lem : (reply : List ℕ) → GoodTurn (referral_answer c w q clock (read_referral q.size (name_asked w q) reply))
    unfolding referral_answer
    referral_turn_lem reply = go (read_referral q.size (name_asked w q) reply) refl
      where
        go : (x : replies.Reply replies.ReferralReply) → read_referral q.size (name_asked w q) reply ≡ x → GoodTurn (referral_answer c w q clock x)
        go malformed e = stay (well_malformed w.path)
        go nothing e = stay (well_empty w.path q.kind)
        go (says r) e =
            chosen GoodTurn (covers_nothing q r) _ _ (stay (well_failed w.path path_not_covered)) (stored_turn_lem r (says_sound q.size (name_asked w q) reply r e))

    success_turn : (reply : List ℕ) → GoodTurn (referral_succeeds c w q reply clock)
    unfolding referral_succeeds
    success_turn reply = go q.kind refl
      where
        Said : Question → Type 0
        Said x = GoodTurn (referral_answer c w x clock (read_referral x.size (name_asked w x) reply))

        go : (k : Kind) → q.kind ≡ k → GoodTurn (referral_succeeds c w (kind_to k q) reply clock)
        go Dc e = dc_turn reply
        go Root e = subst Said (ap (λ (k : Kind). kind_to k q) e) (referral_turn_lem reply)
        go Link e = subst Said (ap (λ (k : Kind). kind_to k q) e) (referral_turn_lem reply)
        go Sysvol e = subst Said (ap (λ (k : Kind). kind_to k q) e) (referral_turn_lem reply)
        go Io e = stay (well_malformed w.path)

  -- the answer to a referral request
  pub answered_turn : has_tried q.kind ≡ false → (status : ℕ) (reply : List ℕ) (clock : ℕ) → GoodTurn (referral_answered c w q status reply clock)
  unfolding referral_answered
  answered_turn n status reply clock = go (told (is_in_use c w q))
    where
      Fit : Bool → Type 0
      Fit b = GoodTurn (choose {A = Turn} b (choose {A = Turn} (leb 2 (severity status)) (record { caches = c; core = w; called = referral_fails c w q status }) (referral_succeeds c w q reply clock)) (record { caches = c; core = w; called = ends Gone 0 }))

      go : (is_in_use c w q ≡ true) ⊎ (is_in_use c w q ≡ false) → Fit (is_in_use c w q)
      go (inl t) = subst GoodTurn (sym (choose_yes _ _ t)) (chosen GoodTurn (leb 2 (severity status)) _ _ (stay (well_referral_fails n status)) (success_turn n t clock reply))
      go (inr t) = subst GoodTurn (sym (choose_no _ _ t)) (stay (well_gone w.path))

  -- the answer to an I/O try
  module _ (io : q.kind ≡ Io) (status : ℕ) where
    well_io : (e : Referral) → good_referral e ≡ true → matches e.prefix w.path ≡ true → Well w.path (io_fails w q status e)
    unfolding io_fails
    well_io e well m =
        chosen (Well w.path) (eqb status path_not_covered) _ _
        (chosen (Well w.path) e.settings.root _ _ (well_asks w.path (link_again q.entry q.party q.party true refl (names_io io))) (well_failed w.path status))
        (chosen (Well w.path) (is_one_of status next_target_statuses) _ _
        (onward_well w.path (length e.targets) q (λ place. step8 w e place q.began) (ends Failed status)
        (asked_io w told_q.good p.size e _ q.began well m (next_inside (length e.targets) q.party (let z : 1 ≤ length e.targets = (referral_told e well).some in omega arith)))
        (well_failed w.path status))
        (well_failed w.path status))

    io_turn_lem : is_in_use c w q ≡ true → GoodTurn (io_with c w q status (referral_in_use c w q))
    unfolding io_with referral_in_use asking_of
    io_turn_lem there = go (prefixed_or c.referrals cs.refs (take q.entry w.path))
      where
        Fit : Option Referral → Type 0
        Fit o = GoodTurn (io_with c w q status o)

        go : ((with_key referrals (take q.entry w.path) c.referrals ≡ None) × (prefixed (take q.entry w.path) c.referrals ≡ None))
            ⊎ ((e : Referral) × ((prefixed (take q.entry w.path) c.referrals ≡ Some e) × Equal c.referrals cs.refs (take q.entry w.path) e))
            → GoodTurn (io_with c w q status (prefixed (take q.entry w.path) c.referrals))
        go (inl h) = subst Fit (sym h.1) (stay (well_gone w.path))
        go (inr h) =
            subst Fit (sym h.1.0)
            (chosen GoodTurn (eqb (severity status) 3) _ _
            (stay (well_io h.0 h.1.1.well (matches_same h.0.prefix (take q.entry w.path) w.path h.1.1.same (io_named told_q io).matching)))
            (record { caches = hint_good c w cs q there; path = told_q.good; size = p.size; called = well_done w.path status q.tried (io_count told_q io) }))

    pub tried_turn : GoodTurn (io_answered c w q status)
    unfolding io_answered
    tried_turn = go (told (is_in_use c w q))
      where
        go : (is_in_use c w q ≡ true) ⊎ (is_in_use c w q ≡ false)
            → GoodTurn (choose {A = Turn} (is_in_use c w q) (io_with c w q status (referral_in_use c w q)) (record { caches = c; core = w; called = ends Gone 0 }))
        go (inl t) = subst GoodTurn (sym (choose_yes _ _ t)) (io_turn_lem t)
        go (inr t) = subst GoodTurn (sym (choose_no _ _ t)) (stay (well_gone w.path))
