-- A start and the answers put a question, if they put one, whose entry in use is there.
use Rattle.std.specs.Prelude.{Option, None, Some}
use mathlib.Core.Path.{◌≡◌, refl, sym, ap, ◌∙◌, subst}
use mathlib.Core.Bool.{Bool, true, false, ◌&&◌, ◌||◌}
use mathlib.Core.List.{List, []}
use mathlib.Core.Logic.{◌⊎◌, inl, inr}
use Prim.Native.Nat.{ℕ, ◌<◌}
use native.Mathlib.Omega.{arith}
use lib.ListN.{length, take}
use lib.Dec.{leb, ltb, eqb}
use borrow.Author.Tests.{ltb-true}
use Rattle.laws.proofs.Choices.{and_left, and_right}
use Rattle.unc.specs.names.Paths.{component_count}
use Rattle.cache.specs.order.Entries.{Referral}
use Rattle.cache.specs.order.Memory.{referrals}
use Rattle.cache_lookup.specs.Lookup.{with_key}
use Rattle.reply_read.specs.referral.Replies as replies
use Rattle.reply_read.specs.referral.Replies.{malformed, nothing, says, read_referral}
use Rattle.reply_read.proofs.referral.SaysLaws.{Sound, says_sound}
use Rattle.reply_read.specs.name_lists.NameLists.{read_dcs}
use Rattle.reply_read.proofs.name_lists.SaysLaws.{says_dcs}
use Rattle.cache_store.specs.entry_after_reply.Stored.{prefixed, stored, is_interlink}
use Rattle.walk_steps.specs.steps.Steps.{Caches, Core, Question, Called, ends, Turn, Rest, waits, ended, started, from_step2, turned, hit_at, with_hit, with_referrals, name_asked, is_in_use, referral_in_use, domain_in_use, dc_count, target_count, party_count, next_place, onward, doubled, failed_host, failed, referral_fails, hint_set}
use Rattle.reply_read.specs.referral.Request.{most_size}
use Rattle.walk_steps.specs.steps.Steps.{dcs_in, dc_answer, covers_nothing, stored_turn, referral_answer, referral_succeeds, referral_answered, io_fails, io_with, io_answered, severity, is_one_of, next_target_statuses, step6, step8, link_request, buffer_overflow, path_not_found, path_not_covered}
use Rattle.walk_steps.specs.steps.Held.{asking_of}
use Rattle.walk_steps.specs.declared.steps.Kind.{Kind}
use Rattle.walk_steps.specs.declared.steps.Kind.TheVariants.{Dc, Root, Link, Sysvol, Io}
use Rattle.walk_steps.specs.declared.steps.End.TheVariants.{NotDfs, NoDc, Failed}
use Rattle.walk_steps.proofs.cycle.MoveLaws.{matches_same}
use Rattle.walk_form.specs.held.Walks.{has_tried}
use Rattle.walk_form.proofs.held.FormLaws.{io_named}
use Rattle.walk_calls.specs.calls.Calls.{referral_event, io_event}
use Rattle.theorems.specs.keeps.Code.{GoodCaches, Proper}
use Rattle.theorems.proofs.keeps.PrefixLaws.{matches_trans}
use Rattle.theorems.proofs.keeps.CacheLaws.{Equal, prefixed_or, reply_good}
use Rattle.theorems.proofs.keeps.FoundLaws.{under_path, stored_under}
use Rattle.theorems.proofs.keeps.CalledLaws.{picked, chosen}
use Rattle.theorems.proofs.keeps.HintLaws.{kind_to, hint_good, dcs_good}
use Rattle.theorems.proofs.keeps.UseLaws.{Uses, uses_stops, uses_asks, uses_path, use_root, use_link, use_io, use_stored, use_step5, use_step2, RestUses, turned_uses}
use Rattle.theorems.proofs.keeps.AnswerLaws.{next_inside, asked_matches, told_q}
use Rattle.theorems.proofs.keeps.EventLaws.{If, if_none, if_some, is_io}

-- what an event calls for, in the caches that it leaves
unfoldable pub TurnUses : Turn → Type 0
TurnUses t = Uses t.caches t.core t.called

turn_uses : (c : Caches) (w : Core) (a : Called) → Uses c w a → TurnUses (record { caches = c; core = w; called = a })
unfolding TurnUses
turn_uses c w a u = u

-- a start
pub started_rests : (c : Caches) (w : Core) → GoodCaches c → (n clock : ℕ) → RestUses c (turned n clock (started c w clock))
unfolding started from_step2 with_hit
started_rests c w cs n clock =
    chosen Fit (eqb (component_count w.path) 1) (record { caches = c; core = w; called = ends NotDfs 0 }) (from_step2 c w clock)
    (turned_uses n clock _ cs (uses_stops c w NotDfs 0 []))
    (turned_uses n clock (from_step2 c w clock) cs (uses_path c w (with_hit (hit_at c w) w) _ refl (use_step2 c w cs clock)))
  where
    Fit : Turn → Type 0
    Fit t = RestUses c (turned n clock t)

-- the same question with another size
doubled_same : (c : Caches) (w : Core) (q : Question) → is_in_use c w q ≡ is_in_use c w (doubled q)
unfolding is_in_use doubled party_count referral_in_use
doubled_same c w q = go q.kind
  where
    go : (k : Kind) → is_in_use c w (kind_to k q) ≡ is_in_use c w (doubled (kind_to k q))
    go Dc = refl
    go Root = refl
    go Link = refl
    go Sysvol = refl
    go Io = refl

module _ (party began n : ℕ) (h : (ltb party n && ltb began n) ≡ true) where
  party_inside : party < n
  party_inside = ltb-true party n (and_left (ltb party n) _ h)

  began_inside : began < n
  began_inside = ltb-true began n (and_right (ltb party n) _ h)

  next_party : next_place n party < n
  next_party = next_inside n party (let z : party < n = party_inside in omega arith)

module _ (c : Caches) (w : Core) (q : Question) (there : is_in_use c w q ≡ true) where
  onward_uses : (n : ℕ) (ask : ℕ → Question) (a : Called) → is_in_use c w (ask (next_place n q.party)) ≡ true → Uses c w a → Uses c w (onward n q ask a)
  unfolding onward
  onward_uses n ask a u v = chosen (Uses c w) (eqb (next_place n q.party) q.began) _ _ v (uses_asks c w _ u)

  -- a round of DCs, and of targets
  dcs_round : q.kind ≡ Root → eqb q.entry 0 ≡ false → (ltb q.party (dc_count (domain_in_use c w)) && ltb q.began (dc_count (domain_in_use c w))) ≡ true
  unfolding is_in_use party_count
  dcs_round e t =
      let u : is_in_use c w (kind_to Root q) ≡ true = ap (λ (k : Kind). is_in_use c w (kind_to k q)) (sym e) ∙ there in
      ap (λ (b : Bool). b || (ltb q.party (dc_count (domain_in_use c w)) && ltb q.began (dc_count (domain_in_use c w)))) (sym t) ∙ u

  targets_round : (q.kind ≡ Link) ⊎ (q.kind ≡ Io)
      → (ltb q.party (target_count (prefixed (take q.entry w.path) c.referrals)) && ltb q.began (target_count (prefixed (take q.entry w.path) c.referrals))) ≡ true
  unfolding is_in_use party_count referral_in_use
  targets_round (inl e) = ap (λ (k : Kind). is_in_use c w (kind_to k q)) (sym e) ∙ there
  targets_round (inr e) = ap (λ (k : Kind). is_in_use c w (kind_to k q)) (sym e) ∙ there

  -- a referral that fails
  failed_uses : (status : ℕ) → Uses c w (failed c w q status)
  unfolding failed failed_host party_count referral_in_use onward
  failed_uses status = go q.kind refl
    where
      go : (k : Kind) → q.kind ≡ k → Uses c w (failed c w (kind_to k q) status)
      go Dc e = uses_stops c w _ _ _
      go Sysvol e = uses_stops c w _ _ _
      go Io e = uses_stops c w _ _ _
      go Root e =
          picked (Uses c w) (eqb q.entry 0) _ _ (λ t. chosen (Uses c w) w.hit _ _ (uses_stops c w _ _ _) (uses_stops c w _ _ _))
          (λ t.
          let n : ℕ = dc_count (domain_in_use c w) in
          let r : (ltb q.party n && ltb q.began n) ≡ true = dcs_round e t in
          onward_uses n (λ place. step6 w place q.began) (ends NoDc path_not_found) (use_root c w _ q.began (next_party q.party q.began n r) (began_inside q.party q.began n r))
          (uses_stops c w _ _ _))
      go Link e =
          let n : ℕ = target_count (prefixed (take q.entry w.path) c.referrals) in
          let r : (ltb q.party n && ltb q.began n) ≡ true = targets_round (inl e) in
          onward_uses n (λ place. link_request w q.entry place q.began q.uncovered) (ends Failed status)
          (use_link c w q.entry _ q.began q.uncovered n refl (next_party q.party q.began n r) (began_inside q.party q.began n r)) (uses_stops c w _ _ _)

  fails_uses : (status : ℕ) → Uses c w (referral_fails c w q status)
  unfolding referral_fails
  fails_uses status =
      chosen (Uses c w) (eqb status buffer_overflow && ltb q.size most_size) _ _ (uses_asks c w _ (sym (doubled_same c w q) ∙ there)) (failed_uses status)

module _ (c : Caches) (cs : GoodCaches c) (w : Core) (q : Question) where
  -- a DC reply
  dc_uses : (reply : List ℕ) → TurnUses (dc_answer c w (read_dcs q.size reply))
  unfolding dc_answer
  dc_uses reply = go (read_dcs q.size reply) refl
    where
      go : (x : replies.Reply (List (List ℕ))) → read_dcs q.size reply ≡ x → TurnUses (dc_answer c w x)
      go malformed e = turn_uses c w _ (uses_stops c w _ _ _)
      go nothing e = turn_uses c w _ (uses_stops c w _ _ _)
      go (says names) e =
          turn_uses (dcs_in c w names) (with_hit true w) _
          (uses_asks (dcs_in c w names) (with_hit true w) _ (use_step5 (dcs_in c w names) (with_hit true w) (dcs_good c w cs names (says_dcs q.size reply names e))))

  module _ (none_tried : has_tried q.kind ≡ false) (there : is_in_use c w q ≡ true) (clock : ℕ) where
    -- a reply that is stored: the entry that it leaves is the one in use
    stored_uses : (r : replies.ReferralReply) → Sound (name_asked w q) r → TurnUses (stored_turn (hint_set c w q) w q r clock)
    unfolding stored_turn with_referrals with_hit TurnUses
    stored_uses r s =
        let h : GoodCaches (hint_set c w q) = hint_good c w cs q there in
        let i : Bool = is_interlink r (hint_set c w q).domains in
        let d : Caches = with_referrals (stored r i clock (hint_set c w q).referrals) (hint_set c w q) in
        uses_path d w (with_hit true w) _ refl
        (use_stored d w q.kind _
        (stored_under (hint_set c w q).referrals h.refs r i clock (reply_good (name_asked w q) r s i clock) w.path
        (matches_trans r.prefix (name_asked w q) w.path s.prefix_matches (asked_matches w q none_tried))))

    reply_uses : (reply : List ℕ) → TurnUses (referral_answer c w q clock (read_referral q.size (name_asked w q) reply))
    unfolding referral_answer
    reply_uses reply = go (read_referral q.size (name_asked w q) reply) refl
      where
        go : (x : replies.Reply replies.ReferralReply) → read_referral q.size (name_asked w q) reply ≡ x → TurnUses (referral_answer c w q clock x)
        go malformed e = turn_uses c w _ (uses_stops c w _ _ _)
        go nothing e = turn_uses c w _ (uses_stops c w _ _ _)
        go (says r) e =
            chosen TurnUses (covers_nothing q r) _ _ (turn_uses c w _ (uses_stops c w _ _ _)) (stored_uses r (says_sound q.size (name_asked w q) reply r e))

    success_uses : (reply : List ℕ) → TurnUses (referral_succeeds c w q reply clock)
    unfolding referral_succeeds
    success_uses reply = go q.kind refl
      where
        Said : Question → Type 0
        Said x = TurnUses (referral_answer c w x clock (read_referral x.size (name_asked w x) reply))

        go : (k : Kind) → q.kind ≡ k → TurnUses (referral_succeeds c w (kind_to k q) reply clock)
        go Dc e = dc_uses reply
        go Root e = subst Said (ap (λ (k : Kind). kind_to k q) e) (reply_uses reply)
        go Link e = subst Said (ap (λ (k : Kind). kind_to k q) e) (reply_uses reply)
        go Sysvol e = subst Said (ap (λ (k : Kind). kind_to k q) e) (reply_uses reply)
        go Io e = turn_uses c w _ (uses_stops c w _ _ _)

  -- the answer to a referral request
  pub answered_uses : has_tried q.kind ≡ false → (status : ℕ) (reply : List ℕ) (clock : ℕ) → TurnUses (referral_answered c w q status reply clock)
  unfolding referral_answered
  answered_uses n status reply clock =
      picked TurnUses (is_in_use c w q) _ _
      (λ t. chosen TurnUses (leb 2 (severity status)) _ _ (turn_uses c w _ (fails_uses c w q t status)) (success_uses n t clock reply))
      (λ t. turn_uses c w _ (uses_stops c w _ _ _))

  -- the answer to an I/O try
  module _ (p : Proper w (waits q)) (io : q.kind ≡ Io) (status : ℕ) where
    module _ (there : is_in_use c w q ≡ true) where
      io_fails_uses : (e : Referral) → prefixed (take q.entry w.path) c.referrals ≡ Some e → prefixed (take (length e.prefix) w.path) c.referrals ≡ Some e
          → Uses c w (io_fails w q status e)
      unfolding io_fails target_count
      io_fails_uses e h u =
          let n : ℕ = target_count (prefixed (take q.entry w.path) c.referrals) in
          let r : (ltb q.party n && ltb q.began n) ≡ true = targets_round c w q there (inr io) in
          let m : n ≡ length e.targets = ap target_count h in
          let k : (ltb q.party (length e.targets) && ltb q.began (length e.targets)) ≡ true = subst (λ (x : ℕ). (ltb q.party x && ltb q.began x) ≡ true) m r in
          chosen (Uses c w) (eqb status path_not_covered) _ _
          (chosen (Uses c w) e.settings.root _ _
          (uses_asks c w _
          (use_link c w q.entry q.party q.party true n refl (party_inside q.party q.began n r) (party_inside q.party q.began n r)))
          (uses_stops c w _ _ _))
          (chosen (Uses c w) (is_one_of status next_target_statuses) _ _
          (onward_uses c w q there (length e.targets) (λ place. step8 w e place q.began) (ends Failed status)
          (use_io c w e _ q.began u (next_party q.party q.began (length e.targets) k) (began_inside q.party q.began (length e.targets) k))
          (uses_stops c w _ _ _))
          (uses_stops c w _ _ _))

      io_with_uses : TurnUses (io_with c w q status (referral_in_use c w q))
      unfolding io_with referral_in_use TurnUses asking_of
      io_with_uses = go (prefixed_or c.referrals cs.refs (take q.entry w.path))
        where
          Fit : Option Referral → Type 0
          Fit o = TurnUses (io_with c w q status o)

          go : ((with_key referrals (take q.entry w.path) c.referrals ≡ None) × (prefixed (take q.entry w.path) c.referrals ≡ None))
              ⊎ ((e : Referral) × ((prefixed (take q.entry w.path) c.referrals ≡ Some e) × Equal c.referrals cs.refs (take q.entry w.path) e))
              → TurnUses (io_with c w q status (prefixed (take q.entry w.path) c.referrals))
          go (inl h) = subst Fit (sym h.1) (turn_uses c w _ (uses_stops c w _ _ _))
          go (inr h) =
              subst Fit (sym h.1.0)
              (chosen TurnUses (eqb (severity status) 3) _ _
              (turn_uses c w _ (io_fails_uses h.0 h.1.0
              (under_path c.referrals cs.refs w.path h.1.1.place h.0 h.1.1.here
              (matches_same h.0.prefix (take q.entry w.path) w.path h.1.1.same (io_named (told_q c cs w q p) io).matching))))
              (uses_stops (hint_set c w q) w _ _ _))

    pub tried_uses : TurnUses (io_answered c w q status)
    unfolding io_answered
    tried_uses = picked TurnUses (is_in_use c w q) _ _ (λ t. io_with_uses t) (λ t. turn_uses c w _ (uses_stops c w _ _ _))

-- the event of an answer, if there is one
module _ (c : Caches) (cs : GoodCaches c) (w : Core) where
  pub referral_uses : (r : Rest) (status : ℕ) (reply : List ℕ) (clock : ℕ) (t : Turn) → referral_event c w r status reply clock ≡ Some t → TurnUses t
  unfolding referral_event If
  referral_uses (ended e s tried) status reply clock = if_none TurnUses
  referral_uses (waits q) status reply clock =
      picked (If TurnUses) (has_tried q.kind) None (Some (referral_answered c w q status reply clock)) (λ h. if_none TurnUses)
      (λ h. if_some TurnUses _ (answered_uses c cs w q h status reply clock))

  pub io_uses : (r : Rest) → Proper w r → (status : ℕ) (t : Turn) → io_event c w r status ≡ Some t → TurnUses t
  unfolding io_event If
  io_uses (ended e s tried) p status = if_none TurnUses
  io_uses (waits q) p status =
      picked (If TurnUses) (has_tried q.kind) (Some (io_answered c w q status)) None (λ h. if_some TurnUses _ (tried_uses c cs w q p (is_io q.kind h) status))
      (λ h. if_none TurnUses)
