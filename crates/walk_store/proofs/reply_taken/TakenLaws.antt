-- Laws of a reply that is taken: what it calls for, the turn that it makes, and the caches put back.
use mathlib.Core.Path.{◌≡◌, refl, sym, ap, ◌∙◌, subst}
use mathlib.Core.Bool.{Bool, true, false, ◌&&◌, ◌||◌, true≢false}
use mathlib.Core.List.{List, [], map}
use Prim.Native.Nat.{ℕ, ◌<◌}
use native.Mathlib.Omega.{arith}
use lib.ListN.{length, get_or, take}
use lib.Seq.{take_all}
use lib.Dec.{leb}
use borrow.Author.Tests.{eq-eqb}
use Rattle.laws.proofs.Choices.{choose_yes, choose_no}
use Rattle.unc.specs.names.Paths.{components, first_of, matches}
use Rattle.unc.proofs.names.PieceLaws.{spans}
use Rattle.reply_bytes.specs.texts.Code.{spanned}
use Rattle.reply_bytes.proofs.texts.UnitLaws.{length_spanned}
use Rattle.cache.specs.places.Layout.{place_count, place_at}
use Rattle.cache.specs.places.Code.{changed}
use Rattle.cache.proofs.places.LayoutLaws.{length_place}
use Rattle.cache.specs.order.Entries.{Referral}
use Rattle.cache.specs.order.Memory.{referrals, domains, decode, encode, in_order}
use Rattle.cache_lookup.specs.Lookup.{with_key}
use Rattle.reply_read.specs.referral.Replies as replies
use Rattle.reply_read.specs.referral.Replies.{read_referral}
use Rattle.reply_read.specs.referral.Code.{ReferralInside, referral_shown, unread, denoted}
use Rattle.reply_read.specs.declared.referral.ReferralFound.{ReferralFound}
use Rattle.std.specs.Prelude.{Ok, Err, Option, Some, None}
use Rattle.reply_read.specs.declared.referral.Unread.{Unread}
use Rattle.reply_read.specs.declared.referral.Unread.TheVariants as reason
use Rattle.reply_read.specs.name_lists.NameLists.{read_dcs}
use Rattle.reply_read.specs.name_lists.Code.{dcs_shown, DcsInside}
use Rattle.reply_read.specs.declared.name_lists.DcsFound.{DcsFound}
use Rattle.cache_store.specs.entry_after_reply.Stored.{is_interlink, stored, stored_entry, prefixed, store_place, dcs_stored}
use Rattle.cache_store.specs.entry_after_reply.Code.{Storable}
use Rattle.cache_store.specs.domain_cache.Code.{DomainAt, StorableDcs}
use Rattle.cache_store.proofs.domain_cache.DcLaws.{domain_found, storable_dcs}
use Rattle.walk_steps.specs.steps.Steps.{Caches, Core, Question, ends, asks, Turn, with_hit, with_domains, with_referrals, empty_end, covers_nothing, step3, step4, step5, step7, step8, step11, after_store, stored_turn, hint_set, dcs_in, dc_answer, referral_answer, referral_succeeds, name_asked, path_not_found, path_not_covered}
use Rattle.walk_steps.specs.steps.Held.{caches_of, core_of, question_of}
use Rattle.walk_steps.specs.declared.steps.Kind.{Kind}
use Rattle.walk_steps.specs.declared.steps.Kind.TheVariants as kind
use Rattle.walk_steps.specs.declared.steps.End.{End}
use Rattle.walk_steps.specs.declared.steps.End.TheVariants as end
use Rattle.walk_steps.specs.declared.steps.Asking.{Asking}
use Rattle.walk_steps.specs.cycle.Code.{Usable}
use Rattle.walk_steps.specs.rounds.Code.{domain_there}
use Rattle.walk_steps.proofs.rounds.RoundLaws.{place_named, there_gone, in_use_dc}
use Rattle.walk_store.specs.declared.party_hint.Hinted.{Hinted}
use Rattle.walk_store.specs.declared.party_hint.Hinted.TheVariants.{Unset}
use Rattle.walk_store.specs.declared.reply_taken.Taken.{Taken}
use Rattle.walk_store.specs.declared.reply_taken.Taken.TheVariants.{Ends, Dcs, Entry}
use Rattle.walk_store.specs.declared.reply_taken.Awaited.{Awaited}
use Rattle.walk_store.specs.declared.reply_taken.Awaited.TheVariants as awaited
use Rattle.walk_store.specs.party_hint.Code.{lent_caches, unhinted, Unhintable, Hinting, Using}
use Rattle.walk_store.specs.reply_taken.Code.{awaited_by, NamedIn, covers_no_more, unread_taken, saved_in, taken_turn, put_back, CanPutBack, TakenIn}
use Rattle.walk_store.proofs.reply_taken.PlaceLaws.{place_inside, more_stored, more_order, entry_there, more_fits, more_usable, more_back, dcs_decoded, dcs_order, dcs_inside, dcs_back}
use Rattle.walk_store.proofs.reply_taken.SaidLaws.{first_whole, said_storable, said_matches}

-- memory to save in
saved_is : (i : ℕ) (raw saved : List ℕ) → length saved ≡ 2336 → saved_in i raw saved ≡ place_at i raw
unfolding saved_in
saved_is i raw saved h = choose_yes (place_at i raw) saved (eq-eqb (length saved) 2336 h)

taken_number : Taken → ℕ
taken_number (Ends e status) = 0
taken_number (Dcs i) = 1
taken_number (Entry i h) = 2

place_in : Taken → ℕ
place_in (Ends e status) = 0
place_in (Dcs i) = i
place_in (Entry i h) = i

hint_in : Taken → Hinted
hint_in (Ends e status) = Unset
hint_in (Dcs i) = Unset
hint_in (Entry i h) = h

-- what a function that takes a reply promises
abbrev pub Takes : Core → Kind → List ℕ → List ℕ → List ℕ → Taken → List ℕ → List ℕ → List ℕ → List ℕ → Turn → Type 0
Takes w k path refs doms t saved after more then turn =
    (taken_turn w k t more then ≡ turn)
    × ((length saved ≡ 2336 → put_back t after more then ≡ lent_caches refs doms) × TakenIn (length saved) t after path more then)

-- nothing is stored
pub ends_taken : (w : Core) (k : Kind) (path refs doms saved : List ℕ) (e : End) (status : ℕ) {turn : Turn} → in_order referrals refs ≡ true → in_order domains doms ≡ true
    → record { caches = caches_of refs doms; core = w; called = ends e status } ≡ turn → Takes w k path refs doms (Ends e status) saved saved refs doms turn
unfolding taken_turn put_back taken_number
ends_taken w k path refs doms saved e status o p h = (
  h,
  (
    λ n. refl,
    record {
      refs_order = o;
      doms_order = p;
      usable = λ i g x. absurd (let z : ◌≡◌ {A = ℕ} 0 2 = ap taken_number x in omega arith);
      able = λ n. record {
        long = n;
        dcs_fit = λ i x. absurd (let z : ◌≡◌ {A = ℕ} 0 1 = ap taken_number x in omega arith);
        entry_fits = λ i g x. absurd (let z : ◌≡◌ {A = ℕ} 0 2 = ap taken_number x in omega arith);
      };
    },
  ),
)

-- the hit plays no part in what a stored entry calls for
after_hit : (k : Kind) (p : List ℕ) (s : ℕ) (a b : Bool) (e : Referral) → after_store k (core_of p s a) e ≡ after_store k (core_of p s b) e
unfolding after_store step3 step4 step7 step8 step11
after_hit kind.Dc p s a b e = refl
after_hit kind.Root p s a b e = refl
after_hit kind.Link p s a b e = refl
after_hit kind.Sysvol p s a b e = refl
after_hit kind.Io p s a b e = refl

-- an entry stored after the hint
module _ (refs doms path : List ℕ) (size clock : ℕ) (hit : Bool) (q : Asking) (reply : List ℕ) (f : ReferralFound) (s : Storable reply f) (m : matches (spanned reply f.prefix) path ≡ true)
    {h : Hinted} {more then : List ℕ} (a : (size : ℕ) (hit : Bool) → Hinting refs doms h more then (hint_set (caches_of refs doms) (core_of path size hit) (question_of q [])))
    {link : Bool} (l : link ≡ is_interlink (referral_shown reply f) (decode domains then)) {place : ℕ} (p : place ≡ store_place clock (spanned reply f.prefix) (decode referrals more)) where
  order : in_order referrals more ≡ true
  order = (a size hit).refs_order

  pub entry_saves : place < place_count more
  entry_saves = place_inside more order reply f s link clock path m p

  pub entry_stores : (in_order referrals more ≡ true) × Storable reply f
  entry_stores = (order, s)

  module _ (saved : List ℕ) {after : List ℕ} (v : after ≡ saved_in place more saved) {last : List ℕ}
      (e : last ≡ encode referrals (stored (referral_shown reply f) link clock (decode referrals more))) where
    entry_turn : taken_turn (core_of path size hit) q.kind (Entry place h) last then
        ≡ stored_turn (hint_set (caches_of refs doms) (core_of path size hit) (question_of q [])) (core_of path size hit) (question_of q []) (referral_shown reply f) clock
    unfolding taken_turn stored_turn caches_of with_referrals with_hit question_of referral_shown
    entry_turn =
        (λ j.
        record {
          caches = record {
            referrals = (more_stored more order reply f s link clock path m p e ∙ ap (λ (b : Bool). stored (referral_shown reply f) b clock (decode referrals more)) l) j;
            domains = decode domains then;
          };
          core = core_of path size true;
          called =
              (ap (after_store q.kind (core_of path size true))
              (entry_there more order reply f s link clock path m p e
              ∙ ap (λ (b : Bool). stored_entry (prefixed (spanned reply f.prefix) (decode referrals more)) (referral_shown reply f) b clock) l)
              ∙ after_hit q.kind path size true hit _) j;
        })
        ∙ ap (λ (z : Caches). stored_turn z (core_of path size hit) (question_of q []) (referral_shown reply f) clock) (a size hit).caches

    place_back : length saved ≡ 2336 → changed place (λ q. after) last ≡ more
    place_back n = more_back more order reply f s link clock path m p e (v ∙ saved_is place more saved n)

    entry_back : length saved ≡ 2336 → put_back (Entry place h) after last then ≡ lent_caches refs doms
    unfolding put_back
    entry_back n = ap (λ (x : List ℕ). unhinted h x then) (place_back n) ∙ (a size hit).back

    entry_able : length saved ≡ 2336 → CanPutBack (Entry place h) after last then
    unfolding taken_number place_in hint_in
    entry_able n = record {
      long = ap length (v ∙ saved_is place more saved n) ∙ length_place more place entry_saves;
      dcs_fit = λ i x. absurd (let z : ◌≡◌ {A = ℕ} 2 1 = ap taken_number x in omega arith);
      entry_fits = λ i g x.
          subst (λ (t : Taken). (place_in t < place_count last) × Unhintable (hint_in t) (changed (place_in t) (λ q. after) last) then) x
          (more_fits more order reply f s link clock path m p e, subst (λ (r : List ℕ). Unhintable h r then) (sym (place_back n)) (a size hit).able);
    }

    pub entry_taken : Takes (core_of path size hit) q.kind path refs doms (Entry place h) saved after last then
        (stored_turn (hint_set (caches_of refs doms) (core_of path size hit) (question_of q [])) (core_of path size hit) (question_of q []) (referral_shown reply f) clock)
    unfolding place_in
    entry_taken = (
      entry_turn,
      (
        entry_back,
        record {
          refs_order = more_order more order reply f s link clock path m p e;
          doms_order = (a size hit).doms_order;
          usable = λ i g x. subst (λ (t : Taken). Usable last path (place_in t)) x (more_usable more order reply f s link clock path m p e);
          able = entry_able;
        },
      ),
    )

-- a root, link or SYSVOL reply
module _ (refs doms path : List ℕ) (size clock : ℕ) (hit : Bool) (q : Asking) (name : ℕ) (u : Using refs doms path q) (n : NamedIn name path) (reply : List ℕ) where
  abbrev turn : Turn
  turn = referral_answer (caches_of refs doms) (core_of path size hit) (question_of q []) clock (read_referral q.size (take name path) reply)

  read_turn : {y : replies.Reply replies.ReferralReply} → y ≡ read_referral q.size (take name path) reply
      → referral_answer (caches_of refs doms) (core_of path size hit) (question_of q []) clock y ≡ turn
  read_turn d = ap (referral_answer (caches_of refs doms) (core_of path size hit) (question_of q []) clock) d

  -- one that says nothing
  nothing_taken : (why : Unread) → unread why ≡ read_referral q.size (take name path) reply → (saved : List ℕ)
      → Takes (core_of path size hit) q.kind path refs doms (unread_taken q.kind why) saved saved refs doms turn
  unfolding unread unread_taken referral_answer question_of
  nothing_taken reason.Malformed d saved = ends_taken (core_of path size hit) q.kind path refs doms saved end.Malformed 0 u.refs_order u.doms_order (read_turn d)
  nothing_taken reason.Nothing d saved = ends_taken (core_of path size hit) q.kind path refs doms saved (empty_end q.kind) path_not_found u.refs_order u.doms_order (read_turn d)

  pub unread_referral : (why : Unread) → denoted (referral_shown reply) (Err why) ≡ read_referral q.size (take name path) reply → {t : Taken} → t ≡ unread_taken q.kind why
      → (saved : List ℕ) → Takes (core_of path size hit) q.kind path refs doms t saved saved refs doms turn
  unfolding denoted
  unread_referral why d e saved = subst (λ (t : Taken). Takes (core_of path size hit) q.kind path refs doms t saved saved refs doms turn) (sym e) (nothing_taken why d saved)

  -- one that says something: it covers no more, or it is stored
  module _ (f : ReferralFound) (d : denoted (referral_shown reply) (Ok f) ≡ read_referral q.size (take name path) reply) where
    says : replies.says (referral_shown reply f) ≡ read_referral q.size (take name path) reply
    unfolding denoted
    says = d

    cover_is : covers_no_more q f.root f.prefix.units ≡ covers_nothing (question_of q []) (referral_shown reply f)
    unfolding covers_no_more covers_nothing question_of referral_shown
    cover_is = λ j. q.uncovered && (f.root || leb (sym (length_spanned reply f.prefix) j) q.entry)

    pub covered_referral : {b : Bool} → b ≡ covers_no_more q f.root f.prefix.units → b ≡ true → (saved : List ℕ)
        → Takes (core_of path size hit) q.kind path refs doms (Ends end.Failed path_not_covered) saved saved refs doms turn
    unfolding referral_answer
    covered_referral e t saved =
        ends_taken (core_of path size hit) q.kind path refs doms saved end.Failed path_not_covered u.refs_order u.doms_order
        (sym (choose_yes _ _ (sym (e ∙ cover_is) ∙ t)) ∙ read_turn says)

    pub stores_wanted : ReferralInside reply f → Using refs doms path q × (Storable reply f × (matches (spanned reply f.prefix) path ≡ true))
    stores_wanted w = (u, (said_storable q.size (take name path) reply f says w, n.whole _ (said_matches q.size (take name path) reply f says)))

    module _ {b : Bool} (e : b ≡ covers_no_more q f.root f.prefix.units) (h : b ≡ false) where
      stored_turn_lem : stored_turn (hint_set (caches_of refs doms) (core_of path size hit) (question_of q [])) (core_of path size hit) (question_of q []) (referral_shown reply f) clock ≡ turn
      unfolding referral_answer
      stored_turn_lem = sym (choose_no _ _ (sym (e ∙ cover_is) ∙ h)) ∙ read_turn says

      pub stores_taken : (saved : List ℕ) {t : Taken} {after more then : List ℕ}
          → Takes (core_of path size hit) q.kind path refs doms t saved after more then
          (stored_turn (hint_set (caches_of refs doms) (core_of path size hit) (question_of q [])) (core_of path size hit) (question_of q []) (referral_shown reply f) clock)
          → Takes (core_of path size hit) q.kind path refs doms t saved after more then turn
      stores_taken saved k = (k.0 ∙ stored_turn_lem, k.1)

-- a DC reply, into the domain of the first component
module _ (refs doms path : List ℕ) (size : ℕ) (hit : Bool) (q : Asking) (u : Using refs doms path q) (k : q.kind ≡ kind.Dc) (reply : List ℕ) {name : List ℕ} (y : name ≡ get_or (components path) 0 [])
    {g : Option ℕ} (e : g ≡ with_key domains name (decode domains doms)) where
  named_is : g ≡ with_key domains (get_or (components path) 0 []) (decode domains doms)
  named_is = place_named path doms y e

  pub dc_there : {A : Type 0} → g ≡ None → A
  dc_there h = absurd (true≢false (sym (in_use_dc refs doms path q {r = domain_there path doms} k refl ∙ u.used 0 true) ∙ sym (there_gone path doms named_is h)))

  pub domain_at_lem : (i : ℕ) → g ≡ Some i → DomainAt i doms
  domain_at_lem i h = domain_found doms u.doms_order (get_or (components path) 0 []) i (sym named_is ∙ h)

  abbrev answered : Turn
  answered = dc_answer (caches_of refs doms) (core_of path size hit) (read_dcs q.size reply)

  dcs_read : {y : replies.Reply (List (List ℕ))} → y ≡ read_dcs q.size reply → dc_answer (caches_of refs doms) (core_of path size hit) y ≡ answered
  dcs_read d = ap (dc_answer (caches_of refs doms) (core_of path size hit)) d

  -- one that says nothing
  no_dcs_taken : (why : Unread) → unread why ≡ read_dcs q.size reply → (saved : List ℕ)
      → Takes (core_of path size hit) q.kind path refs doms (unread_taken kind.Dc why) saved saved refs doms answered
  unfolding unread unread_taken dc_answer
  no_dcs_taken reason.Malformed d saved = ends_taken (core_of path size hit) q.kind path refs doms saved end.Malformed 0 u.refs_order u.doms_order (dcs_read d)
  no_dcs_taken reason.Nothing d saved = ends_taken (core_of path size hit) q.kind path refs doms saved (empty_end kind.Dc) path_not_found u.refs_order u.doms_order (dcs_read d)

  pub unread_dcs : (why : Unread) → denoted (dcs_shown reply) (Err why) ≡ read_dcs q.size reply → {t : Taken} → t ≡ unread_taken kind.Dc why
      → (saved : List ℕ) → Takes (core_of path size hit) q.kind path refs doms t saved saved refs doms answered
  unfolding denoted
  unread_dcs why d e saved = subst (λ (t : Taken). Takes (core_of path size hit) q.kind path refs doms t saved saved refs doms answered) (sym e) (no_dcs_taken why d saved)

  -- one that says something
  module _ (f : DcsFound) (d : denoted (dcs_shown reply) (Ok f) ≡ read_dcs q.size reply) where
    dcs_said : replies.says (dcs_shown reply f) ≡ read_dcs q.size reply
    unfolding denoted
    dcs_said = d

    module _ (w : DcsInside reply f) (i : ℕ) (z : g ≡ Some i) where
      storable : StorableDcs reply f
      storable = storable_dcs q.size reply f (sym dcs_said) w

      pub dcs_wanted : DomainAt i doms × StorableDcs reply f
      dcs_wanted = (domain_at_lem i z, storable)

      module _ (saved : List ℕ) {after : List ℕ} (v : after ≡ saved_in i doms saved) {then : List ℕ}
          (m : then ≡ encode domains (dcs_stored i (map (spanned reply) (take f.count f.kept)) (decode domains doms))) where
        answer_is : record {
          caches = with_domains (dcs_stored i (map (spanned reply) (take f.count f.kept)) (decode domains doms)) (caches_of refs doms);
          core = core_of path size true;
          called = asks (step5 (dcs_stored i (map (spanned reply) (take f.count f.kept)) (decode domains doms)) (core_of path size true));
        }
            ≡ answered
        unfolding dc_answer dcs_in with_hit with_domains caches_of dcs_shown
        answer_is =
            (let j : with_key domains (get_or (components path) 0 []) (decode domains doms) ≡ Some i = sym named_is ∙ z in rw j refl)
            ∙ dcs_read dcs_said

        dcs_turn : taken_turn (core_of path size hit) q.kind (Dcs i) refs then ≡ answered
        unfolding taken_turn with_hit with_domains caches_of
        dcs_turn =
            (λ j.
            record {
              caches = record { referrals = decode referrals refs; domains = dcs_decoded doms i (domain_at_lem i z) reply f storable m j };
              core = core_of path size true;
              called = asks (step5 (dcs_decoded doms i (domain_at_lem i z) reply f storable m j) (core_of path size true));
            })
            ∙ answer_is

        pub dcs_taken : Takes (core_of path size hit) q.kind path refs doms (Dcs i) saved after refs then answered
        unfolding put_back taken_number place_in
        dcs_taken = (
          dcs_turn,
          (
            λ n. (λ j. lent_caches refs (dcs_back doms i (domain_at_lem i z) reply f storable m (v ∙ saved_is i doms saved n) j)),
            record {
              refs_order = u.refs_order;
              doms_order = dcs_order doms i (domain_at_lem i z) reply f storable m;
              usable = λ j a x. absurd (let b : ◌≡◌ {A = ℕ} 1 2 = ap taken_number x in omega arith);
              able = λ n. record {
                long = ap length (v ∙ saved_is i doms saved n) ∙ length_place doms i (domain_at_lem i z).fits;
                dcs_fit = λ j x. subst (λ (t : Taken). place_in t < place_count then) x (dcs_inside doms i (domain_at_lem i z) reply f storable m);
                entry_fits = λ j a x. absurd (let b : ◌≡◌ {A = ℕ} 1 2 = ap taken_number x in omega arith);
              };
            },
          ),
        )

-- by the kind of the question
module _ (c : Caches) (path : List ℕ) (size : ℕ) (hit : Bool) (q : Asking) (reply : List ℕ) (clock : ℕ) where
  of : Kind → Question
  of k = record { kind = k; entry = q.entry; party = q.party; began = q.began; size = q.size; tried = []; uncovered = q.uncovered }

  by_kind : {k : Kind} → q.kind ≡ k → referral_succeeds c (core_of path size hit) (of k) reply clock ≡ referral_succeeds c (core_of path size hit) (question_of q []) reply clock
  unfolding question_of of
  by_kind h = ap (λ (k : Kind). referral_succeeds c (core_of path size hit) (of k) reply clock) (sym h)

  of_kind : {k : Kind} (x : replies.Reply replies.ReferralReply) → q.kind ≡ k
      → referral_answer c (core_of path size hit) (question_of q []) clock x ≡ referral_answer c (core_of path size hit) (of k) clock x
  unfolding question_of of
  of_kind x h = ap (λ (k : Kind). referral_answer c (core_of path size hit) (of k) clock x) h

  two : take (length (first_of 2 path)) path ≡ first_of 2 path
  two = (spans 2 path).begin

  read : ℕ → Turn
  read n = referral_answer c (core_of path size hit) (question_of q []) clock (read_referral q.size (take n path) reply)

  awaited_number : Awaited → ℕ
  awaited_number awaited.DcNames = 0
  awaited_number (awaited.Referral n) = 1
  awaited_number awaited.NoReply = 2

  name_in : Awaited → ℕ
  name_in awaited.DcNames = 0
  name_in (awaited.Referral n) = n
  name_in awaited.NoReply = 0

  reads : (k : Kind) → q.kind ≡ k → (n : ℕ) → awaited_by k path ≡ awaited.Referral n → read n ≡ referral_succeeds c (core_of path size hit) (question_of q []) reply clock
  unfolding awaited_by referral_succeeds of name_asked read awaited_number name_in
  reads kind.Dc h n e = absurd (let z : ◌≡◌ {A = ℕ} 0 1 = ap awaited_number e in omega arith)
  reads kind.Root h n e =
      ap (λ (m : ℕ). read m) (sym (ap name_in e))
      ∙ (ap (λ (s : List ℕ). referral_answer c (core_of path size hit) (question_of q []) clock (read_referral q.size s reply)) two ∙ (of_kind _ h ∙ by_kind h))
  reads kind.Link h n e =
      ap (λ (m : ℕ). read m) (sym (ap name_in e))
      ∙ (ap (λ (s : List ℕ). referral_answer c (core_of path size hit) (question_of q []) clock (read_referral q.size s reply)) (take_all (length path) path (omega arith))
      ∙ (of_kind _ h ∙ by_kind h))
  reads kind.Sysvol h n e =
      ap (λ (m : ℕ). read m) (sym (ap name_in e))
      ∙ (ap (λ (s : List ℕ). referral_answer c (core_of path size hit) (question_of q []) clock (read_referral q.size s reply)) two ∙ (of_kind _ h ∙ by_kind h))
  reads kind.Io h n e = absurd (let z : ◌≡◌ {A = ℕ} 2 1 = ap awaited_number e in omega arith)

  named : (k : Kind) (n : ℕ) → awaited_by k path ≡ awaited.Referral n → NamedIn n path
  unfolding awaited_by awaited_number name_in
  named kind.Dc n e = absurd (let z : ◌≡◌ {A = ℕ} 0 1 = ap awaited_number e in omega arith)
  named kind.Root n e = subst (λ (m : ℕ). NamedIn m path) (ap name_in e) first_two
    where
      first_two : NamedIn (length (first_of 2 path)) path
      first_two = record { within = (spans 2 path).inside; whole = λ p h. first_whole 2 path p (subst (λ (s : List ℕ). matches p s ≡ true) two h) }
  named kind.Link n e = subst (λ (m : ℕ). NamedIn m path) (ap name_in e) all
    where
      all : NamedIn (length path) path
      all = record { within = omega arith; whole = λ p h. subst (λ (s : List ℕ). matches p s ≡ true) (take_all (length path) path (omega arith)) h }
  named kind.Sysvol n e = subst (λ (m : ℕ). NamedIn m path) (ap name_in e) first_two
    where
      first_two : NamedIn (length (first_of 2 path)) path
      first_two = record { within = (spans 2 path).inside; whole = λ p h. first_whole 2 path p (subst (λ (s : List ℕ). matches p s ≡ true) two h) }
  named kind.Io n e = absurd (let z : ◌≡◌ {A = ℕ} 2 1 = ap awaited_number e in omega arith)

  names_dcs : (k : Kind) → awaited_by k path ≡ awaited.DcNames → k ≡ kind.Dc
  unfolding awaited_by awaited_number
  names_dcs kind.Dc e = refl
  names_dcs kind.Root e = absurd (let z : ◌≡◌ {A = ℕ} 1 0 = ap awaited_number e in omega arith)
  names_dcs kind.Link e = absurd (let z : ◌≡◌ {A = ℕ} 1 0 = ap awaited_number e in omega arith)
  names_dcs kind.Sysvol e = absurd (let z : ◌≡◌ {A = ℕ} 1 0 = ap awaited_number e in omega arith)
  names_dcs kind.Io e = absurd (let z : ◌≡◌ {A = ℕ} 2 0 = ap awaited_number e in omega arith)

  no_reply : (k : Kind) → awaited_by k path ≡ awaited.NoReply → k ≡ kind.Io
  unfolding awaited_by awaited_number
  no_reply kind.Dc e = absurd (let z : ◌≡◌ {A = ℕ} 0 2 = ap awaited_number e in omega arith)
  no_reply kind.Root e = absurd (let z : ◌≡◌ {A = ℕ} 1 2 = ap awaited_number e in omega arith)
  no_reply kind.Link e = absurd (let z : ◌≡◌ {A = ℕ} 1 2 = ap awaited_number e in omega arith)
  no_reply kind.Sysvol e = absurd (let z : ◌≡◌ {A = ℕ} 1 2 = ap awaited_number e in omega arith)
  no_reply kind.Io e = refl

  dc_turn : q.kind ≡ kind.Dc → dc_answer c (core_of path size hit) (read_dcs q.size reply) ≡ referral_succeeds c (core_of path size hit) (question_of q []) reply clock
  unfolding referral_succeeds of
  dc_turn h = by_kind h

  io_turn_lem : q.kind ≡ kind.Io → record { caches = c; core = core_of path size hit; called = ends end.Malformed 0 } ≡ referral_succeeds c (core_of path size hit) (question_of q []) reply clock
  unfolding referral_succeeds of
  io_turn_lem h = by_kind h

-- the reply taken
module _ (refs doms path : List ℕ) (size : ℕ) (hit : Bool) (q : Asking) (u : Using refs doms path q) (reply : List ℕ) (clock : ℕ) {x : Awaited} (e : x ≡ awaited_by q.kind path) where
  pub takes_dcs : x ≡ awaited.DcNames → Using refs doms path q × (q.kind ≡ kind.Dc)
  takes_dcs h = (u, names_dcs (caches_of refs doms) path size hit q reply clock q.kind (sym e ∙ h))

  pub takes_named : {n : ℕ} → x ≡ awaited.Referral n → Using refs doms path q × NamedIn n path
  takes_named h = (u, named (caches_of refs doms) path size hit q reply clock q.kind _ (sym e ∙ h))

  module _ (saved : List ℕ) {t : Taken} {after more then : List ℕ} where
    pub dcs_succeed : x ≡ awaited.DcNames
        → Takes (core_of path size hit) q.kind path refs doms t saved after more then (dc_answer (caches_of refs doms) (core_of path size hit) (read_dcs q.size reply))
        → Takes (core_of path size hit) q.kind path refs doms t saved after more then (referral_succeeds (caches_of refs doms) (core_of path size hit) (question_of q []) reply clock)
    dcs_succeed h k = (k.0 ∙ dc_turn (caches_of refs doms) path size hit q reply clock (takes_dcs h).1, k.1)

    pub referral_succeeds_lem : {n : ℕ} → x ≡ awaited.Referral n
        → Takes (core_of path size hit) q.kind path refs doms t saved after more then
        (referral_answer (caches_of refs doms) (core_of path size hit) (question_of q []) clock (read_referral q.size (take n path) reply))
        → Takes (core_of path size hit) q.kind path refs doms t saved after more then (referral_succeeds (caches_of refs doms) (core_of path size hit) (question_of q []) reply clock)
    unfolding read
    referral_succeeds_lem h k = (k.0 ∙ reads (caches_of refs doms) path size hit q reply clock q.kind refl _ (sym e ∙ h), k.1)

  pub none_succeeds : x ≡ awaited.NoReply → (saved : List ℕ)
      → Takes (core_of path size hit) q.kind path refs doms (Ends end.Malformed 0) saved saved refs doms (referral_succeeds (caches_of refs doms) (core_of path size hit) (question_of q []) reply clock)
  none_succeeds h saved =
      ends_taken (core_of path size hit) q.kind path refs doms saved end.Malformed 0 u.refs_order u.doms_order
      (io_turn_lem (caches_of refs doms) path size hit q reply clock (no_reply (caches_of refs doms) path size hit q reply clock q.kind (sym e ∙ h)))
