-- Laws of what is shown.
use mathlib.Core.Path.{◌≡◌, refl, sym, ap, ◌∙◌}
use mathlib.Core.Bool.{Bool, true, false, ◌&&◌, ◌||◌}
use mathlib.Core.List.{List, [], ◌∷◌, ◌++◌}
use mathlib.Core.Logic.{◌⊎◌, inl, inr}
use Prim.Native.Nat.{ℕ, ◌+◌, ◌-◌, ◌≤◌, ◌<◌}
use native.Mathlib.Omega.{arith}
use lib.ListN.{length, get_or, take, drop, length-take, length-drop}
use lib.Seq.{take_all}
use lib.Dec.{eqb}
use borrow.Author.Tests.{eq-eqb, ne_eqb, ltb-true, le-leb, lt-leb}
use Rattle.std.specs.Prelude.{Ok, Err, None, Option, Some}
use Rattle.laws.specs.Choice.{choose}
use Rattle.laws.specs.Lists.{pasted, part}
use Rattle.laws.proofs.Choices.{choose_yes, choose_no, and_left}
use Rattle.unc.specs.names.Paths.{components, first_of}
use Rattle.unc.proofs.names.PieceLaws.{spans}
use Rattle.cache.specs.places.Layout.{place_count, place_at, text_at, room_at}
use Rattle.cache.specs.order.Entries.{Referral, Domain}
use Rattle.cache.specs.order.Order.{good_prefix}
use Rattle.cache.specs.order.Memory.{referrals, domains, decode, in_order}
use Rattle.cache.proofs.order.KindLaws.{prefix_short}
use Rattle.cache_lookup.specs.Lookup.{with_key, target_path, dc_name}
use Rattle.cache_lookup.specs.Code.{entry_at}
use Rattle.cache_lookup.proofs.EntryLaws.{read_target, read_dc}
use Rattle.cache_store.specs.entry_after_reply.Stored.{prefixed}
use Rattle.walk_steps.specs.steps.Steps.{Caches, Core, Question, Rest, waits, ended, domain_named, domain_in_use, referral_in_use, is_in_use, name_asked, end_number}
use Rattle.walk_steps.specs.steps.Held.{caches_of, core_of, question_of}
use Rattle.walk_steps.specs.declared.steps.Kind.{Kind}
use Rattle.walk_steps.specs.declared.steps.Kind.TheVariants.{Dc, Root, Link, Sysvol, Io}
use Rattle.walk_steps.specs.declared.steps.End.{End}
use Rattle.walk_steps.specs.declared.steps.Asking.{Asking}
use Rattle.walk_steps.specs.declared.steps.Next.{Next}
use Rattle.walk_steps.specs.declared.steps.Next.TheVariants.{Asks, Ends}
use Rattle.walk_steps.proofs.steps.HeldLaws.{none_held, key_held}
use Rattle.walk_steps.proofs.steps.StepLaws.{host_is}
use Rattle.walk_steps.specs.question_request.Code.{name_units, next_units}
use Rattle.walk_steps.specs.rounds.Code.{dcs_named, targets_under, in_round}
use Rattle.walk_steps.proofs.rounds.RoundLaws.{place_named, dcs_fit, dcs_held, targets_fit, targets_held, in_use_same, in_use_root, in_use_sysvol, in_use_link, in_use_io}
use Rattle.walk_form.specs.held.Walks.{in_form, next_in_form, path_in, tried_in, boot_in}
use Rattle.walk_form.specs.declared.held.Walk.{Walk}
use Rattle.walk_form.proofs.held.FormLaws.{Formed, form_told, Waiting, waiting_told, link_named, io_named, dc_named, sysvol_named, root_named}
use Rattle.walk_form.specs.packed.Packing.{kind_number}
use Rattle.walk_form.specs.held.Walks.{core_in}
use Rattle.walk_calls.specs.calls.Calls.{rest_in, rest_at}
use Rattle.walk_calls.specs.resting.Code.{walk_question, walk_end}
use Rattle.walk_calls.proofs.resting.RestingLaws.{question_none, end_none}
use Rattle.walk_shown.specs.question.Shown.{Given, given, shows, shows_some, dc_at_place, target_at_place, party_of, party_text, question_shown, end_path, end_shown}
use Rattle.walk_shown.specs.question.Code.{root_party, Showable}
use Rattle.walk_shown.specs.question.Shown.{party_at, party_call, name_at, name_call, path_at, path_call, question_at, question_call, end_at, end_call}
use Rattle.walk_shown.specs.declared.question.ShowError.TheVariants.{NotInOrder, OutOfForm, ShortBuffer, NoEntry}

-- a text put into the buffer
module _ (text out : List ℕ) where
  pub put_short : length out < length text → given (Err ShortBuffer) out ≡ shows text out
  unfolding shows
  put_short h = sym (choose_no _ _ (lt-leb (length text) (length out) h))

  pub put_whole : {o : List ℕ} → length text ≤ length out → o ≡ pasted out 0 text → given (Ok (length text)) o ≡ shows text out
  unfolding shows
  put_whole h e = (λ j. given (Ok (length text)) (e j)) ∙ sym (choose_yes _ _ (le-leb (length text) (length out) h))

pub shows_as : (out : List ℕ) {g : Given} {a b : List ℕ} → g ≡ shows a out → a ≡ b → g ≡ shows b out
shows_as out h e = h ∙ ap (λ (t : List ℕ). shows t out) e

pub some_as : (out : List ℕ) {g : Given} {a b : Option (List ℕ)} → g ≡ shows_some a out → a ≡ b → g ≡ shows_some b out
some_as out h e = h ∙ ap (λ (t : Option (List ℕ)). shows_some t out) e

-- a text of a place fits its room
text_short : (j : ℕ) (piece : List ℕ) → length (text_at j piece) ≤ 256
unfolding text_at room_at part
text_short j piece = simp (length-take, length-take) (omega arith)

-- a DC of the path's domain
module _ (path doms : List ℕ) (place : ℕ) (out : List ℕ) {name : List ℕ} {f : Option ℕ} (n : name ≡ get_or (components path) 0 [])
    (e : f ≡ with_key domains name (decode domains doms)) where
  named_found : f ≡ with_key domains (get_or (components path) 0 []) (decode domains doms)
  named_found = place_named path doms n e

  pub dc_gone : f ≡ None → given (Err NoEntry) out ≡ shows_some (dc_at_place place (domain_named (get_or (components path) 0 []) (decode domains doms))) out
  unfolding shows_some dc_at_place domain_named
  dc_gone h = ap (λ (d : Option Domain). shows_some (dc_at_place place d) out) (sym (none_held (decode domains doms) (sym named_found ∙ h)))

  module _ (i : ℕ) (h : f ≡ Some i) where
    pub dc_fits : place < dcs_named path doms → (i < place_count doms) × (place < length (entry_at domains i doms).dcs)
    dc_fits l =
        let k : length (entry_at domains i doms).dcs ≡ dcs_named path doms = dcs_held path doms named_found i h refl in
        (dcs_fit path doms named_found i h, omega arith)

    pub dc_short : {t : List ℕ} → place < dcs_named path doms → t ≡ dc_name place (entry_at domains i doms) → length t ≤ 256
    dc_short l g =
        let z : length (text_at (1 + place) (place_at i doms)) ≡ length (dc_name place (entry_at domains i doms)) = ap length (read_dc doms i place refl (dc_fits l).1) in
        omega (arith, ap length g, text_short (1 + place) (place_at i doms))

    pub dc_put : {g : Given} {t : List ℕ} → t ≡ dc_name place (entry_at domains i doms) → g ≡ shows t out
        → g ≡ shows_some (dc_at_place place (domain_named (get_or (components path) 0 []) (decode domains doms))) out
    unfolding shows_some dc_at_place domain_named
    dc_put k g =
        shows_as out g k
        ∙ ap (λ (d : Option Domain). shows_some (dc_at_place place d) out) (sym (key_held domains (get_or (components path) 0 []) doms i (sym named_found ∙ h)))

-- a target of the entry of a prefix
module _ (prefix refs : List ℕ) (place : ℕ) (out : List ℕ) {f : Option ℕ} (e : f ≡ with_key referrals prefix (decode referrals refs)) where
  pub target_gone : f ≡ None → given (Err NoEntry) out ≡ shows_some (target_at_place place (prefixed prefix (decode referrals refs))) out
  unfolding shows_some target_at_place prefixed
  target_gone h = ap (λ (d : Option Referral). shows_some (target_at_place place d) out) (sym (none_held (decode referrals refs) (sym e ∙ h)))

  module _ (i : ℕ) (h : f ≡ Some i) where
    pub target_fits : place < targets_under prefix refs → (i < place_count refs) × (place < length (entry_at referrals i refs).targets)
    target_fits l =
        let k : length (entry_at referrals i refs).targets ≡ targets_under prefix refs = targets_held prefix refs e i h refl in
        (targets_fit prefix refs e i h, omega arith)

    pub target_short : {t : List ℕ} → place < targets_under prefix refs → t ≡ target_path place (entry_at referrals i refs) → length t ≤ 256
    target_short l g =
        let z : length (text_at (1 + place) (place_at i refs)) ≡ length (target_path place (entry_at referrals i refs)) = ap length (read_target refs i place refl (target_fits l).1) in
        omega (arith, ap length g, text_short (1 + place) (place_at i refs))

    pub target_put : {g : Given} {t : List ℕ} → t ≡ target_path place (entry_at referrals i refs) → g ≡ shows t out
        → g ≡ shows_some (target_at_place place (prefixed prefix (decode referrals refs))) out
    unfolding shows_some target_at_place prefixed
    target_put k g =
        shows_as out g k
        ∙ ap (λ (d : Option Referral). shows_some (target_at_place place d) out) (sym (key_held referrals prefix refs i (sym e ∙ h)))

-- the host
pub host_short : (path : List ℕ) {t : List ℕ} → good_prefix path ≡ true → t ≡ get_or (components path) 0 [] → length t ≤ 256
host_short path {t} good e =
    let k : length path ≤ 256 = prefix_short path good in
    let z : length (take (length (first_of 1 path) - 1) (drop 1 path)) ≡ length t = ap length (host_is path good refl ∙ sym e) in
    omega (arith, length-take (length (first_of 1 path) - 1) (drop 1 path), length-drop 1 path)

-- the party of a root request
module _ (entry place : ℕ) (path doms out : List ℕ) {g : Given} where
  pub root_host : {t : List ℕ} → entry ≡ 0 → t ≡ get_or (components path) 0 [] → g ≡ shows t out → g ≡ shows_some (root_party entry place path doms) out
  unfolding root_party shows_some
  root_host h e k = shows_as out k e ∙ ap (λ (t : Option (List ℕ)). shows_some t out) (sym (choose_yes _ _ (eq-eqb entry 0 h)))

  pub root_dc : (entry ≡ 0 → ⊥) → g ≡ shows_some (dc_at_place place (domain_named (get_or (components path) 0 []) (decode domains doms))) out
      → g ≡ shows_some (root_party entry place path doms) out
  unfolding root_party
  root_dc h k = some_as out k (sym (choose_no _ _ (ne_eqb entry 0 h)))

-- the party, by the kind
module _ (refs doms path boot : List ℕ) (q : Asking) where
  party_by : Kind → Option (List ℕ)
  party_by k =
      party_of (caches_of refs doms) (core_of path 0 true) boot
      (record { kind = k; entry = q.entry; party = q.party; began = q.began; size = q.size; tried = []; uncovered = q.uncovered })

  kinded : {k : Kind} → q.kind ≡ k → party_by k ≡ party_of (caches_of refs doms) (core_of path 0 true) boot (question_of q [])
  unfolding question_of party_by
  kinded h = ap party_by (sym h)

  module _ (out : List ℕ) {g : Given} where
    pub party_dc : q.kind ≡ Dc → g ≡ shows boot out → g ≡ shows_some (party_of (caches_of refs doms) (core_of path 0 true) boot (question_of q [])) out
    unfolding party_by party_of shows_some
    party_dc k e = some_as out {a = Some boot} e (kinded k)

    pub party_root : q.kind ≡ Root → g ≡ shows_some (root_party q.entry q.party path doms) out
        → g ≡ shows_some (party_of (caches_of refs doms) (core_of path 0 true) boot (question_of q [])) out
    unfolding party_by party_of root_party domain_in_use caches_of
    party_root k e = some_as out e (kinded k)

    pub party_sysvol : q.kind ≡ Sysvol → g ≡ shows_some (dc_at_place q.party (domain_named (get_or (components path) 0 []) (decode domains doms))) out
        → g ≡ shows_some (party_of (caches_of refs doms) (core_of path 0 true) boot (question_of q [])) out
    unfolding party_by party_of domain_in_use caches_of
    party_sysvol k e = some_as out e (kinded k)

    pub party_link : q.kind ≡ Link → g ≡ shows_some (target_at_place q.party (prefixed (take q.entry path) (decode referrals refs))) out
        → g ≡ shows_some (party_of (caches_of refs doms) (core_of path 0 true) boot (question_of q [])) out
    unfolding party_by party_of referral_in_use caches_of
    party_link k e = some_as out e (kinded k)

    pub party_io : q.kind ≡ Io → g ≡ shows_some (target_at_place q.party (prefixed (take q.entry path) (decode referrals refs))) out
        → g ≡ shows_some (party_of (caches_of refs doms) (core_of path 0 true) boot (question_of q [])) out
    unfolding party_by party_of referral_in_use caches_of
    party_io k e = some_as out e (kinded k)

  -- a question whose entry in use is there has its party
  module _ (a : Showable refs doms path boot q) where
    in_round_lem : {n : ℕ} → in_round n q.party q.began ≡ is_in_use (caches_of refs doms) (core_of path 0 true) (question_of q []) → q.party < n
    unfolding in_round
    in_round_lem {n} e = ltb-true q.party n (and_left _ _ (e ∙ a.there))

    pub dc_there : q.kind ≡ Sysvol → q.party < dcs_named path doms
    dc_there k = in_round_lem (in_use_sysvol refs doms path q refl k refl)

    pub link_there : q.kind ≡ Link → q.party < targets_under (take q.entry path) refs
    link_there k = in_round_lem (in_use_link refs doms path q refl k refl)

    pub io_there : q.kind ≡ Io → q.party < targets_under (take q.entry path) refs
    io_there k = in_round_lem (in_use_io refs doms path q refl k refl)

    pub root_there : q.kind ≡ Root → (q.entry ≡ 0 → ⊥) → q.party < dcs_named path doms
    unfolding in_round
    root_there k h =
        let e : (eqb q.entry 0 || in_round (dcs_named path doms) q.party q.began) ≡ true = in_use_root refs doms path q k refl ∙ a.there in
        ltb-true q.party (dcs_named path doms) (and_left _ _ (rw (ne_eqb q.entry 0 h) at e))

-- the test of end 27
module _ (c : Caches) (w : Core) (boot : List ℕ) (q : Question) (out : List ℕ) {b : Bool} (e : b ≡ is_in_use c w q) where
  pub waiting_gone : b ≡ false → given (Err NoEntry) out ≡ shows_some (party_text c w boot q) out
  unfolding party_text shows_some
  waiting_gone h = ap (λ (t : Option (List ℕ)). shows_some t out) (sym (choose_no _ _ (sym e ∙ h)))

  pub waiting_there : {g : Given} → b ≡ true → g ≡ shows_some (party_of c w boot q) out → g ≡ shows_some (party_text c w boot q) out
  unfolding party_text
  waiting_there h k = some_as out k (sym (choose_yes _ _ (sym e ∙ h)))

-- the party does not depend on the size, the hit and the path tried
party_same : (c : Caches) (path boot : List ℕ) (size more : ℕ) (hit other : Bool) (q : Asking) (tried others : List ℕ)
    → party_of c (core_of path size hit) boot (question_of q tried) ≡ party_of c (core_of path more other) boot (question_of q others)
unfolding party_of question_of domain_in_use referral_in_use
party_same c path boot size more hit other q tried others = go q.kind
  where
    at : Kind → ℕ → Bool → List ℕ → Option (List ℕ)
    at k s h t =
        party_of c (core_of path s h) boot (record { kind = k; entry = q.entry; party = q.party; began = q.began; size = q.size; tried = t; uncovered = q.uncovered })

    go : (k : Kind) → at k size hit tried ≡ at k more other others
    go Dc = refl
    go Root = refl
    go Link = refl
    go Sysvol = refl
    go Io = refl

text_same : (c : Caches) (path boot : List ℕ) (size more : ℕ) (hit other : Bool) (q : Asking) (tried others : List ℕ)
    → party_text c (core_of path size hit) boot (question_of q tried) ≡ party_text c (core_of path more other) boot (question_of q others)
unfolding party_text
text_same c path boot size more hit other q tried others =
    λ j. choose (in_use_same c path size more hit other q tried others j) (party_same c path boot size more hit other q tried others j) None

-- the name asked
module _ (path tried out : List ℕ) (q : Asking) where
  name_by : Kind → List ℕ
  name_by k =
      name_asked (core_of path 0 true) (record { kind = k; entry = q.entry; party = q.party; began = q.began; size = q.size; tried = tried; uncovered = q.uncovered })

  first_is : (n : ℕ) (k : Kind) → name_units k path ≡ Some n → take n path ≡ name_by k
  unfolding name_units name_by name_asked
  first_is n Dc h = let e : n ≡ length (first_of 1 path) = cc in ap (λ (x : ℕ). take x path) e ∙ (spans 1 path).begin
  first_is n Root h = let e : n ≡ length (first_of 2 path) = cc in ap (λ (x : ℕ). take x path) e ∙ (spans 2 path).begin
  first_is n Link h = let e : n ≡ length path = cc in take_all n path (omega arith)
  first_is n Sysvol h = let e : n ≡ length (first_of 2 path) = cc in ap (λ (x : ℕ). take x path) e ∙ (spans 2 path).begin
  first_is n Io h = absurd (let z : ◌≡◌ {A = ℕ} 0 1 = cc in omega arith)

  absent_is : (k : Kind) → name_units k path ≡ None → tried ≡ name_by k
  unfolding name_units name_by name_asked
  absent_is Dc h = absurd (let z : ◌≡◌ {A = ℕ} 0 1 = cc in omega arith)
  absent_is Root h = absurd (let z : ◌≡◌ {A = ℕ} 0 1 = cc in omega arith)
  absent_is Link h = absurd (let z : ◌≡◌ {A = ℕ} 0 1 = cc in omega arith)
  absent_is Sysvol h = absurd (let z : ◌≡◌ {A = ℕ} 0 1 = cc in omega arith)
  absent_is Io h = refl

  module _ {r : Option ℕ} (e : r ≡ next_units (Asks q) path) {g : Given} where
    pub name_first : (n : ℕ) → r ≡ Some n → g ≡ shows (take n path) out → g ≡ shows (name_asked (core_of path 0 true) (question_of q tried)) out
    unfolding next_units name_by question_of
    name_first n h k = shows_as out k (first_is n q.kind (sym e ∙ h))

    pub name_tried : r ≡ None → g ≡ shows tried out → g ≡ shows (name_asked (core_of path 0 true) (question_of q tried)) out
    unfolding next_units name_by question_of
    name_tried h k = shows_as out k (absent_is q.kind (sym e ∙ h))

pub first_short : (n : ℕ) (path : List ℕ) → length path ≤ 256 → length (take n path) ≤ 256
first_short n path l = simp length-take (omega arith)

name_same : (path : List ℕ) (size more : ℕ) (hit other : Bool) (q : Asking) (tried : List ℕ)
    → name_asked (core_of path size hit) (question_of q tried) ≡ name_asked (core_of path more other) (question_of q tried)
unfolding name_asked question_of
name_same path size more hit other q tried = go q.kind
  where
    at : Kind → ℕ → Bool → List ℕ
    at k s h =
        name_asked (core_of path s h) (record { kind = k; entry = q.entry; party = q.party; began = q.began; size = q.size; tried = tried; uncovered = q.uncovered })

    go : (k : Kind) → at k size hit ≡ at k more other
    go Dc = refl
    go Root = refl
    go Link = refl
    go Sysvol = refl
    go Io = refl

-- where a walk that is held rests
module _ (w : Walk) (texts : List ℕ) where
  rest_waits : (q : Asking) → w.next ≡ Asks q → waits (question_of q (tried_in w texts)) ≡ rest_in w texts
  unfolding rest_in rest_at
  rest_waits q h = ap (rest_at (tried_in w texts)) (sym h)

  rest_ended : (e : End) (s : ℕ) → w.next ≡ Ends e s → ended e s (tried_in w texts) ≡ rest_in w texts
  unfolding rest_in rest_at
  rest_ended e s h = ap (rest_at (tried_in w texts)) (sym h)

-- a text that is lent as a part
pub part_as : (at n : ℕ) (d : List ℕ) → take (at + n - at) (drop at d) ≡ take n (drop at d)
part_as at n d = let z : at + n - at ≡ n = omega arith in ap (λ (k : ℕ). take k (drop at d)) z

-- the bounds of the texts of a walk in form
module _ (w : Walk) (texts : List ℕ) {b : Bool} (e : b ≡ in_form w texts) (h : b ≡ true) where
  formed : Formed w texts
  formed = form_told w texts (sym e ∙ h)

  pub path_ends : w.path ≡ length (take w.path texts)
  unfolding path_in
  path_ends = sym formed.path_length

  pub path_few : length (take w.path texts) ≤ 256
  unfolding path_in
  path_few = omega (arith, formed.path_length, formed.path_most)

  pub tried_within : 256 + w.tried ≤ length texts
  tried_within = omega (arith, formed.long, formed.tried_most)

  pub tried_few : length (take (256 + w.tried - 256) (drop 256 texts)) ≤ 256
  unfolding tried_in
  tried_few = omega (arith, ap length (part_as 256 w.tried texts), formed.tried_length, formed.tried_most)

  pub boot_within : 512 + w.boot ≤ length texts
  boot_within = omega (arith, formed.long, formed.boot_most)

  pub boot_few : length (take (512 + w.boot - 512) (drop 512 texts)) ≤ 256
  unfolding boot_in
  boot_few = omega (arith, ap length (part_as 512 w.boot texts), formed.boot_length, formed.boot_most)

  module _ (q : Asking) (n : w.next ≡ Asks q) where
    waiting : Waiting (take w.path texts) (take w.tried (drop 256 texts)) q
    unfolding path_in tried_in
    waiting = waiting_told _ _ q (ap (λ (x : Next). next_in_form' x) (sym n) ∙ formed.next)
      where
        next_in_form' : Next → Bool
        next_in_form' x = next_in_form (path_in w texts) (tried_in w texts) x

    pub waiting_good : good_prefix (take w.path texts) ≡ true
    waiting_good = waiting.good

    entry_by : (k : Kind) → q.kind ≡ k → q.entry ≤ length (take w.path texts)
    entry_by Dc k = omega (arith, dc_named waiting k, (spans 1 (take w.path texts)).inside)
    entry_by Root k = go (root_named waiting k)
      where
        go : ((q.entry ≡ 0) × ((q.party ≡ 0) × (q.began ≡ 0))) ⊎ (q.entry ≡ length (first_of 1 (take w.path texts))) → q.entry ≤ length (take w.path texts)
        go (inl t) = omega (arith, t.0)
        go (inr t) = omega (arith, t, (spans 1 (take w.path texts)).inside)
    entry_by Link k = (link_named waiting k).within
    entry_by Sysvol k = omega (arith, sysvol_named waiting k, (spans 1 (take w.path texts)).inside)
    entry_by Io k = (io_named waiting k).within

    pub waiting_entry : q.entry ≤ length (take w.path texts)
    waiting_entry = entry_by q.kind refl

-- the calls, by their tests
module _ (refs doms : List ℕ) (w : Walk) (texts out : List ℕ) where
  module _ {a : Bool} (e : a ≡ (in_order referrals refs && in_order domains doms)) where
    pub party_order : a ≡ false → given (Err NotInOrder) out ≡ party_call refs doms w texts out
    unfolding party_call
    party_order h = sym (choose_no _ _ (sym e ∙ h))

    module _ (y : a ≡ true) {b : Bool} (f : b ≡ in_form w texts) where
      pub party_form : b ≡ false → given (Err OutOfForm) out ≡ party_call refs doms w texts out
      unfolding party_call
      party_form h = sym (choose_yes _ _ (sym e ∙ y) ∙ choose_no _ _ (sym f ∙ h))

      module _ (h : b ≡ true) where
        formed_party : party_call refs doms w texts out ≡ party_at (caches_of refs doms) (core_in w texts) (boot_in w texts) (rest_in w texts) out
        unfolding party_call
        formed_party = choose_yes _ _ (sym e ∙ y) ∙ choose_yes _ _ (sym f ∙ h)

        pub party_ended : (x : End) (s : ℕ) → w.next ≡ Ends x s → given (Err OutOfForm) out ≡ party_call refs doms w texts out
        unfolding party_at
        party_ended x s n =
            ap (λ (r : Rest). party_at (caches_of refs doms) (core_in w texts) (boot_in w texts) r out) (rest_ended w texts x s n) ∙ sym formed_party

        pub party_shown : (q : Asking) {g : Given} → w.next ≡ Asks q
            → g ≡ shows_some (party_text (caches_of refs doms) (core_of (take w.path texts) 0 true) (take (512 + w.boot - 512) (drop 512 texts)) (question_of q [])) out
            → g ≡ party_call refs doms w texts out
        unfolding party_at question_shown core_in path_in boot_in
        party_shown q n k =
            some_as out
            (some_as out k (ap (λ (b : List ℕ). party_text (caches_of refs doms) (core_of (take w.path texts) 0 true) b (question_of q [])) (part_as 512 w.boot texts)))
            (text_same (caches_of refs doms) (take w.path texts) (take w.boot (drop 512 texts)) 0 w.size true w.hit q [] (tried_in w texts))
            ∙ (ap (λ (r : Rest). party_at (caches_of refs doms) (core_in w texts) (boot_in w texts) r out) (rest_waits w texts q n) ∙ sym formed_party)

module _ (w : Walk) (texts out : List ℕ) {b : Bool} (f : b ≡ in_form w texts) where
  pub name_form : b ≡ false → given (Err OutOfForm) out ≡ name_call w texts out
  unfolding name_call
  name_form h = sym (choose_no _ _ (sym f ∙ h))

  pub path_form : b ≡ false → given (Err OutOfForm) out ≡ path_call w texts out
  unfolding path_call
  path_form h = sym (choose_no _ _ (sym f ∙ h))

  pub question_form : b ≡ false → given (Err OutOfForm) out ≡ question_call w texts out
  unfolding question_call
  question_form h = sym (choose_no _ _ (sym f ∙ h))

  pub end_form_lem : b ≡ false → given (Err OutOfForm) out ≡ end_call w texts out
  unfolding end_call
  end_form_lem h = sym (choose_no _ _ (sym f ∙ h))

  module _ (h : b ≡ true) where
    pub name_ended : (x : End) (s : ℕ) → w.next ≡ Ends x s → given (Err OutOfForm) out ≡ name_call w texts out
    unfolding name_call name_at
    name_ended x s n = ap (λ (r : Rest). name_at (core_in w texts) r out) (rest_ended w texts x s n) ∙ sym (choose_yes _ _ (sym f ∙ h))

    pub name_shown : (q : Asking) {g : Given} → w.next ≡ Asks q
        → g ≡ shows (name_asked (core_of (take w.path texts) 0 true) (question_of q (take (256 + w.tried - 256) (drop 256 texts)))) out → g ≡ name_call w texts out
    unfolding name_call name_at core_in path_in tried_in
    name_shown q n k =
        shows_as out
        (shows_as out k (ap (λ (t : List ℕ). name_asked (core_of (take w.path texts) 0 true) (question_of q t)) (part_as 256 w.tried texts)))
        (name_same (take w.path texts) 0 w.size true w.hit q (take w.tried (drop 256 texts)))
        ∙ (ap (λ (r : Rest). name_at (core_in w texts) r out) (rest_waits w texts q n) ∙ sym (choose_yes _ _ (sym f ∙ h)))

    pub path_waits : (q : Asking) → w.next ≡ Asks q → given (Err OutOfForm) out ≡ path_call w texts out
    unfolding path_call path_at
    path_waits q n = ap (λ (r : Rest). path_at (core_in w texts) w.moves r out) (rest_waits w texts q n) ∙ sym (choose_yes _ _ (sym f ∙ h))

    pub path_shown : (x : End) (s : ℕ) {g : Given} → w.next ≡ Ends x s → g ≡ shows (end_path x (take w.path texts) (take (256 + w.tried - 256) (drop 256 texts))) out → g ≡ path_call w texts out
    unfolding path_call path_at end_shown core_in path_in tried_in
    path_shown x s n k =
        shows_as out k (ap (end_path x (take w.path texts)) (part_as 256 w.tried texts))
        ∙ (ap (λ (r : Rest). path_at (core_in w texts) w.moves r out) (rest_ended w texts x s n) ∙ sym (choose_yes _ _ (sym f ∙ h)))

    pub question_ended : (x : End) (s : ℕ) → w.next ≡ Ends x s → given (Err OutOfForm) out ≡ question_call w texts out
    unfolding question_call question_at
    question_ended x s n = ap (λ (r : Rest). question_at w.moves r out) (rest_ended w texts x s n) ∙ sym (choose_yes _ _ (sym f ∙ h))

    pub question_shown_lem : (q : Asking) {k : ℕ} {g : Given} → w.next ≡ Asks q → k ≡ kind_number q.kind → g ≡ shows (k ∷ q.size ∷ w.moves ∷ []) out
        → g ≡ question_call w texts out
    unfolding question_call question_at question_of
    question_shown_lem q n k e =
        shows_as out e (λ j. k j ∷ q.size ∷ w.moves ∷ [])
        ∙ (ap (λ (r : Rest). question_at w.moves r out) (rest_waits w texts q n) ∙ sym (choose_yes _ _ (sym f ∙ h)))

    pub end_waits : (q : Asking) → w.next ≡ Asks q → given (Err OutOfForm) out ≡ end_call w texts out
    unfolding end_call end_at
    end_waits q n = ap (λ (r : Rest). end_at w.moves r out) (rest_waits w texts q n) ∙ sym (choose_yes _ _ (sym f ∙ h))

    pub end_shown_lem : (x : End) (s : ℕ) {k : ℕ} {g : Given} → w.next ≡ Ends x s → k ≡ end_number x → g ≡ shows (k ∷ s ∷ w.moves ∷ []) out → g ≡ end_call w texts out
    unfolding end_call end_at
    end_shown_lem x s n k e =
        shows_as out e (λ j. k j ∷ s ∷ w.moves ∷ [])
        ∙ (ap (λ (r : Rest). end_at w.moves r out) (rest_ended w texts x s n) ∙ sym (choose_yes _ _ (sym f ∙ h)))

-- no question waits, or the walk has not ended
pub party_unasked : (refs doms : List ℕ) (w : Walk) (texts out : List ℕ) {a : Bool} → a ≡ (in_order referrals refs && in_order domains doms) → a ≡ true
    → walk_question w texts ≡ None → given (Err OutOfForm) out ≡ party_call refs doms w texts out
party_unasked refs doms w texts out e y n = go (question_none w texts n)
  where
    go : (in_form w texts ≡ false) ⊎ ((in_form w texts ≡ true) × ((x : End) × ((s : ℕ) × (w.next ≡ Ends x s)))) → given (Err OutOfForm) out ≡ party_call refs doms w texts out
    go (inl f) = party_form refs doms w texts out e y refl f
    go (inr t) = party_ended refs doms w texts out e y refl t.0 t.1.0 t.1.1.0 t.1.1.1

module _ (w : Walk) (texts out : List ℕ) where
  pub name_unasked : walk_question w texts ≡ None → given (Err OutOfForm) out ≡ name_call w texts out
  name_unasked n = go (question_none w texts n)
    where
      go : (in_form w texts ≡ false) ⊎ ((in_form w texts ≡ true) × ((x : End) × ((s : ℕ) × (w.next ≡ Ends x s)))) → given (Err OutOfForm) out ≡ name_call w texts out
      go (inl f) = name_form w texts out refl f
      go (inr t) = name_ended w texts out refl t.0 t.1.0 t.1.1.0 t.1.1.1

  pub question_unasked : walk_question w texts ≡ None → given (Err OutOfForm) out ≡ question_call w texts out
  question_unasked n = go (question_none w texts n)
    where
      go : (in_form w texts ≡ false) ⊎ ((in_form w texts ≡ true) × ((x : End) × ((s : ℕ) × (w.next ≡ Ends x s)))) → given (Err OutOfForm) out ≡ question_call w texts out
      go (inl f) = question_form w texts out refl f
      go (inr t) = question_ended w texts out refl t.0 t.1.0 t.1.1.0 t.1.1.1

  pub path_unended : walk_end w texts ≡ None → given (Err OutOfForm) out ≡ path_call w texts out
  path_unended n = go (end_none w texts n)
    where
      go : (in_form w texts ≡ false) ⊎ ((in_form w texts ≡ true) × ((q : Asking) × (w.next ≡ Asks q))) → given (Err OutOfForm) out ≡ path_call w texts out
      go (inl f) = path_form w texts out refl f
      go (inr t) = path_waits w texts out refl t.0 t.1.0 t.1.1

  pub end_unended : walk_end w texts ≡ None → given (Err OutOfForm) out ≡ end_call w texts out
  end_unended n = go (end_none w texts n)
    where
      go : (in_form w texts ≡ false) ⊎ ((in_form w texts ≡ true) × ((q : Asking) × (w.next ≡ Asks q))) → given (Err OutOfForm) out ≡ end_call w texts out
      go (inl f) = end_form_lem w texts out refl f
      go (inr t) = end_waits w texts out refl t.0 t.1.0 t.1.1

-- three numbers
pub numbers_short : (a b c : ℕ) (out : List ℕ) → length out < 3 → given (Err ShortBuffer) out ≡ shows (a ∷ b ∷ c ∷ []) out
numbers_short a b c out h = put_short (a ∷ b ∷ c ∷ []) out h

pub numbers_put : (a b c : ℕ) (out : List ℕ) {m : List ℕ} → 3 ≤ length out → m ≡ a ∷ b ∷ c ∷ [] → given (Ok 3) (m ++ drop 3 out) ≡ shows (a ∷ b ∷ c ∷ []) out
unfolding shows pasted
numbers_put a b c out h e = ap (λ (x : List ℕ). given (Ok 3) (x ++ drop 3 out)) e ∙ sym (choose_yes _ _ (le-leb 3 (length out) h))
