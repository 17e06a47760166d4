-- Laws of the hint of the party that answered, by the kind of the question.
use Rattle.std.specs.Prelude.{Option, Some, None}
use mathlib.Core.Path.{◌≡◌, refl, sym, ap, ◌∙◌, subst}
use mathlib.Core.Bool.{Bool, true, ◌||◌}
use mathlib.Core.List.{List, []}
use mathlib.Core.Logic.{◌⊎◌, inl, inr}
use Prim.Native.Nat.{ℕ, ◌≤◌, ◌<◌}
use native.Mathlib.Omega.{arith}
use lib.ListN.{length, get_or, take}
use lib.Dec.{eqb, ltb}
use borrow.Author.Tests.{eq-eqb, ne_eqb, ltb-true}
use Rattle.laws.proofs.Choices.{choose_yes, choose_no, and_left}
use Rattle.laws.proofs.Tests.{eq_or_ne}
use Rattle.unc.specs.names.Paths.{components}
use Rattle.cache.specs.places.Layout.{place_count}
use Rattle.cache.specs.order.Order.{good_prefix}
use Rattle.cache.specs.order.Memory.{referrals, domains, decode, encode, in_order}
use Rattle.cache_lookup.specs.Lookup.{with_key, target_hinted, dc_hinted}
use Rattle.cache_lookup.specs.Code.{entry_at}
use Rattle.walk_steps.specs.steps.Steps.{Caches, Core, Question, with_referrals, with_domains, target_hint_set, dc_hint_set, hint_set, is_in_use}
use Rattle.walk_steps.specs.steps.Held.{caches_of, core_of, question_of}
use Rattle.walk_steps.specs.declared.steps.Kind.{Kind}
use Rattle.walk_steps.specs.declared.steps.Kind.TheVariants as kind
use Rattle.walk_steps.specs.declared.steps.Asking.{Asking}
use Rattle.walk_steps.specs.rounds.Code.{targets_under, dcs_named, in_round}
use Rattle.walk_steps.proofs.rounds.RoundLaws.{place_named, dcs_fit, dcs_held, targets_fit, targets_held, in_use_root, in_use_link, in_use_sysvol, in_use_io}
use Rattle.walk_store.specs.declared.party_hint.Hinted.{Hinted}
use Rattle.walk_store.specs.declared.party_hint.Hinted.TheVariants.{Unset, Target, Dc}
use Rattle.walk_store.specs.declared.party_hint.HintOf.{HintOf}
use Rattle.walk_store.specs.declared.party_hint.HintOf.TheVariants.{Nobody, Targets, Dcs}
use Rattle.walk_store.specs.party_hint.Code.{whose_of, lent_caches, unhinted, Unhintable, Hinting, Using}
use Rattle.walk_store.proofs.party_hint.HintLaws.{target_held, target_order, target_fits, target_below, target_back, dc_held, dc_order, dc_fits, dc_below, dc_back}

numbered : HintOf → ℕ
numbered Nobody = 0
numbered Targets = 1
numbered Dcs = 2

not_nobody_targets : {A : Type 0} → Nobody ≡ Targets → A
unfolding numbered
not_nobody_targets h = let z : ◌≡◌ {A = ℕ} 0 1 = ap numbered h in absurd (omega arith)

not_nobody_dcs : {A : Type 0} → Nobody ≡ Dcs → A
unfolding numbered
not_nobody_dcs h = let z : ◌≡◌ {A = ℕ} 0 2 = ap numbered h in absurd (omega arith)

not_targets_dcs : {A : Type 0} → Targets ≡ Dcs → A
unfolding numbered
not_targets_dcs h = let z : ◌≡◌ {A = ℕ} 1 2 = ap numbered h in absurd (omega arith)

hint_number : Hinted → ℕ
hint_number Unset = 0
hint_number (Target i old) = 1
hint_number (Dc i old) = 2

old_in : Hinted → ℕ
old_in Unset = 0
old_in (Target i old) = old
old_in (Dc i old) = old

at_place : Hinted → ℕ
at_place Unset = 0
at_place (Target i old) = i
at_place (Dc i old) = i

-- no hint was set
pub none_hinted : (refs doms : List ℕ) → Unhintable Unset refs doms
unfolding hint_number
none_hinted refs doms = record {
  of_target = λ i old h. absurd (let z : ◌≡◌ {A = ℕ} 0 1 = ap hint_number h in omega arith);
  of_dc = λ i old h. absurd (let z : ◌≡◌ {A = ℕ} 0 2 = ap hint_number h in omega arith);
}

nothing_set : (refs doms : List ℕ) {c : Caches} → in_order referrals refs ≡ true → in_order domains doms ≡ true → caches_of refs doms ≡ c → Hinting refs doms Unset refs doms c
unfolding unhinted
nothing_set refs doms o p e = record { caches = e; back = refl; refs_order = o; doms_order = p; able = none_hinted refs doms }

-- TargetHint of the entry in use
module _ (refs path : List ℕ) (q : Asking) (order : in_order referrals refs ≡ true) (party : q.party < targets_under (take q.entry path) refs) {g : Option ℕ}
    (e : g ≡ with_key referrals (take q.entry path) (decode referrals refs)) where
  pub target_none : g ≡ None → (doms : List ℕ) (size : ℕ) (hit : Bool) → in_order domains doms ≡ true
      → Hinting refs doms Unset refs doms (target_hint_set (caches_of refs doms) (core_of path size hit) (question_of q []))
  unfolding target_hint_set question_of caches_of
  target_none h doms size hit o = nothing_set refs doms order o (let z : with_key referrals (take q.entry path) (decode referrals refs) ≡ None = sym e ∙ h in rw z refl)

  module _ (i : ℕ) (h : g ≡ Some i) where
    pub link_fits : i < place_count refs
    link_fits = targets_fit (take q.entry path) refs e i h

    pub link_below : q.party < length (entry_at referrals i refs).targets
    link_below =
        let z : length (entry_at referrals i refs).targets ≡ targets_under (take q.entry path) refs = targets_held (take q.entry path) refs e i h refl in
        omega arith

    module _ {m : List ℕ} (a : m ≡ encode referrals (target_hinted i q.party (decode referrals refs))) {old : ℕ} (x : old ≡ (entry_at referrals i refs).hint) (doms : List ℕ) where
      target_able : Unhintable (Target i old) m doms
      unfolding hint_number old_in at_place
      target_able = record {
        of_target = λ j n h.
            subst (λ (k : Hinted). (in_order referrals m ≡ true) × ((at_place k < place_count m) × (old_in k < length (entry_at referrals (at_place k) m).targets))) h
            (target_order refs i q.party order link_fits link_below a, (target_fits refs i q.party order link_fits link_below a, target_below refs i q.party order link_fits link_below a x));
        of_dc = λ j n h. absurd (let z : ◌≡◌ {A = ℕ} 1 2 = ap hint_number h in omega arith);
      }

      set_is : (size : ℕ) (hit : Bool)
          → record { referrals = target_hinted i q.party (decode referrals refs); domains = decode domains doms } ≡ target_hint_set (caches_of refs doms) (core_of path size hit) (question_of q [])
      unfolding target_hint_set question_of caches_of with_referrals
      set_is size hit = let z : with_key referrals (take q.entry path) (decode referrals refs) ≡ Some i = sym e ∙ h in rw z refl

      pub target_set : (size : ℕ) (hit : Bool) → in_order domains doms ≡ true
          → Hinting refs doms (Target i old) m doms (target_hint_set (caches_of refs doms) (core_of path size hit) (question_of q []))
      unfolding unhinted caches_of
      target_set size hit o = record {
        caches = (λ j. record { referrals = target_held refs i q.party order link_fits link_below a j; domains = decode domains doms }) ∙ set_is size hit;
        back = λ j. lent_caches (target_back refs i q.party order link_fits link_below a x refl j) doms;
        refs_order = target_order refs i q.party order link_fits link_below a;
        doms_order = o;
        able = target_able;
      }

-- DCHint of the domain of the first component
module _ (doms path : List ℕ) (q : Asking) (order : in_order domains doms ≡ true) (party : q.party < dcs_named path doms) {name : List ℕ} (y : name ≡ get_or (components path) 0 []) {g : Option ℕ}
    (e : g ≡ with_key domains name (decode domains doms)) where
  named_is : g ≡ with_key domains (get_or (components path) 0 []) (decode domains doms)
  named_is = place_named path doms y e

  pub dc_none : g ≡ None → (refs : List ℕ) (size : ℕ) (hit : Bool) → in_order referrals refs ≡ true
      → Hinting refs doms Unset refs doms (dc_hint_set (caches_of refs doms) (core_of path size hit) q.party)
  unfolding dc_hint_set caches_of
  dc_none h refs size hit o =
      nothing_set refs doms o order (let z : with_key domains (get_or (components path) 0 []) (decode domains doms) ≡ None = sym named_is ∙ h in rw z refl)

  module _ (i : ℕ) (h : g ≡ Some i) where
    pub through_fits : i < place_count doms
    through_fits = dcs_fit path doms named_is i h

    pub through_below : q.party < length (entry_at domains i doms).dcs
    through_below = let z : length (entry_at domains i doms).dcs ≡ dcs_named path doms = dcs_held path doms named_is i h refl in omega arith

    module _ {m : List ℕ} (a : m ≡ encode domains (dc_hinted i q.party (decode domains doms))) {old : ℕ} (x : old ≡ (entry_at domains i doms).hint) (refs : List ℕ) where
      dc_able : Unhintable (Dc i old) refs m
      unfolding hint_number old_in at_place
      dc_able = record {
        of_target = λ j n h. absurd (let z : ◌≡◌ {A = ℕ} 2 1 = ap hint_number h in omega arith);
        of_dc = λ j n h.
            subst (λ (k : Hinted). (in_order domains m ≡ true) × ((at_place k < place_count m) × (old_in k < length (entry_at domains (at_place k) m).dcs))) h
            (dc_order doms i q.party order through_fits through_below a, (dc_fits doms i q.party order through_fits through_below a, dc_below doms i q.party order through_fits through_below a x));
      }

      through_is : (size : ℕ) (hit : Bool)
          → record { referrals = decode referrals refs; domains = dc_hinted i q.party (decode domains doms) } ≡ dc_hint_set (caches_of refs doms) (core_of path size hit) q.party
      unfolding dc_hint_set caches_of with_domains
      through_is size hit = let z : with_key domains (get_or (components path) 0 []) (decode domains doms) ≡ Some i = sym named_is ∙ h in rw z refl

      pub dc_set : (size : ℕ) (hit : Bool) → in_order referrals refs ≡ true → Hinting refs doms (Dc i old) refs m (dc_hint_set (caches_of refs doms) (core_of path size hit) q.party)
      unfolding unhinted caches_of
      dc_set size hit o = record {
        caches = (λ j. record { referrals = decode referrals refs; domains = dc_held doms i q.party order through_fits through_below a j }) ∙ through_is size hit;
        back = λ j. lent_caches refs (dc_back doms i q.party order through_fits through_below a x refl j);
        refs_order = o;
        doms_order = dc_order doms i q.party order through_fits through_below a;
        able = dc_able;
      }

-- the hint, by the kind of the question
module _ (c : Caches) (w : Core) (q : Asking) where
  asked : Kind → Question
  asked k = record { kind = k; entry = q.entry; party = q.party; began = q.began; size = q.size; tried = []; uncovered = q.uncovered }

  hint_kinded : {k : Kind} → q.kind ≡ k → hint_set c w (asked k) ≡ hint_set c w (question_of q [])
  unfolding question_of asked
  hint_kinded h = ap (λ (k : Kind). hint_set c w (asked k)) (sym h)

  target_kinded : {k : Kind} → q.kind ≡ k → target_hint_set c w (question_of q []) ≡ target_hint_set c w (asked k)
  unfolding question_of asked
  target_kinded h = ap (λ (k : Kind). target_hint_set c w (asked k)) h

  set_nobody : (k : Kind) → q.kind ≡ k → whose_of k q.entry ≡ Nobody → c ≡ hint_set c w (question_of q [])
  unfolding hint_set asked whose_of
  set_nobody kind.Dc h t = hint_kinded h
  set_nobody kind.Root h t = go (eq_or_ne q.entry 0)
    where
      go : (q.entry ≡ 0) ⊎ (q.entry ≡ 0 → ⊥) → c ≡ hint_set c w (question_of q [])
      go (inl z) = sym (choose_yes c (dc_hint_set c w q.party) (eq-eqb q.entry 0 z)) ∙ hint_kinded h
      go (inr z) = not_nobody_dcs (sym t ∙ choose_no Nobody Dcs (ne_eqb q.entry 0 z))
  set_nobody kind.Link h t = not_nobody_targets (sym t)
  set_nobody kind.Sysvol h t = not_nobody_dcs (sym t)
  set_nobody kind.Io h t = not_nobody_targets (sym t)

  set_targets : (k : Kind) → q.kind ≡ k → whose_of k q.entry ≡ Targets → target_hint_set c w (question_of q []) ≡ hint_set c w (question_of q [])
  unfolding hint_set asked whose_of
  set_targets kind.Dc h t = not_nobody_targets t
  set_targets kind.Root h t = go (eq_or_ne q.entry 0)
    where
      go : (q.entry ≡ 0) ⊎ (q.entry ≡ 0 → ⊥) → target_hint_set c w (question_of q []) ≡ hint_set c w (question_of q [])
      go (inl z) = not_nobody_targets (sym (choose_yes Nobody Dcs (eq-eqb q.entry 0 z)) ∙ t)
      go (inr z) = not_targets_dcs (sym t ∙ choose_no Nobody Dcs (ne_eqb q.entry 0 z))
  set_targets kind.Link h t = target_kinded h ∙ hint_kinded h
  set_targets kind.Sysvol h t = not_targets_dcs (sym t)
  set_targets kind.Io h t = target_kinded h ∙ hint_kinded h

  set_dcs : (k : Kind) → q.kind ≡ k → whose_of k q.entry ≡ Dcs → dc_hint_set c w q.party ≡ hint_set c w (question_of q [])
  unfolding hint_set asked whose_of
  set_dcs kind.Dc h t = not_nobody_dcs t
  set_dcs kind.Root h t = go (eq_or_ne q.entry 0)
    where
      go : (q.entry ≡ 0) ⊎ (q.entry ≡ 0 → ⊥) → dc_hint_set c w q.party ≡ hint_set c w (question_of q [])
      go (inl z) = not_nobody_dcs (sym (choose_yes Nobody Dcs (eq-eqb q.entry 0 z)) ∙ t)
      go (inr z) = sym (choose_no c (dc_hint_set c w q.party) (ne_eqb q.entry 0 z)) ∙ hint_kinded h
  set_dcs kind.Link h t = not_targets_dcs t
  set_dcs kind.Sysvol h t = hint_kinded h
  set_dcs kind.Io h t = not_targets_dcs t

-- the party is one of the entry in use
round_party : (n party began : ℕ) → in_round n party began ≡ true → party < n
unfolding in_round
round_party n party began h = ltb-true _ _ (and_left (ltb party n) _ h)

module _ (refs doms path : List ℕ) (q : Asking) (u : is_in_use (caches_of refs doms) (core_of path 0 true) (question_of q []) ≡ true) where
  targets_party : (k : Kind) → q.kind ≡ k → whose_of k q.entry ≡ Targets → q.party < targets_under (take q.entry path) refs
  unfolding whose_of
  targets_party kind.Dc h t = not_nobody_targets t
  targets_party kind.Root h t = go (eq_or_ne q.entry 0)
    where
      go : (q.entry ≡ 0) ⊎ (q.entry ≡ 0 → ⊥) → q.party < targets_under (take q.entry path) refs
      go (inl z) = not_nobody_targets (sym (choose_yes Nobody Dcs (eq-eqb q.entry 0 z)) ∙ t)
      go (inr z) = not_targets_dcs (sym t ∙ choose_no Nobody Dcs (ne_eqb q.entry 0 z))
  targets_party kind.Link h t =
      round_party _ _ q.began (in_use_link refs doms path q {r = in_round (targets_under (take q.entry path) refs) q.party q.began} refl h refl ∙ u)
  targets_party kind.Sysvol h t = not_targets_dcs (sym t)
  targets_party kind.Io h t =
      round_party _ _ q.began (in_use_io refs doms path q {r = in_round (targets_under (take q.entry path) refs) q.party q.began} refl h refl ∙ u)

  dcs_party : (k : Kind) → q.kind ≡ k → whose_of k q.entry ≡ Dcs → q.party < dcs_named path doms
  unfolding whose_of
  dcs_party kind.Dc h t = not_nobody_dcs t
  dcs_party kind.Root h t = go (eq_or_ne q.entry 0)
    where
      go : (q.entry ≡ 0) ⊎ (q.entry ≡ 0 → ⊥) → q.party < dcs_named path doms
      go (inl z) = not_nobody_dcs (sym (choose_yes Nobody Dcs (eq-eqb q.entry 0 z)) ∙ t)
      go (inr z) =
          round_party _ _ q.began
          (sym (ap (λ (b : Bool). b || in_round (dcs_named path doms) q.party q.began) (ne_eqb q.entry 0 z))
          ∙ (in_use_root refs doms path q {r = eqb q.entry 0 || in_round (dcs_named path doms) q.party q.began} h refl ∙ u))
  dcs_party kind.Link h t = not_targets_dcs t
  dcs_party kind.Sysvol h t =
      round_party _ _ q.began (in_use_sysvol refs doms path q {r = in_round (dcs_named path doms) q.party q.began} refl h refl ∙ u)
  dcs_party kind.Io h t = not_targets_dcs t

-- the hint set
module _ (refs doms path : List ℕ) (q : Asking) (u : Using refs doms path q) {k : HintOf} (e : k ≡ whose_of q.kind q.entry) where
  pub nobody_set : k ≡ Nobody → (size : ℕ) (hit : Bool) → Hinting refs doms Unset refs doms (hint_set (caches_of refs doms) (core_of path size hit) (question_of q []))
  nobody_set h size hit = nothing_set refs doms u.refs_order u.doms_order (set_nobody (caches_of refs doms) (core_of path size hit) q q.kind refl (sym e ∙ h))

  pub targets_wanted : k ≡ Targets → (in_order referrals refs ≡ true) × ((q.entry ≤ length path) × (q.party < targets_under (take q.entry path) refs))
  targets_wanted h = (u.refs_order, (u.inside, targets_party refs doms path q (u.used 0 true) q.kind refl (sym e ∙ h)))

  pub targets_set : k ≡ Targets → {h : Hinted} {m : List ℕ}
      → ((then : List ℕ) (size : ℕ) (hit : Bool) → in_order domains then ≡ true → Hinting refs then h m then (target_hint_set (caches_of refs then) (core_of path size hit) (question_of q [])))
      → (size : ℕ) (hit : Bool) → Hinting refs doms h m doms (hint_set (caches_of refs doms) (core_of path size hit) (question_of q []))
  targets_set t {h} {m} f size hit =
      subst (Hinting refs doms h m doms) (set_targets (caches_of refs doms) (core_of path size hit) q q.kind refl (sym e ∙ t)) (f doms size hit u.doms_order)

  pub dcs_wanted : k ≡ Dcs → (in_order domains doms ≡ true) × ((good_prefix path ≡ true) × (q.party < dcs_named path doms))
  dcs_wanted h = (u.doms_order, (u.good, dcs_party refs doms path q (u.used 0 true) q.kind refl (sym e ∙ h)))

  pub dcs_set : k ≡ Dcs → {h : Hinted} {m : List ℕ}
      → ((then : List ℕ) (size : ℕ) (hit : Bool) → in_order referrals then ≡ true → Hinting then doms h then m (dc_hint_set (caches_of then doms) (core_of path size hit) q.party))
      → (size : ℕ) (hit : Bool) → Hinting refs doms h refs m (hint_set (caches_of refs doms) (core_of path size hit) (question_of q []))
  dcs_set t {h} {m} f size hit =
      subst (Hinting refs doms h refs m) (set_dcs (caches_of refs doms) (core_of path size hit) q q.kind refl (sym e ∙ t)) (f refs size hit u.refs_order)
