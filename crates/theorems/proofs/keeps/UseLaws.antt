-- The entry that a question uses is there when the question is put: what the steps call for never meets end 27 in the caches that the call leaves.
use Rattle.std.specs.Prelude.{Option, None, Some}
use mathlib.Core.Path.{◌≡◌, refl, sym, ap, ◌∙◌, subst}
use mathlib.Core.Bool.{Bool, true, false, ◌&&◌, ◌||◌, not}
use mathlib.Core.List.{List, []}
use mathlib.Core.Logic.{◌⊎◌, inl, inr}
use Prim.Native.Nat.{ℕ, zero, suc, ◌<◌}
use native.Mathlib.Omega.{arith}
use lib.ListN.{length, get_or, take}
use lib.Dec.{leb, ltb, eqb}
use borrow.Author.Tests.{lt-ltb, ltb-true}
use Rattle.laws.proofs.Choices.{choose_no, and_both, or_right}
use Rattle.unc.specs.names.Paths.{components, first_of, is_sysvol, path_units}
use Rattle.cache.specs.order.Entries.{Referral, Domain}
use Rattle.cache.specs.order.Order.{good_referral, good_domain, good_dc_hint}
use Rattle.cache.specs.order.Memory.{referrals, domains}
use Rattle.cache.proofs.order.KindLaws.{referral_told, domain_told, referrals_lawful, domains_lawful}
use Rattle.cache_lookup.specs.Lookup.{with_key, longest_match, expired}
use Rattle.cache_lookup.proofs.LookupLaws.{KeyAt, key_found, LongestAt, longest_found}
use Rattle.cache_store.specs.entry_after_reply.Stored.{prefixed}
use Rattle.walk_steps.specs.steps.Steps.{Caches, Core, Question, Called, stops, asks, replaces, longest, domain_named, step2, step2_with, step3, step4, step5, step5_with, step5_domain, step6, step6_host, step7, step8, step9, step9_with, step10, dc_request, link_request, after_store}
use Rattle.walk_steps.specs.steps.Steps.{Turn, Resting, waits, ended, rests, asking, goes, turned, hit_at, with_hit, with_path, is_there, domain_in_use, referral_in_use, dc_count, target_count, party_count, is_in_use}
use Rattle.walk_steps.specs.declared.steps.Kind.{Kind}
use Rattle.walk_steps.specs.declared.steps.Kind.TheVariants.{Dc, Root, Link, Sysvol, Io}
use Rattle.walk_steps.specs.declared.steps.End.{End}
use Rattle.walk_steps.specs.declared.steps.End.TheVariants.{LimitReached, TooLong}
use Rattle.walk_steps.proofs.steps.HeldLaws.{none_held}
use Rattle.walk_steps.proofs.cycle.MoveLaws.{matches_same}
use Rattle.theorems.specs.keeps.Code.{GoodCaches}
use Rattle.theorems.proofs.keeps.PrefixLaws.{first_matches}
use Rattle.theorems.proofs.keeps.CacheLaws.{held_is, place_good, Equal, prefixed_or}
use Rattle.theorems.proofs.keeps.FoundLaws.{Under, under_path}
use Rattle.theorems.proofs.keeps.CalledLaws.{picked, chosen}
use Rattle.theorems.proofs.keeps.HintLaws.{kind_to}

-- the question that is called for, if one is, uses an entry that is there
unfoldable pub Uses : Caches → Core → Called → Type 0
Uses c w a = (q : Question) → a ≡ asks q → is_in_use c w q ≡ true

module _ (c : Caches) (w : Core) where
  pub uses_stops : (e : End) (status : ℕ) (tried : List ℕ) → Uses c w (stops e status tried)
  unfolding Uses
  uses_stops e status tried q h = absurd (let z : ◌≡◌ {A = ℕ} 0 1 = cc in omega arith)

  pub uses_new : (p : List ℕ) → Uses c w (replaces p)
  unfolding Uses
  uses_new p q h = absurd (let z : ◌≡◌ {A = ℕ} 0 1 = cc in omega arith)

  pub uses_asks : (q : Question) → is_in_use c w q ≡ true → Uses c w (asks q)
  unfolding Uses
  uses_asks q u x h = let z : q ≡ x = cc in ap (is_in_use c w) (sym z) ∙ u

-- the path alone decides which entry is in use
pub same_path : (c : Caches) (w v : Core) (q : Question) → w.path ≡ v.path → is_in_use c w q ≡ is_in_use c v q
unfolding is_in_use party_count domain_in_use referral_in_use
same_path c w v q e = go q.kind
  where
    dcs : List ℕ → ℕ
    dcs p = dc_count (domain_named (get_or (components p) 0 []) c.domains)

    targets : List ℕ → ℕ
    targets p = target_count (prefixed (take q.entry p) c.referrals)

    go : (k : Kind) → is_in_use c w (kind_to k q) ≡ is_in_use c v (kind_to k q)
    go Dc = λ i. is_there (domain_named (get_or (components (e i)) 0 []) c.domains)
    go Root = λ i. eqb q.entry 0 || (ltb q.party (dcs (e i)) && ltb q.began (dcs (e i)))
    go Link = λ i. ltb q.party (targets (e i)) && ltb q.began (targets (e i))
    go Sysvol = λ i. ltb q.party (dcs (e i)) && ltb q.began (dcs (e i))
    go Io = λ i. ltb q.party (targets (e i)) && ltb q.began (targets (e i))

pub uses_path : (c : Caches) (w v : Core) (a : Called) → w.path ≡ v.path → Uses c w a → Uses c v a
unfolding Uses
uses_path c w v a e u q h = sym (same_path c w v q e) ∙ u q h

in_round_lem : (n party began : ℕ) → party < n → began < n → (ltb party n && ltb began n) ≡ true
in_round_lem n party began a b = and_both (lt-ltb party n a) (lt-ltb began n b)

-- the questions of the steps
module _ (c : Caches) (w : Core) where
  use_host : is_in_use c w (step6_host w) ≡ true
  unfolding is_in_use step6_host
  use_host = refl

  pub use_root : (place began : ℕ) → place < dc_count (domain_in_use c w) → began < dc_count (domain_in_use c w) → is_in_use c w (step6 w place began) ≡ true
  unfolding is_in_use step6 party_count
  use_root place began a b = or_right (eqb (length (first_of 1 w.path)) 0) (in_round_lem (dc_count (domain_in_use c w)) place began a b)

  pub use_link : (entry place began : ℕ) (uncovered : Bool) (n : ℕ) → target_count (prefixed (take entry w.path) c.referrals) ≡ n → place < n → began < n
      → is_in_use c w (link_request w entry place began uncovered) ≡ true
  unfolding is_in_use link_request party_count referral_in_use
  use_link entry place began uncovered n e a b = ap (λ (m : ℕ). ltb place m && ltb began m) e ∙ in_round_lem n place began a b

  -- an I/O try at a target of an entry that is held under the path
  pub use_io : (e : Referral) (place began : ℕ) → prefixed (take (length e.prefix) w.path) c.referrals ≡ Some e → place < length e.targets
      → began < length e.targets → is_in_use c w (step8 w e place began) ≡ true
  unfolding is_in_use step8 party_count referral_in_use target_count
  use_io e place began h a b =
      ap (λ (o : Option Referral). ltb place (target_count o) && ltb began (target_count o)) h ∙ in_round_lem (length e.targets) place began a b

  use_refresh : (e : Referral) → good_referral e ≡ true → prefixed (take (length e.prefix) w.path) c.referrals ≡ Some e
      → is_in_use c w (link_request w (length e.prefix) e.hint e.hint false) ≡ true
  unfolding target_count
  use_refresh e well h = use_link (length e.prefix) e.hint e.hint false (length e.targets) (ap target_count h) (referral_told e well).hinted (referral_told e well).hinted

  use_hint : (e : Referral) → Under c.referrals w.path e → is_in_use c w (step3 w e) ≡ true
  unfolding step3
  use_hint e u = use_io e e.hint e.hint u.here (referral_told e u.well).hinted (referral_told e u.well).hinted

  -- steps 3, 4 and 7, and after a store
  use_step7 : (e : Referral) → Under c.referrals w.path e → Uses c w (step7 w e)
  unfolding step7 step4
  use_step7 e u =
      chosen (Uses c w) e.settings.root _ _ (uses_asks c w _ (use_hint e u))
      (chosen (Uses c w) (not (is_sysvol w.path) && e.settings.interlink) _ _ (uses_new c w _) (uses_asks c w _ (use_hint e u)))

  pub use_stored : (k : Kind) (e : Referral) → Under c.referrals w.path e → Uses c w (after_store k w e)
  unfolding after_store
  use_stored Dc e u = use_step7 e u
  use_stored Root e u = use_step7 e u
  use_stored Link e u = use_step7 e u
  use_stored Sysvol e u = uses_asks c w _ (use_hint e u)
  use_stored Io e u = use_step7 e u

  module _ (cs : GoodCaches c) where
    -- step 5
    domain_good : (d : Domain) → domain_named (get_or (components w.path) 0 []) c.domains ≡ Some d → good_domain d ≡ true
    unfolding domain_named
    domain_good d h = go (with_key domains (get_or (components w.path) 0 []) c.domains) refl
      where
        go : (f : Option ℕ) → with_key domains (get_or (components w.path) 0 []) c.domains ≡ f → good_domain d ≡ true
        go None g = absurd (let z : None ≡ Some d = sym (none_held c.domains g) ∙ h in let y : ◌≡◌ {A = ℕ} 0 1 = cc in omega arith)
        go (Some i) g =
            let b : KeyAt domains (get_or (components w.path) 0 []) c.domains i = key_found domains (get_or (components w.path) 0 []) c.domains i g in
            let z : Some b.entry ≡ Some d = sym (held_is c.domains i b.entry b.here g) ∙ h in
            let y : b.entry ≡ d = cc in
            ap good_domain (sym y) ∙ place_good domains domains_lawful c.domains cs.doms i b.entry b.here

    hinted : (d : Domain) → domain_named (get_or (components w.path) 0 []) c.domains ≡ Some d → eqb (length d.dcs) 0 ≡ false → d.hint < dc_count (domain_in_use c w)
    unfolding domain_in_use dc_count good_dc_hint
    hinted d h t =
        let u : d.hint < length d.dcs = ltb-true d.hint (length d.dcs) (sym (choose_no _ _ t) ∙ (domain_told d (domain_good d h)).hinted) in
        subst (λ (o : Option Domain). d.hint < dc_count o) (sym h) u

    use_dc : (d : Domain) → domain_named (get_or (components w.path) 0 []) c.domains ≡ Some d → is_in_use c w (dc_request w) ≡ true
    unfolding is_in_use dc_request domain_in_use is_there
    use_dc d h = ap is_there h

    use_sysvol : (d : Domain) → d.hint < dc_count (domain_in_use c w) → is_in_use c w (step10 w d) ≡ true
    unfolding is_in_use step10 party_count
    use_sysvol d u = in_round_lem (dc_count (domain_in_use c w)) d.hint d.hint u u

    pub use_step5 : is_in_use c w (step5 c.domains w) ≡ true
    unfolding step5 step5_with step5_domain
    use_step5 = go (domain_named (get_or (components w.path) 0 []) c.domains) refl
      where
        Fit : Question → Type 0
        Fit q = is_in_use c w q ≡ true

        go : (o : Option Domain) → domain_named (get_or (components w.path) 0 []) c.domains ≡ o → is_in_use c w (step5_with w o) ≡ true
        go None h = use_host
        go (Some d) h =
            picked Fit (eqb (length d.dcs) 0) _ _ (λ t. use_dc d h)
            (λ t. chosen Fit (is_sysvol w.path) _ _ (use_sysvol d (hinted d h t)) (use_root d.hint d.hint (hinted d h t) (hinted d h t)))

    -- steps 9 and 2
    use_step9 : is_in_use c w (step9 c w) ≡ true
    unfolding step9 step9_with
    use_step9 = go (prefixed_or c.referrals cs.refs (first_of 2 w.path))
      where
        Fit : Question → Type 0
        Fit q = is_in_use c w q ≡ true

        Fits : Option Referral → Type 0
        Fits o = is_in_use c w (step9_with c w o) ≡ true

        go : ((with_key referrals (first_of 2 w.path) c.referrals ≡ None) × (prefixed (first_of 2 w.path) c.referrals ≡ None))
            ⊎ ((e : Referral) × ((prefixed (first_of 2 w.path) c.referrals ≡ Some e) × Equal c.referrals cs.refs (first_of 2 w.path) e))
            → is_in_use c w (step9_with c w (prefixed (first_of 2 w.path) c.referrals)) ≡ true
        go (inl h) = subst Fits (sym h.1) use_step5
        go (inr h) =
            subst Fits (sym h.1.0)
            (chosen Fit h.0.settings.root _ _
            (use_refresh h.0 h.1.1.well
            (under_path c.referrals cs.refs w.path h.1.1.place h.0 h.1.1.here
            (matches_same h.0.prefix (first_of 2 w.path) w.path h.1.1.same (first_matches 2 w.path))))
            use_step5)

    pub use_step2 : (clock : ℕ) → Uses c w (step2 c w clock)
    unfolding step2 step2_with longest
    use_step2 clock = go (longest_match w.path c.referrals) refl
      where
        Fit : Question → Type 0
        Fit q = is_in_use c w q ≡ true

        Fits : Option Referral → Type 0
        Fits o = Uses c w (step2_with c w clock o)

        go : (f : Option ℕ) → longest_match w.path c.referrals ≡ f → Uses c w (step2_with c w clock (longest w.path c.referrals))
        go None h = subst Fits (sym (none_held c.referrals h)) (uses_asks c w _ use_step5)
        go (Some i) h =
            let b : LongestAt w.path c.referrals i = longest_found w.path c.referrals i h in
            subst Fits (sym (held_is c.referrals i b.entry b.found.here h))
            (chosen (Uses c w) (expired clock b.entry) _ _
            (uses_asks c w _ (chosen Fit b.entry.settings.root _ _ use_step5 use_step9))
            (use_step7 b.entry (record {
              well = place_good referrals referrals_lawful c.referrals cs.refs i b.entry b.found.here;
              here = under_path c.referrals cs.refs w.path i b.entry b.found.here b.found.matched;
            })))

-- where the steps rest, the question that waits uses an entry that is there
unfoldable pub RestUses : Caches → Resting → Type 0
RestUses c x = (q : Question) → x.rest ≡ waits q → is_in_use c x.core q ≡ true

module _ (c : Caches) (w : Core) where
  rests_end : (n : ℕ) (e : End) (status : ℕ) (tried : List ℕ) → RestUses c (rests w n (ended e status tried))
  unfolding RestUses rests
  rests_end n e status tried q h = absurd (let z : ◌≡◌ {A = ℕ} 0 1 = cc in omega arith)

  rests_asking : (n : ℕ) (q : Question) → is_in_use c w q ≡ true → RestUses c (rests w n (waits q))
  unfolding RestUses rests
  rests_asking n q u x h = let z : q ≡ x = cc in ap (is_in_use c w) (sym z) ∙ u

  asking_uses : (n : ℕ) (q : Question) → Uses c w (asks q) → RestUses c (asking n w q)
  unfolding asking Uses
  asking_uses zero q u = rests_end zero LimitReached 0 []
  asking_uses (suc n) q u = chosen (RestUses c) (leb (length q.tried) path_units) _ _ (rests_asking n q (u q refl)) (rests_end (suc n) TooLong 0 [])

goes_uses : (n : ℕ) (c : Caches) (clock : ℕ) (w : Core) (a : Called) → GoodCaches c → Uses c w a → RestUses c (goes n c clock w a)
unfolding goes with_hit
goes_uses zero c clock w (stops e status tried) cs u = rests_end c w zero e status tried
goes_uses zero c clock w (asks q) cs u = asking_uses c w zero q u
goes_uses zero c clock w (replaces p) cs u = rests_end c w zero LimitReached 0 []
goes_uses (suc n) c clock w (stops e status tried) cs u = rests_end c w (suc n) e status tried
goes_uses (suc n) c clock w (asks q) cs u = asking_uses c w (suc n) q u
goes_uses (suc n) c clock w (replaces p) cs u =
    chosen (RestUses c) (leb (length p) path_units) _ _
    (goes_uses n c clock (with_hit (hit_at c (with_path p w)) (with_path p w)) (step2 c (with_path p w) clock) cs
    (uses_path c (with_path p w) (with_hit (hit_at c (with_path p w)) (with_path p w)) _ refl (use_step2 c (with_path p w) cs clock)))
    (rests_end c w (suc n) TooLong 0 [])

-- after an event
pub turned_uses : (n clock : ℕ) (t : Turn) → GoodCaches t.caches → Uses t.caches t.core t.called → RestUses t.caches (turned n clock t)
unfolding turned
turned_uses n clock t cs u = goes_uses n t.caches clock t.core t.called cs u
