-- Laws of rounds: how many parties there are, and whether the entry in use has them.
use Rattle.std.specs.Prelude.{Option, Some, None}
use Rattle.std.specs.Option.{is_some}
use mathlib.Core.Path.{◌≡◌, refl, sym, ap, ◌∙◌}
use mathlib.Core.Bool.{Bool, true, false, ◌||◌}
use mathlib.Core.List.{List, []}
use Prim.Native.Nat.{ℕ, ◌≤◌, ◌<◌}
use native.Mathlib.Omega.{arith}
use lib.ListN.{length, get_or, take}
use lib.Dec.{ltb, eqb}
use borrow.Author.Tests.{lt-ltb, le-ltb}
use Rattle.unc.specs.names.Paths.{components}
use Rattle.cache.specs.places.Layout.{place_count}
use Rattle.cache.specs.order.Memory.{referrals, domains, decode}
use Rattle.cache_lookup.specs.Lookup.{with_key}
use Rattle.cache_lookup.specs.Code.{entry_at}
use Rattle.cache_lookup.proofs.EntryLaws.{count_targets, count_dcs}
use Rattle.cache_store.specs.entry_after_reply.Stored.{held, prefixed}
use Rattle.walk_steps.specs.steps.Steps.{Caches, domain_named, is_there, dc_count, target_count, domain_in_use, referral_in_use, party_count, is_in_use}
use Rattle.walk_steps.specs.steps.Held.{caches_of, core_of, question_of}
use Rattle.walk_steps.specs.declared.steps.Kind.{Kind}
use Rattle.walk_steps.specs.declared.steps.Kind.TheVariants.{Dc, Root, Link, Sysvol, Io}
use Rattle.walk_steps.specs.declared.steps.Asking.{Asking}
use Rattle.walk_steps.proofs.steps.HeldLaws.{none_held, key_held, key_fits}
use Rattle.walk_steps.specs.rounds.Code.{domain_there, dcs_named, targets_under, in_round}

-- the domain of the first component
pub place_named : (path raw : List ℕ) {name : List ℕ} {f : Option ℕ} → name ≡ get_or (components path) 0 [] → f ≡ with_key domains name (decode domains raw)
    → f ≡ with_key domains (get_or (components path) 0 []) (decode domains raw)
place_named path raw n e = e ∙ ap (λ (x : List ℕ). with_key domains x (decode domains raw)) n

module _ (path raw : List ℕ) {f : Option ℕ} (e : f ≡ with_key domains (get_or (components path) 0 []) (decode domains raw)) where
  pub there_gone : f ≡ None → false ≡ domain_there path raw
  unfolding domain_there domain_named is_there
  there_gone h = sym (ap is_there (none_held (decode domains raw) (sym e ∙ h)))

  pub dcs_gone : f ≡ None → 0 ≡ dcs_named path raw
  unfolding dcs_named domain_named dc_count
  dcs_gone h = sym (ap dc_count (none_held (decode domains raw) (sym e ∙ h)))

  module _ (i : ℕ) (h : f ≡ Some i) where
    pub there_held : true ≡ domain_there path raw
    unfolding domain_there domain_named is_there
    there_held = sym (ap is_there (key_held domains (get_or (components path) 0 []) raw i (sym e ∙ h)))

    pub dcs_fit : i < place_count raw
    dcs_fit = key_fits domains (get_or (components path) 0 []) raw i (sym e ∙ h)

    pub dcs_held : {n : ℕ} → n ≡ length (entry_at domains i raw).dcs → n ≡ dcs_named path raw
    unfolding dcs_named domain_named dc_count
    dcs_held g = g ∙ sym (ap dc_count (key_held domains (get_or (components path) 0 []) raw i (sym e ∙ h)))

-- there where a place was found
pub there_told : (path raw : List ℕ) (f : Option ℕ) → f ≡ with_key domains (get_or (components path) 0 []) (decode domains raw) → is_some f ≡ domain_there path raw
there_told path raw None e = there_gone path raw e refl
there_told path raw (Some i) e = there_held path raw e i refl

-- the entry of a prefix
module _ (prefix raw : List ℕ) {f : Option ℕ} (e : f ≡ with_key referrals prefix (decode referrals raw)) where
  pub targets_gone : f ≡ None → 0 ≡ targets_under prefix raw
  unfolding targets_under prefixed target_count
  targets_gone h = sym (ap target_count (none_held (decode referrals raw) (sym e ∙ h)))

  module _ (i : ℕ) (h : f ≡ Some i) where
    pub targets_fit : i < place_count raw
    targets_fit = key_fits referrals prefix raw i (sym e ∙ h)

    pub targets_held : {n : ℕ} → n ≡ length (entry_at referrals i raw).targets → n ≡ targets_under prefix raw
    unfolding targets_under prefixed target_count
    targets_held g = g ∙ sym (ap target_count (key_held referrals prefix raw i (sym e ∙ h)))

-- at most 8 parties
pub dcs_few : (path raw : List ℕ) → dcs_named path raw ≤ 8
unfolding dcs_named domain_named dc_count
dcs_few path raw = go (with_key domains (get_or (components path) 0 []) (decode domains raw)) refl
  where
    go : (f : Option ℕ) → with_key domains (get_or (components path) 0 []) (decode domains raw) ≡ f → dc_count (held (with_key domains (get_or (components path) 0 []) (decode domains raw)) (decode domains raw)) ≤ 8
    go None h = rw (none_held (decode domains raw) h) (omega arith)
    go (Some i) h = rw (key_held domains (get_or (components path) 0 []) raw i h, count_dcs raw i) (omega arith)

pub targets_few : (prefix raw : List ℕ) → targets_under prefix raw ≤ 8
unfolding targets_under prefixed target_count
targets_few prefix raw = go (with_key referrals prefix (decode referrals raw)) refl
  where
    go : (f : Option ℕ) → with_key referrals prefix (decode referrals raw) ≡ f → target_count (held (with_key referrals prefix (decode referrals raw)) (decode referrals raw)) ≤ 8
    go None h = rw (none_held (decode referrals raw) h) (omega arith)
    go (Some i) h = rw (key_held referrals prefix raw i h, count_targets raw i) (omega arith)

-- both places are among n
module _ (n party began : ℕ) where
  pub round_past : n ≤ party → false ≡ in_round n party began
  unfolding in_round
  round_past h = rw (le-ltb party n h)

  pub round_on : party < n → ltb began n ≡ in_round n party began
  unfolding in_round
  round_on h = rw (lt-ltb party n h)

-- whether the entry in use is there does not depend on the size, the hit and the path tried
pub in_use_same : (c : Caches) (path : List ℕ) (size more : ℕ) (hit other : Bool) (q : Asking) (tried others : List ℕ)
    → is_in_use c (core_of path size hit) (question_of q tried) ≡ is_in_use c (core_of path more other) (question_of q others)
unfolding is_in_use question_of party_count domain_in_use referral_in_use
in_use_same c path size more hit other q tried others = go q.kind
  where
    at : Kind → ℕ → Bool → List ℕ → Bool
    at k s h t =
        is_in_use c (core_of path s h) (record { kind = k; entry = q.entry; party = q.party; began = q.began; size = q.size; tried = t; uncovered = q.uncovered })

    go : (k : Kind) → at k size hit tried ≡ at k more other others
    go Dc = refl
    go Root = refl
    go Link = refl
    go Sysvol = refl
    go Io = refl

-- the entry in use, by the kind of the question
module _ (refs doms path : List ℕ) (q : Asking) where
  asked : Kind → Bool
  asked k =
      is_in_use (caches_of refs doms) (core_of path 0 true)
      (record { kind = k; entry = q.entry; party = q.party; began = q.began; size = q.size; tried = []; uncovered = q.uncovered })

  kinded : {k : Kind} → q.kind ≡ k → is_in_use (caches_of refs doms) (core_of path 0 true) (question_of q []) ≡ asked k
  unfolding question_of asked
  kinded h = ap asked h

  pub in_use_dc : {r : Bool} → q.kind ≡ Dc → r ≡ domain_there path doms → r ≡ is_in_use (caches_of refs doms) (core_of path 0 true) (question_of q [])
  unfolding asked is_in_use domain_in_use domain_there caches_of
  in_use_dc k e = e ∙ sym (kinded k)

  pub in_use_root : {r : Bool} → q.kind ≡ Root → r ≡ (eqb q.entry 0 || in_round (dcs_named path doms) q.party q.began)
      → r ≡ is_in_use (caches_of refs doms) (core_of path 0 true) (question_of q [])
  unfolding asked is_in_use party_count domain_in_use dcs_named in_round caches_of
  in_use_root k e = e ∙ sym (kinded k)

  module _ {r : Bool} {n : ℕ} (e : r ≡ in_round n q.party q.began) where
    pub in_use_sysvol : q.kind ≡ Sysvol → n ≡ dcs_named path doms → r ≡ is_in_use (caches_of refs doms) (core_of path 0 true) (question_of q [])
    unfolding asked is_in_use party_count domain_in_use dcs_named in_round caches_of
    in_use_sysvol k g = e ∙ (ap (λ (x : ℕ). in_round x q.party q.began) g ∙ sym (kinded k))

    pub in_use_link : q.kind ≡ Link → n ≡ targets_under (take q.entry path) refs → r ≡ is_in_use (caches_of refs doms) (core_of path 0 true) (question_of q [])
    unfolding asked is_in_use party_count referral_in_use targets_under in_round caches_of
    in_use_link k g = e ∙ (ap (λ (x : ℕ). in_round x q.party q.began) g ∙ sym (kinded k))

    pub in_use_io : q.kind ≡ Io → n ≡ targets_under (take q.entry path) refs → r ≡ is_in_use (caches_of refs doms) (core_of path 0 true) (question_of q [])
    unfolding asked is_in_use party_count referral_in_use targets_under in_round caches_of
    in_use_io k g = e ∙ (ap (λ (x : ℕ). in_round x q.party q.began) g ∙ sym (kinded k))
