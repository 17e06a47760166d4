-- Hints and DCs that an answer sets keep the caches in order.
use Rattle.std.specs.Prelude.{Option, Some, None}
use mathlib.Core.Path.{◌≡◌, refl, sym, ap, ◌∙◌, subst}
use mathlib.Core.Bool.{Bool, true, false, ◌&&◌, ◌||◌}
use mathlib.Core.List.{List, []}
use mathlib.Core.Logic.{◌⊎◌, inl, inr}
use Prim.Native.Nat.{ℕ, ◌<◌}
use lib.ListN.{get_or, take}
use lib.Dec.{eqb, ltb}
use borrow.Author.Tests.{ltb-true}
use Rattle.laws.specs.Choice.{choose}
use Rattle.laws.proofs.Choices.{choose_yes, choose_no, and_left}
use Rattle.laws.proofs.Orders.{told}
use Rattle.unc.specs.names.Paths.{components}
use Rattle.cache.specs.order.Entries.{Referral, Domain}
use Rattle.cache.specs.order.Memory.{referrals, domains}
use Rattle.cache_lookup.specs.Lookup.{with_key, target_hinted, dc_hinted}
use Rattle.cache_lookup.proofs.LookupLaws.{KeyAt, key_found}
use Rattle.reply_read.proofs.name_lists.SaysLaws.{SoundDcs}
use Rattle.cache_store.specs.entry_after_reply.Stored.{prefixed, dcs_stored}
use Rattle.walk_steps.specs.steps.Steps.{Caches, Core, Question, domain_named, domain_in_use, referral_in_use, dc_count, target_count, party_count, is_in_use, with_referrals, with_domains, dc_hint_set, target_hint_set, hint_set, dcs_in}
use Rattle.walk_steps.specs.declared.steps.Kind.{Kind}
use Rattle.walk_steps.specs.declared.steps.Kind.TheVariants.{Dc, Root, Link, Sysvol, Io}
use Rattle.theorems.specs.keeps.Code.{GoodCaches}
use Rattle.theorems.proofs.keeps.CacheLaws.{held_is, hint_kept, dc_hint_kept, dcs_kept}

-- a question of another kind
abbrev pub kind_to : Kind → Question → Question
kind_to k q = record { kind = k; entry = q.entry; party = q.party; began = q.began; size = q.size; tried = q.tried; uncovered = q.uncovered }

-- where the entry in use is, and what is then set
module _ (c : Caches) (w : Core) where
  pub target_none : (q : Question) → with_key referrals (take q.entry w.path) c.referrals ≡ None → target_hint_set c w q ≡ c
  unfolding target_hint_set
  target_none q h = rw h refl

  pub target_at_lem : (q : Question) (i : ℕ) → with_key referrals (take q.entry w.path) c.referrals ≡ Some i
      → target_hint_set c w q ≡ with_referrals (target_hinted i q.party c.referrals) c
  unfolding target_hint_set
  target_at_lem q i h = rw h refl

  pub dc_none : (place : ℕ) → with_key domains (get_or (components w.path) 0 []) c.domains ≡ None → dc_hint_set c w place ≡ c
  unfolding dc_hint_set
  dc_none place h = rw h refl

  pub dc_at : (place i : ℕ) → with_key domains (get_or (components w.path) 0 []) c.domains ≡ Some i
      → dc_hint_set c w place ≡ with_domains (dc_hinted i place c.domains) c
  unfolding dc_hint_set
  dc_at place i h = rw h refl

  pub dcs_none : (names : List (List ℕ)) → with_key domains (get_or (components w.path) 0 []) c.domains ≡ None → dcs_in c w names ≡ c
  unfolding dcs_in
  dcs_none names h = rw h refl

  pub dcs_at : (names : List (List ℕ)) (i : ℕ) → with_key domains (get_or (components w.path) 0 []) c.domains ≡ Some i
      → dcs_in c w names ≡ with_domains (dcs_stored i names c.domains) c
  unfolding dcs_in
  dcs_at names i h = rw h refl

  -- the party asked is there
  module _ (cs : GoodCaches c) where
    target_good : (q : Question) → q.party < target_count (prefixed (take q.entry w.path) c.referrals) → GoodCaches (target_hint_set c w q)
    unfolding with_referrals target_count prefixed
    target_good q u = go (with_key referrals (take q.entry w.path) c.referrals) refl
      where
        go : (f : Option ℕ) → with_key referrals (take q.entry w.path) c.referrals ≡ f → GoodCaches (target_hint_set c w q)
        go None h = subst GoodCaches (sym (target_none q h)) cs
        go (Some i) h =
            let b : KeyAt referrals (take q.entry w.path) c.referrals i = key_found referrals (take q.entry w.path) c.referrals i h in
            subst GoodCaches (sym (target_at_lem q i h)) (record {
              refs =
                  hint_kept c.referrals cs.refs i q.party b.entry b.here
                  (subst (λ (o : Option Referral). q.party < target_count o) (held_is c.referrals i b.entry b.here h) u);
              doms = cs.doms;
            })

    dc_good : (place : ℕ) → place < dc_count (domain_in_use c w) → GoodCaches (dc_hint_set c w place)
    unfolding with_domains dc_count domain_in_use domain_named
    dc_good place u = go (with_key domains (get_or (components w.path) 0 []) c.domains) refl
      where
        go : (f : Option ℕ) → with_key domains (get_or (components w.path) 0 []) c.domains ≡ f → GoodCaches (dc_hint_set c w place)
        go None h = subst GoodCaches (sym (dc_none place h)) cs
        go (Some i) h =
            let b : KeyAt domains (get_or (components w.path) 0 []) c.domains i = key_found domains (get_or (components w.path) 0 []) c.domains i h in
            subst GoodCaches (sym (dc_at place i h)) (record {
              refs = cs.refs;
              doms =
                  dc_hint_kept c.domains cs.doms i place b.entry b.here
                  (subst (λ (o : Option Domain). place < dc_count o) (held_is c.domains i b.entry b.here h) u);
            })

    -- the DCs of a reply
    pub dcs_good : (names : List (List ℕ)) → SoundDcs names → GoodCaches (dcs_in c w names)
    unfolding with_domains
    dcs_good names s = go (with_key domains (get_or (components w.path) 0 []) c.domains) refl
      where
        go : (f : Option ℕ) → with_key domains (get_or (components w.path) 0 []) c.domains ≡ f → GoodCaches (dcs_in c w names)
        go None h = subst GoodCaches (sym (dcs_none names h)) cs
        go (Some i) h =
            let b : KeyAt domains (get_or (components w.path) 0 []) c.domains i = key_found domains (get_or (components w.path) 0 []) c.domains i h in
            subst GoodCaches (sym (dcs_at names i h)) (record { refs = cs.refs; doms = dcs_kept c.domains cs.doms i b.entry b.here names s })

    -- the hint of the party that answered
    pub hint_good : (q : Question) → is_in_use c w q ≡ true → GoodCaches (hint_set c w q)
    unfolding is_in_use hint_set party_count referral_in_use
    hint_good q h = go q.kind h
      where
        round : (n : ℕ) → (ltb q.party n && ltb q.began n) ≡ true → q.party < n
        round n t = ltb-true q.party n (and_left (ltb q.party n) _ t)

        root : (eqb q.entry 0 ≡ true) ⊎ (eqb q.entry 0 ≡ false) → is_in_use c w (kind_to Root q) ≡ true
            → GoodCaches (choose (eqb q.entry 0) c (dc_hint_set c w q.party))
        root (inl t) u = subst GoodCaches (sym (choose_yes _ _ t)) cs
        root (inr t) u =
            let r : (false || (ltb q.party (dc_count (domain_in_use c w)) && ltb q.began (dc_count (domain_in_use c w)))) ≡ true =
            ap (λ (b : Bool). b || (ltb q.party (dc_count (domain_in_use c w)) && ltb q.began (dc_count (domain_in_use c w)))) (sym t) ∙ u in
            subst GoodCaches (sym (choose_no _ _ t)) (dc_good q.party (round _ r))

        go : (k : Kind) → is_in_use c w (kind_to k q) ≡ true → GoodCaches (hint_set c w (kind_to k q))
        go Dc u = cs
        go Root u = root (told (eqb q.entry 0)) u
        go Link u = target_good (kind_to Link q) (round _ u)
        go Sysvol u = dc_good q.party (round _ u)
        go Io u = target_good (kind_to Io q) (round _ u)
