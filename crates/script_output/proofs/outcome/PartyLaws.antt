-- A question whose entry in use is there has a party, and the party's text fits the room of a text.
use Rattle.std.specs.Prelude.{Option, None, Some}
use mathlib.Core.Path.{◌≡◌, refl, sym, ap, ◌∙◌, subst}
use mathlib.Core.Bool.{Bool, true, false, ◌&&◌, ◌||◌}
use mathlib.Core.List.{List, []}
use mathlib.Core.Logic.{◌⊎◌, inl, inr}
use Prim.Native.Nat.{ℕ, ◌≤◌, ◌<◌}
use native.Mathlib.Omega.{arith}
use lib.ListN.{length, get_or}
use lib.Dec.{eqb, ltb}
use borrow.Author.Tests.{ltb-true}
use Rattle.laws.specs.Choice.{choose}
use Rattle.laws.proofs.Choices.{choose_yes, choose_no, and_left}
use Rattle.laws.proofs.Orders.{told}
use Rattle.laws.proofs.Every.{every_at}
use Rattle.unc.specs.names.Paths.{components}
use Rattle.unc.specs.names.Names.{good_name}
use Rattle.cache.specs.order.Entries.{Referral, Domain, Place, free, used}
use Rattle.cache.specs.order.Order.{good_prefix, good_target, good_referral, good_domain}
use Rattle.cache.specs.order.Memory.{Kind, referrals, domains, good_place, good_cache}
use Rattle.cache.proofs.order.MemoryLaws.{cache_told}
use Rattle.cache.proofs.order.KindLaws.{prefix_short, name_short, referral_told, domain_told}
use Rattle.cache_lookup.specs.Lookup.{target_path, dc_name}
use Rattle.cache_lookup.proofs.LookupLaws.{used_inside}
use Rattle.cache_store.specs.entry_after_reply.Stored.{held, held_at, prefixed}
use Rattle.walk_steps.specs.steps.Steps.{Caches, Core, Question, domain_named, domain_in_use, referral_in_use, dc_count, target_count, party_count, is_in_use}
use Rattle.walk_steps.specs.declared.steps.Kind as asked
use Rattle.walk_steps.specs.declared.steps.Kind.TheVariants.{Dc, Root, Link, Sysvol, Io}
use Rattle.walk_shown.specs.question.Shown.{dc_at_place, target_at_place, party_of, party_text}
use Rattle.walk_shown.proofs.question.ShownLaws.{host_short}

-- an entry that is held in a good cache is good
held_good : {E : Type 0} (k : Kind E) (ps : List (Place E)) → good_cache k ps ≡ true → (f : Option ℕ) (e : E) → held f ps ≡ Some e → k.good e ≡ true
unfolding held held_at good_place
held_good k ps good None e h = absurd (let z : ◌≡◌ {A = ℕ} 0 1 = cc in omega arith)
held_good {E} k ps good (Some i) e h = go (get_or ps i free) refl h
  where
    go : (p : Place E) → get_or ps i free ≡ p → held_at p ≡ Some e → k.good e ≡ true
    go free q u = absurd (let z : ◌≡◌ {A = ℕ} 0 1 = cc in omega arith)
    go (used a) q u =
        let z : a ≡ e = cc in
        ap k.good (sym z) ∙ (ap (good_place k) (sym q) ∙ every_at (good_place k) ps (cache_told k ps good).places i free (used_inside ps i a q))

-- a text that is there, and is no longer than a room
pub record Texted (o : Option (List ℕ)) : Type 0 where
  pub text : List ℕ
  pub here : o ≡ Some text
  pub short : length text ≤ 256

dc_texted : (place : ℕ) (o : Option Domain) → ((d : Domain) → o ≡ Some d → good_domain d ≡ true) → place < dc_count o → Texted (dc_at_place place o)
unfolding dc_count dc_at_place dc_name
dc_texted place None good h = absurd (omega arith)
dc_texted place (Some d) good h =
    let z : length (get_or d.dcs place []) ≤ 255 = name_short _ (every_at good_name d.dcs (domain_told d (good d refl)).each place [] h) in
    record { text = dc_name place d; here = refl; short = omega arith }

target_texted : (place : ℕ) (o : Option Referral) → ((e : Referral) → o ≡ Some e → good_referral e ≡ true) → place < target_count o → Texted (target_at_place place o)
unfolding target_count target_at_place target_path good_target
target_texted place None good h = absurd (omega arith)
target_texted place (Some e) good h = record {
  text = target_path place e;
  here = refl;
  short = prefix_short _ (every_at good_target e.targets (referral_told e (good e refl)).each place (record { path = []; opens = false }) h);
}

module _ (c : Caches) (refs : good_cache referrals c.referrals ≡ true) (doms : good_cache domains c.domains ≡ true) (w : Core) (good : good_prefix w.path ≡ true)
    (boot : List ℕ) (few : length boot ≤ 256) (q : Question) where
  dc_there : q.party < dc_count (domain_in_use c w) → Texted (dc_at_place q.party (domain_in_use c w))
  unfolding domain_in_use domain_named
  dc_there = dc_texted q.party (domain_in_use c w) (λ d h. held_good domains c.domains doms _ d h)

  target_there : q.party < target_count (referral_in_use c w q) → Texted (target_at_place q.party (referral_in_use c w q))
  unfolding referral_in_use prefixed
  target_there = target_texted q.party (referral_in_use c w q) (λ e h. held_good referrals c.referrals refs _ e h)

  host_there : Texted (Some (get_or (components w.path) 0 []))
  host_there = record { text = get_or (components w.path) 0 []; here = refl; short = host_short w.path good refl }

  round : (n : ℕ) → (ltb q.party n && ltb q.began n) ≡ true → q.party < n
  round n t = ltb-true q.party n (and_left (ltb q.party n) _ t)

  root_there : (n : ℕ) → (eqb q.entry 0 || (ltb q.party n && ltb q.began n)) ≡ true → (q.party < n → Texted (dc_at_place q.party (domain_in_use c w)))
      → Texted (choose (eqb q.entry 0) (Some (get_or (components w.path) 0 [])) (dc_at_place q.party (domain_in_use c w)))
  root_there n u f = go (told (eqb q.entry 0))
    where
      go : (eqb q.entry 0 ≡ true) ⊎ (eqb q.entry 0 ≡ false) → Texted (choose (eqb q.entry 0) (Some (get_or (components w.path) 0 [])) (dc_at_place q.party (domain_in_use c w)))
      go (inl t) = subst Texted (sym (choose_yes _ _ t)) host_there
      go (inr t) =
          subst Texted (sym (choose_no _ _ t))
          (f (round n (ap (λ (b : Bool). b || (ltb q.party n && ltb q.began n)) (sym t) ∙ u)))

  kind_to : asked.Kind → Question
  kind_to k = record { kind = k; entry = q.entry; party = q.party; began = q.began; size = q.size; tried = q.tried; uncovered = q.uncovered }

  party_there : is_in_use c w q ≡ true → Texted (party_of c w boot q)
  unfolding is_in_use party_count party_of kind_to referral_in_use
  party_there h = go q.kind h
    where
      go : (k : asked.Kind) → is_in_use c w (kind_to k) ≡ true → Texted (party_of c w boot (kind_to k))
      go Dc u = record { text = boot; here = refl; short = few }
      go Root u = root_there _ u dc_there
      go Link u = target_there (round _ u)
      go Sysvol u = dc_there (round _ u)
      go Io u = target_there (round _ u)

  -- the party of a question whose entry in use is there
  pub party_texted : is_in_use c w q ≡ true → Texted (party_text c w boot q)
  unfolding party_text
  party_texted h = subst Texted (sym (choose_yes _ _ h)) (party_there h)
