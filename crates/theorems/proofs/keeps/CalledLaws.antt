-- What the steps call for is in form.
use Rattle.std.specs.Prelude.{Option, None, Some}
use mathlib.Core.Path.{◌≡◌, refl, sym, subst}
use mathlib.Core.Bool.{Bool, true, false, ◌&&◌, not}
use mathlib.Core.List.{List, []}
use mathlib.Core.Logic.{◌⊎◌, inl, inr}
use Prim.Native.Nat.{ℕ, ◌≤◌, ◌<◌}
use native.Mathlib.Omega.{arith}
use lib.ListN.{length, get_or}
use lib.Dec.{leb, eqb}
use borrow.Author.Tests.{le-leb, leb-true}
use Rattle.laws.specs.Choice.{choose}
use Rattle.laws.proofs.Choices.{and_both, or_right, eqb_refl}
use Rattle.unc.specs.names.Paths.{components, first_of, matches, is_sysvol, replaced, normalised_count}
use Rattle.cache.specs.order.Entries.{Referral, Domain, Place}
use Rattle.cache.specs.order.Order.{good_prefix, good_referral}
use Rattle.cache.specs.order.Memory.{referrals, good_cache}
use Rattle.cache.proofs.order.KindLaws.{referral_told}
use Rattle.cache_store.specs.domain_cache.Domains.{good_size}
use Rattle.cache_lookup.specs.Lookup.{with_key, expired, target_path, target_hint_to}
use Rattle.cache_lookup.proofs.EntryLaws.{target_hint_good}
use Rattle.cache_store.specs.entry_after_reply.Stored.{prefixed}
use Rattle.walk_steps.specs.steps.Steps.{Caches, Core, Question, Called, stops, asks, replaces, ends, longest, domain_named, step2, step2_with, step3, step4, step5, step5_with, step5_domain, step6, step6_host, step7, step8, step9, step9_with, step10, step11, dc_request, link_request, after_store}
use Rattle.walk_steps.specs.steps.Held.{asking_of}
use Rattle.walk_steps.specs.declared.steps.Kind.{Kind}
use Rattle.walk_steps.specs.declared.steps.Kind.TheVariants.{Dc, Root, Link, Sysvol, Io}
use Rattle.walk_steps.specs.declared.steps.End.TheVariants.{Done, NotDfs, NoDc, Failed, Malformed, Gone}
use Rattle.walk_steps.proofs.cycle.MoveLaws.{matches_same}
use Rattle.walk_steps.proofs.cycle.MoveLaws as moved
use Rattle.walk_form.specs.held.Walks.{names_domain, names_prefix, no_party, one_party, asked_in_form, has_tried, end_tried, good_tried, end_status}
use Rattle.theorems.proofs.keeps.PrefixLaws.{prefix_named, first_matches}
use Rattle.theorems.proofs.keeps.CacheLaws.{Longest, longest_or, Equal, prefixed_or}

-- a question that the steps call for: it is in form, and so is its path tried where that is not too long
pub record Asked (path : List ℕ) (q : Question) : Type 0 where
  pub form : asked_in_form path (asking_of q) q.kind ≡ true
  pub tried : length q.tried ≤ 256 → good_tried (has_tried q.kind) q.tried ≡ true

-- what the steps call for, on a path, is in form: an end, a question, or a new path that is not too long
unfoldable pub Well : List ℕ → Called → Type 0
Well path (stops e status tried) = (good_tried (end_tried e) tried && end_status e status) ≡ true
Well path (asks q) = Asked path q
Well path (replaces p) = length p ≤ 256 → good_prefix p ≡ true

-- a choice, by its test, and whatever its test
pub picked : {A : Type 0} (P : A → Type 0) (b : Bool) (x y : A) → (b ≡ true → P x) → (b ≡ false → P y) → P (choose b x y)
unfolding choose
picked P true x y f g = f refl
picked P false x y f g = g refl

pub chosen : {A : Type 0} (P : A → Type 0) (b : Bool) (x y : A) → P x → P y → P (choose b x y)
chosen P b x y f g = picked P b x y (λ t. f) (λ t. g)

-- ends
module _ (path : List ℕ) where
  pub well_gone : Well path (ends Gone 0)
  unfolding Well good_tried end_tried end_status
  well_gone = refl

  pub well_malformed : Well path (ends Malformed 0)
  unfolding Well good_tried end_tried end_status
  well_malformed = refl

  pub well_failed : (status : ℕ) → Well path (ends Failed status)
  unfolding Well good_tried end_tried end_status
  well_failed status = refl

  pub well_no_dc : (status : ℕ) → Well path (ends NoDc status)
  unfolding Well good_tried end_tried end_status
  well_no_dc status = refl

  pub well_not_dfs : Well path (ends NotDfs 0)
  unfolding Well good_tried end_tried end_status
  well_not_dfs = refl

  pub well_done : (status : ℕ) (tried : List ℕ) → 1 ≤ normalised_count tried → Well path (stops Done status tried)
  unfolding Well good_tried end_tried end_status
  well_done status tried h = and_both (le-leb 1 (normalised_count tried) h) refl

  -- a question
  pub well_asks : {q : Question} → Asked path q → Well path (asks q)
  unfolding Well
  well_asks a = a

-- the path with its prefix replaced by a target
pub replaced_good : (path : List ℕ) (e : Referral) (j : ℕ) → good_prefix path ≡ true → good_referral e ≡ true → matches e.prefix path ≡ true → j < length e.targets
    → length (replaced (target_path j e) (length e.prefix) path) ≤ 256 → good_prefix (replaced (target_path j e) (length e.prefix) path) ≡ true
unfolding step11 target_hint_to target_path
replaced_good path e j good well m u l = moved.new_good path (target_hint_to j e) good (target_hint_good j e well u) m l

good_once : (s : List ℕ) → good_prefix s ≡ true → leb 1 (normalised_count s) ≡ true
unfolding good_prefix
good_once s h = let z : 2 ≤ normalised_count s = leb-true 2 (normalised_count s) h in le-leb 1 (normalised_count s) (omega arith)

module _ (w : Core) (good : good_prefix w.path ≡ true) (size : good_size w.size ≡ true) where
  -- requests
  pub asked_dc : Asked w.path (dc_request w)
  unfolding dc_request asking_of asked_in_form names_domain no_party has_tried good_tried
  asked_dc = record { form = and_both (eqb_refl (length (first_of 1 w.path))) (and_both refl (and_both size refl)); tried = λ l. refl }

  pub asked_root : (place began : ℕ) → Asked w.path (step6 w place began)
  unfolding step6 asking_of asked_in_form names_domain has_tried good_tried
  asked_root place began = record { form = and_both (or_right (eqb (length (first_of 1 w.path)) 0 && no_party (asking_of (step6 w place began))) (eqb_refl (length (first_of 1 w.path)))) (and_both size refl); tried = λ l. refl }

  pub asked_host : Asked w.path (step6_host w)
  unfolding step6_host asking_of asked_in_form no_party has_tried good_tried
  asked_host = record { form = and_both refl (and_both size refl); tried = λ l. refl }

  pub asked_sysvol : (d : Domain) → Asked w.path (step10 w d)
  unfolding step10 asking_of asked_in_form names_domain one_party has_tried good_tried
  asked_sysvol d =
      record { form = and_both (eqb_refl (length (first_of 1 w.path))) (and_both (eqb_refl d.hint) (and_both size refl)); tried = λ l. refl }

  pub asked_link : (entry place began : ℕ) (uncovered : Bool) → names_prefix w.path (asking_of (link_request w entry place began uncovered)) ≡ true
      → Asked w.path (link_request w entry place began uncovered)
  unfolding link_request asking_of asked_in_form has_tried good_tried
  asked_link entry place began uncovered h = record { form = and_both h size; tried = λ l. refl }

  pub asked_refresh : (e : Referral) → good_referral e ≡ true → matches e.prefix w.path ≡ true
      → Asked w.path (link_request w (length e.prefix) e.hint e.hint false)
  unfolding link_request asking_of
  asked_refresh e well m =
      asked_link (length e.prefix) e.hint e.hint false
      (prefix_named e.prefix w.path (referral_told e well).prefixed good m (asking_of (link_request w (length e.prefix) e.hint e.hint false)) refl)

  -- an I/O try at a target of an entry whose prefix matches
  pub asked_io : (e : Referral) (place began : ℕ) → good_referral e ≡ true → matches e.prefix w.path ≡ true → place < length e.targets
      → Asked w.path (step8 w e place began)
  unfolding step8 asking_of asked_in_form has_tried good_tried
  asked_io e place began well m u = record {
    form = and_both (prefix_named e.prefix w.path (referral_told e well).prefixed good m _ refl) (and_both refl refl);
    tried = λ l. good_once _ (replaced_good w.path e place good well m u l);
  }

  -- step 3, and steps 4 and 7
  pub asked_hint : (e : Referral) → good_referral e ≡ true → matches e.prefix w.path ≡ true → Asked w.path (step3 w e)
  unfolding step3
  asked_hint e well m = asked_io e e.hint e.hint well m (referral_told e well).hinted

  well_new : (e : Referral) → good_referral e ≡ true → matches e.prefix w.path ≡ true → Well w.path (replaces (step11 w e))
  unfolding Well step11
  well_new e well m l = replaced_good w.path e e.hint good well m (referral_told e well).hinted l

  pub well_step7 : (e : Referral) → good_referral e ≡ true → matches e.prefix w.path ≡ true → Well w.path (step7 w e)
  unfolding step7 step4
  well_step7 e well m =
      chosen (Well w.path) e.settings.root _ _ (well_asks w.path (asked_hint e well m))
      (chosen (Well w.path) (not (is_sysvol w.path) && e.settings.interlink) _ _ (well_new e well m) (well_asks w.path (asked_hint e well m)))

  pub well_stored : (k : Kind) (e : Referral) → good_referral e ≡ true → matches e.prefix w.path ≡ true → Well w.path (after_store k w e)
  unfolding after_store
  well_stored Dc e well m = well_step7 e well m
  well_stored Root e well m = well_step7 e well m
  well_stored Link e well m = well_step7 e well m
  well_stored Sysvol e well m = well_asks w.path (asked_hint e well m)
  well_stored Io e well m = well_step7 e well m

  -- step 5
  pub asked_step5 : (ds : List (Place Domain)) → Asked w.path (step5 ds w)
  unfolding step5 step5_with step5_domain
  asked_step5 ds = go (domain_named (get_or (components w.path) 0 []) ds)
    where
      go : (o : Option Domain) → Asked w.path (step5_with w o)
      go None = asked_host
      go (Some d) =
          chosen (Asked w.path) (eqb (length d.dcs) 0) _ _ asked_dc
          (chosen (Asked w.path) (is_sysvol w.path) _ _ (asked_sysvol d) (asked_root d.hint d.hint))

  -- steps 9 and 2
  module _ (c : Caches) (order : good_cache referrals c.referrals ≡ true) where
    asked_step9 : Asked w.path (step9 c w)
    unfolding step9 step9_with
    asked_step9 = go (prefixed_or c.referrals order (first_of 2 w.path))
      where
        Fit : Option Referral → Type 0
        Fit o = Asked w.path (step9_with c w o)

        go : ((with_key referrals (first_of 2 w.path) c.referrals ≡ None) × (prefixed (first_of 2 w.path) c.referrals ≡ None))
            ⊎ ((e : Referral) × ((prefixed (first_of 2 w.path) c.referrals ≡ Some e) × Equal c.referrals order (first_of 2 w.path) e))
            → Asked w.path (step9_with c w (prefixed (first_of 2 w.path) c.referrals))
        go (inl h) = subst Fit (sym h.1) (asked_step5 c.domains)
        go (inr h) =
            subst Fit (sym h.1.0)
            (chosen (Asked w.path) h.0.settings.root _ _
            (asked_refresh h.0 h.1.1.well (matches_same h.0.prefix (first_of 2 w.path) w.path h.1.1.same (first_matches 2 w.path)))
            (asked_step5 c.domains))

    pub well_step2 : (clock : ℕ) → Well w.path (step2 c w clock)
    unfolding step2 step2_with
    well_step2 clock = go (longest_or c.referrals order w.path)
      where
        Fit : Option Referral → Type 0
        Fit o = Well w.path (step2_with c w clock o)

        go : (longest w.path c.referrals ≡ None) ⊎ ((e : Referral) × ((longest w.path c.referrals ≡ Some e) × Longest c.referrals order w.path e))
            → Well w.path (step2_with c w clock (longest w.path c.referrals))
        go (inl h) = subst Fit (sym h) (well_asks w.path (asked_step5 c.domains))
        go (inr h) =
            subst Fit (sym h.1.0)
            (chosen (Well w.path) (expired clock h.0) _ _
            (well_asks w.path (chosen (Asked w.path) h.0.settings.root _ _ (asked_step5 c.domains) asked_step9))
            (well_step7 h.0 h.1.1.well h.1.1.matching))
