-- Laws of the cases: what each calls for, and which others come to the same rest.
use Rattle.std.specs.Prelude.{Option, Some, None}
use mathlib.Core.Path.{◌≡◌, refl, sym, ap, ◌∙◌}
use mathlib.Core.Bool.{Bool, true, false, ◌&&◌, ◌||◌, not}
use mathlib.Core.List.{List, []}
use mathlib.Core.Logic.{◌⊎◌, inl, inr}
use Prim.Native.Nat.{ℕ, ◌-◌, ◌≤◌, ◌<◌}
use native.Mathlib.Omega.{arith}
use lib.ListN.{length, get_or}
use lib.Dec.{eqb}
use Rattle.laws.specs.Choice.{choose}
use Rattle.laws.proofs.Choices.{choose_yes, choose_no}
use Rattle.laws.proofs.Orders.{told}
use Rattle.unc.specs.names.Paths.{components, first_of, is_sysvol}
use Rattle.cache.specs.places.Layout.{place_count}
use Rattle.cache.specs.order.Entries.{Referral}
use Rattle.cache.specs.order.Memory.{referrals, domains, decode}
use Rattle.cache_lookup.specs.Lookup.{longest_match, with_key, expired}
use Rattle.cache_lookup.specs.Code.{entry_at}
use Rattle.cache_store.specs.entry_after_reply.Stored.{prefixed}
use Rattle.walk_steps.specs.steps.Steps.{Question, Called, stops, asks, replaces, goes, turned, from_step2, is_there, hit_at, with_hit, with_path, longest, domain_named, dc_request, step2, step2_with, step3, step4, step5, step5_with, step5_domain, step6, step6_host, step7, step9, step9_with, step10, step11}
use Rattle.walk_steps.specs.steps.Held.{caches_of, core_of}
use Rattle.walk_steps.specs.steps.Code.{root_at, root_in}
use Rattle.walk_steps.specs.declared.steps.Kind.TheVariants.{Dc, Root, Sysvol}
use Rattle.walk_steps.specs.declared.steps.End.TheVariants as ends
use Rattle.walk_steps.specs.cycle.Code.{packed, steps_from, due2, due5, due9, due7, due11, to_try, ask_link, ask_dc, ask_domain, ask_host, too_long, domain_request, kind_of_case, link_at, question_of_case, called_at, turn_at, steps_by, after_match}
use Rattle.walk_steps.proofs.steps.HeldLaws.{none_held, key_held, key_fits, longest_held}
use Rattle.walk_steps.proofs.cycle.MoveLaws.{goes_stops, replaces_long, replaces_made, step5_hit, step7_hit, step9_hit}

or_true : (b : Bool) → (b || true) ≡ true
or_true true = refl
or_true false = refl

or_false : (b : Bool) → (b || false) ≡ b
or_false true = refl
or_false false = refl

-- what a case calls for
module _ (refs doms : List ℕ) (size clock i : ℕ) (hit : Bool) (path : List ℕ) (left : ℕ) where
  pub by2 : steps_by refs doms size clock due2 i hit path left
      ≡ steps_from left refs doms clock (with_hit (hit_at (caches_of refs doms) (core_of path size hit)) (core_of path size hit)) (step2 (caches_of refs doms) (core_of path size hit) clock)
  unfolding steps_by turn_at steps_from turned from_step2 choose
  by2 = refl

  pub by5 : steps_by refs doms size clock due5 i hit path left ≡ steps_from left refs doms clock (core_of path size hit) (asks (step5 (decode domains doms) (core_of path size hit)))
  unfolding steps_by turn_at steps_from turned called_at choose
  by5 = refl

  pub by9 : steps_by refs doms size clock due9 i hit path left ≡ steps_from left refs doms clock (core_of path size hit) (asks (step9 (caches_of refs doms) (core_of path size hit)))
  unfolding steps_by turn_at steps_from turned called_at choose
  by9 = refl

  pub by7 : steps_by refs doms size clock due7 i hit path left ≡ steps_from left refs doms clock (core_of path size hit) (step7 (core_of path size hit) (entry_at referrals i refs))
  unfolding steps_by turn_at steps_from turned called_at choose
  by7 = refl

  pub by11 : steps_by refs doms size clock due11 i hit path left ≡ steps_from left refs doms clock (core_of path size hit) (replaces (step11 (core_of path size hit) (entry_at referrals i refs)))
  unfolding steps_by turn_at steps_from turned called_at choose
  by11 = refl

  pub by_try : steps_by refs doms size clock to_try i hit path left ≡ steps_from left refs doms clock (core_of path size hit) (asks (step3 (core_of path size hit) (entry_at referrals i refs)))
  unfolding steps_by turn_at steps_from turned called_at choose
  by_try = refl

  pub by_long : steps_by refs doms size clock too_long i hit path left ≡ steps_from left refs doms clock (core_of path size hit) (stops ends.TooLong 0 [])
  unfolding steps_by turn_at steps_from turned called_at choose
  by_long = refl

  by_link : steps_by refs doms size clock ask_link i hit path left ≡ steps_from left refs doms clock (core_of path size hit) (asks (link_at (core_of path size hit) refs i))
  unfolding steps_by turn_at steps_from turned called_at question_of_case choose
  by_link = refl

  by_dc : steps_by refs doms size clock ask_dc i hit path left ≡ steps_from left refs doms clock (core_of path size hit) (asks (domain_request Dc (core_of path size hit) i))
  unfolding steps_by turn_at steps_from turned called_at question_of_case kind_of_case choose
  by_dc = refl

  by_domain : steps_by refs doms size clock ask_domain i hit path left
      ≡ steps_from left refs doms clock (core_of path size hit) (asks (domain_request (choose (is_sysvol path) Sysvol Root) (core_of path size hit) i))
  unfolding steps_by turn_at steps_from turned called_at question_of_case kind_of_case choose
  by_domain = refl

  by_host : steps_by refs doms size clock ask_host i hit path left ≡ steps_from left refs doms clock (core_of path size hit) (asks (step6_host (core_of path size hit)))
  unfolding steps_by turn_at steps_from turned called_at question_of_case choose
  by_host = refl

-- step 2
module _ (refs doms : List ℕ) (size clock i : ℕ) (hit : Bool) (path : List ℕ) (left : ℕ) where
  looked : {h : Bool} {a : Called} → hit_at (caches_of refs doms) (core_of path size hit) ≡ h → step2 (caches_of refs doms) (core_of path size hit) clock ≡ a
      → steps_from left refs doms clock (core_of path size h) a ≡ steps_by refs doms size clock due2 i hit path left
  unfolding with_hit
  looked e f = (λ k. steps_from left refs doms clock (with_hit (sym e k) (core_of path size hit)) (sym f k)) ∙ sym (by2 refs doms size clock i hit path left)

  pub two_none : longest_match path (decode referrals refs) ≡ None → steps_by refs doms size clock due5 0 hit path left ≡ steps_by refs doms size clock due2 i hit path left
  unfolding hit_at step2 longest caches_of step2_with is_there
  two_none h =
      by5 refs doms size clock 0 hit path left
      ∙ looked
      (ap (λ (o : Option Referral). hit || is_there o) (none_held (decode referrals refs) h) ∙ or_false hit)
      (ap (step2_with (caches_of refs doms) (core_of path size hit) clock) (none_held (decode referrals refs) h))

  module _ (j : ℕ) (h : longest_match path (decode referrals refs) ≡ Some j) where
    hit_there : hit_at (caches_of refs doms) (core_of path size hit) ≡ true
    unfolding hit_at caches_of is_there
    hit_there = ap (λ (o : Option Referral). hit || is_there o) (longest_held path refs j h) ∙ or_true hit

    called_there : step2 (caches_of refs doms) (core_of path size hit) clock
        ≡ choose (expired clock (entry_at referrals j refs)) (asks (choose (entry_at referrals j refs).settings.root (step5 (decode domains doms) (core_of path size hit)) (step9 (caches_of refs doms) (core_of path size hit)))) (step7 (core_of path size hit) (entry_at referrals j refs))
    unfolding step2 caches_of step2_with
    called_there = ap (step2_with (caches_of refs doms) (core_of path size hit) clock) (longest_held path refs j h)

    pub two_at : steps_by refs doms size clock (after_match clock (entry_at referrals j refs)) j true path left ≡ steps_by refs doms size clock due2 i hit path left
    unfolding after_match
    two_at = go (told (expired clock (entry_at referrals j refs))) (told (entry_at referrals j refs).settings.root)
      where
        go : (expired clock (entry_at referrals j refs) ≡ true) ⊎ (expired clock (entry_at referrals j refs) ≡ false)
            → ((entry_at referrals j refs).settings.root ≡ true) ⊎ ((entry_at referrals j refs).settings.root ≡ false)
            → steps_by refs doms size clock (choose (expired clock (entry_at referrals j refs)) (choose (entry_at referrals j refs).settings.root due5 due9) due7) j true path left
            ≡ steps_by refs doms size clock due2 i hit path left
        go (inl t) (inl u) =
            ap (λ (what : ℕ). steps_by refs doms size clock what j true path left) (choose_yes (choose (entry_at referrals j refs).settings.root due5 due9) due7 t ∙ choose_yes due5 due9 u)
            ∙ (by5 refs doms size clock j true path left
            ∙ (ap (λ (q : Question). steps_from left refs doms clock (core_of path size true) (asks q)) (step5_hit doms path size true hit)
            ∙ looked hit_there (called_there ∙ (choose_yes _ _ t ∙ ap asks (choose_yes _ _ u)))))
        go (inl t) (inr u) =
            ap (λ (what : ℕ). steps_by refs doms size clock what j true path left) (choose_yes (choose (entry_at referrals j refs).settings.root due5 due9) due7 t ∙ choose_no due5 due9 u)
            ∙ (by9 refs doms size clock j true path left
            ∙ (ap (λ (q : Question). steps_from left refs doms clock (core_of path size true) (asks q)) (step9_hit refs doms path size true hit)
            ∙ looked hit_there (called_there ∙ (choose_yes _ _ t ∙ ap asks (choose_no _ _ u)))))
        go (inr t) u =
            ap (λ (what : ℕ). steps_by refs doms size clock what j true path left) (choose_no (choose (entry_at referrals j refs).settings.root due5 due9) due7 t)
            ∙ (by7 refs doms size clock j true path left
            ∙ (ap (steps_from left refs doms clock (core_of path size true)) (step7_hit path size true hit (entry_at referrals j refs))
            ∙ looked hit_there (called_there ∙ choose_no _ _ t)))

-- the step that is due after a match
pub after_fresh : (clock : ℕ) (e : Referral) → expired clock e ≡ false → due7 ≡ after_match clock e
unfolding after_match
after_fresh clock e t = sym (choose_no _ _ t)

pub after_root : (clock : ℕ) (e : Referral) → expired clock e ≡ true → e.settings.root ≡ true → due5 ≡ after_match clock e
unfolding after_match
after_root clock e t u = sym (choose_yes _ _ t ∙ choose_yes _ _ u)

pub after_link : (clock : ℕ) (e : Referral) → expired clock e ≡ true → e.settings.root ≡ false → due9 ≡ after_match clock e
unfolding after_match
after_link clock e t u = sym (choose_yes _ _ t ∙ choose_no _ _ u)

pub after_range : (clock : ℕ) (e : Referral) → (0 < after_match clock e) × (after_match clock e ≤ 3)
after_range clock e = go (told (expired clock e)) (told e.settings.root)
  where
    go : (expired clock e ≡ true) ⊎ (expired clock e ≡ false) → (e.settings.root ≡ true) ⊎ (e.settings.root ≡ false) → (0 < after_match clock e) × (after_match clock e ≤ 3)
    go (inl t) (inl u) = let z : 1 ≡ after_match clock e = after_root clock e t u in (omega arith, omega arith)
    go (inl t) (inr u) = let z : 2 ≡ after_match clock e = after_link clock e t u in (omega arith, omega arith)
    go (inr t) u = let z : 3 ≡ after_match clock e = after_fresh clock e t in (omega arith, omega arith)

-- step 5
module _ (refs doms : List ℕ) (size clock i : ℕ) (hit : Bool) (path : List ℕ) (left : ℕ) where
  five : {q : Question} → step5 (decode domains doms) (core_of path size hit) ≡ q → steps_from left refs doms clock (core_of path size hit) (asks q) ≡ steps_by refs doms size clock due5 i hit path left
  five e = ap (λ (x : Question). steps_from left refs doms clock (core_of path size hit) (asks x)) (sym e) ∙ sym (by5 refs doms size clock i hit path left)

  pub five_host : step5 (decode domains doms) (core_of path size hit) ≡ step6_host (core_of path size hit) → steps_by refs doms size clock ask_host 0 hit path left ≡ steps_by refs doms size clock due5 i hit path left
  five_host e = by_host refs doms size clock 0 hit path left ∙ five e

  pub five_without : step5 (decode domains doms) (core_of path size hit) ≡ domain_request Dc (core_of path size hit) 0 → steps_by refs doms size clock ask_dc 0 hit path left ≡ steps_by refs doms size clock due5 i hit path left
  five_without e = by_dc refs doms size clock 0 hit path left ∙ five e

  pub five_dc : (j : ℕ) → step5 (decode domains doms) (core_of path size hit) ≡ domain_request (choose (is_sysvol path) Sysvol Root) (core_of path size hit) j
      → steps_by refs doms size clock ask_domain j hit path left ≡ steps_by refs doms size clock due5 i hit path left
  five_dc j e = by_domain refs doms size clock j hit path left ∙ five e

-- step 9
module _ (refs doms : List ℕ) (size clock i : ℕ) (hit : Bool) (path : List ℕ) (left : ℕ) where
  nine : {q : Question} → step9 (caches_of refs doms) (core_of path size hit) ≡ q → steps_from left refs doms clock (core_of path size hit) (asks q) ≡ steps_by refs doms size clock due9 i hit path left
  nine e = ap (λ (x : Question). steps_from left refs doms clock (core_of path size hit) (asks x)) (sym e) ∙ sym (by9 refs doms size clock i hit path left)

  -- the question by the root entry
  abbrev Asked : Option ℕ → Type 0
  Asked f = (f ≡ None → step9 (caches_of refs doms) (core_of path size hit) ≡ step5 (decode domains doms) (core_of path size hit))
      × ((j : ℕ) → f ≡ Some j → step9 (caches_of refs doms) (core_of path size hit) ≡ link_at (core_of path size hit) refs j)

  asked : Asked (root_in path refs)
  unfolding root_in root_at step9 caches_of prefixed step9_with
  asked = go (with_key referrals (first_of 2 path) (decode referrals refs)) refl
    where
      go : (f : Option ℕ) → with_key referrals (first_of 2 path) (decode referrals refs) ≡ f → Asked (root_at refs f)
      go None h = (
        λ e. ap (step9_with (caches_of refs doms) (core_of path size hit)) (none_held (decode referrals refs) h),
        λ j e. absurd (let z : ◌≡◌ {A = ℕ} 0 1 = cc e in omega arith),
      )
      go (Some k) h = at (told (entry_at referrals k refs).settings.root)
        where
          there : step9 (caches_of refs doms) (core_of path size hit) ≡ choose (entry_at referrals k refs).settings.root (link_at (core_of path size hit) refs k) (step5 (decode domains doms) (core_of path size hit))
          there = ap (step9_with (caches_of refs doms) (core_of path size hit)) (key_held referrals (first_of 2 path) refs k h)

          at : ((entry_at referrals k refs).settings.root ≡ true) ⊎ ((entry_at referrals k refs).settings.root ≡ false) → Asked (choose (entry_at referrals k refs).settings.root (Some k) None)
          at (inl t) = (
            λ e. absurd (let z : ◌≡◌ {A = ℕ} 0 1 = cc (choose_yes (Some k) None t, e) in omega arith),
            λ j e. there ∙ (choose_yes _ _ t ∙ ap (link_at (core_of path size hit) refs) (cc (choose_yes (Some k) None t, e))),
          )
          at (inr t) = (
            λ e. there ∙ choose_no _ _ t,
            λ j e. absurd (let z : ◌≡◌ {A = ℕ} 0 1 = cc (choose_no (Some k) None t, e) in omega arith),
          )

  pub nine_none : root_in path refs ≡ None → steps_by refs doms size clock due5 0 hit path left ≡ steps_by refs doms size clock due9 i hit path left
  nine_none e = by5 refs doms size clock 0 hit path left ∙ nine (asked.0 e)

  pub nine_at : (j : ℕ) → root_in path refs ≡ Some j → steps_by refs doms size clock ask_link j hit path left ≡ steps_by refs doms size clock due9 i hit path left
  nine_at j e = by_link refs doms size clock j hit path left ∙ nine (asked.1 j e)

-- the root entry is there
pub root_fits : (path raw : List ℕ) (j : ℕ) → root_in path raw ≡ Some j → j < place_count raw
unfolding root_in root_at
root_fits path raw j e = go (with_key referrals (first_of 2 path) (decode referrals raw)) refl e
  where
    go : (f : Option ℕ) → with_key referrals (first_of 2 path) (decode referrals raw) ≡ f → root_at raw f ≡ Some j → j < place_count raw
    go None h e = absurd (let z : ◌≡◌ {A = ℕ} 0 1 = cc e in omega arith)
    go (Some k) h e = at (told (entry_at referrals k raw).settings.root) e
      where
        at : ((entry_at referrals k raw).settings.root ≡ true) ⊎ ((entry_at referrals k raw).settings.root ≡ false) → choose (entry_at referrals k raw).settings.root (Some k) None ≡ Some j → j < place_count raw
        at (inl t) e = let z : k ≡ j = cc (choose_yes (Some k) None t, e) in let y : k < place_count raw = key_fits referrals (first_of 2 path) raw k h in omega arith
        at (inr t) e = absurd (let z : ◌≡◌ {A = ℕ} 0 1 = cc (choose_no (Some k) None t, e) in omega arith)

-- steps 7 and 4
module _ (refs doms : List ℕ) (size clock i : ℕ) (hit : Bool) (path : List ℕ) (left : ℕ) where
  tries : step7 (core_of path size hit) (entry_at referrals i refs) ≡ asks (step3 (core_of path size hit) (entry_at referrals i refs))
      → steps_by refs doms size clock to_try i hit path left ≡ steps_by refs doms size clock due7 i hit path left
  tries e =
      by_try refs doms size clock i hit path left
      ∙ (ap (steps_from left refs doms clock (core_of path size hit)) (sym e) ∙ sym (by7 refs doms size clock i hit path left))

  pub seven_root : (entry_at referrals i refs).settings.root ≡ true → steps_by refs doms size clock to_try i hit path left ≡ steps_by refs doms size clock due7 i hit path left
  unfolding step7
  seven_root t = tries (choose_yes _ _ t)

  module _ (t : (entry_at referrals i refs).settings.root ≡ false) where
    pub four_sysvol : is_sysvol path ≡ true → steps_by refs doms size clock to_try i hit path left ≡ steps_by refs doms size clock due7 i hit path left
    unfolding step7 step4
    four_sysvol s = tries (choose_no _ _ t ∙ choose_no _ _ (ap (λ (b : Bool). not b && (entry_at referrals i refs).settings.interlink) s))

    module _ (s : is_sysvol path ≡ false) where
      pub four_other : (entry_at referrals i refs).settings.interlink ≡ false → steps_by refs doms size clock to_try i hit path left ≡ steps_by refs doms size clock due7 i hit path left
      unfolding step7 step4
      four_other u = tries (choose_no _ _ t ∙ choose_no _ _ (λ k. not (s k) && u k))

      pub four_interlink : (entry_at referrals i refs).settings.interlink ≡ true → steps_by refs doms size clock due11 i hit path left ≡ steps_by refs doms size clock due7 i hit path left
      unfolding step7 step4
      four_interlink u =
          by11 refs doms size clock i hit path left
          ∙ (ap (steps_from left refs doms clock (core_of path size hit)) (sym (choose_no _ _ t ∙ choose_yes _ _ (λ k. not (s k) && u k)))
          ∙ sym (by7 refs doms size clock i hit path left))

-- step 11
module _ (refs doms : List ℕ) (size clock i : ℕ) (hit : Bool) (path : List ℕ) (left : ℕ) (moves : left ≡ 0 → ⊥) {new : List ℕ}
    (e : new ≡ step11 (core_of path size hit) (entry_at referrals i refs)) where
  pub eleven_long : 256 < length new → steps_by refs doms size clock too_long 0 hit path left ≡ steps_by refs doms size clock due11 i hit path left
  unfolding steps_from
  eleven_long l =
      by_long refs doms size clock 0 hit path left
      ∙ (ap packed (goes_stops left (caches_of refs doms) clock (core_of path size hit) ends.TooLong 0 [])
      ∙ (ap packed (sym (replaces_long (caches_of refs doms) clock (core_of path size hit) new left moves l))
      ∙ (ap (λ (p : List ℕ). packed (goes left (caches_of refs doms) clock (core_of path size hit) (replaces p))) e
      ∙ sym (by11 refs doms size clock i hit path left))))

  pub eleven_made : length new ≤ 256 → steps_by refs doms size clock due2 0 hit new (left - 1) ≡ steps_by refs doms size clock due11 i hit path left
  unfolding steps_from with_path
  eleven_made l =
      by2 refs doms size clock 0 hit new (left - 1)
      ∙ (ap packed (sym (replaces_made (caches_of refs doms) clock (core_of path size hit) new left moves l))
      ∙ (ap (λ (p : List ℕ). packed (goes left (caches_of refs doms) clock (core_of path size hit) (replaces p))) e
      ∙ sym (by11 refs doms size clock i hit path left)))

-- the domain that step 5 looks up
module _ (doms : List ℕ) (path : List ℕ) {name : List ℕ} {f : Option ℕ} (n : name ≡ get_or (components path) 0 []) (e : f ≡ with_key domains name (decode domains doms)) where
  named : {g : Option ℕ} → f ≡ g → with_key domains (get_or (components path) 0 []) (decode domains doms) ≡ g
  named h = ap (λ (x : List ℕ). with_key domains x (decode domains doms)) (sym n) ∙ (sym e ∙ h)

  pub dc_host : f ≡ None → (size : ℕ) (hit : Bool) → step5 (decode domains doms) (core_of path size hit) ≡ step6_host (core_of path size hit)
  unfolding step5 domain_named step5_with
  dc_host h size hit = ap (step5_with (core_of path size hit)) (none_held (decode domains doms) (named h))

  module _ (i : ℕ) (h : f ≡ Some i) where
    pub dc_fits : i < place_count doms
    dc_fits = key_fits domains (get_or (components path) 0 []) doms i (named h)

    by_domain5 : (size : ℕ) (hit : Bool) → step5 (decode domains doms) (core_of path size hit) ≡ step5_domain (core_of path size hit) (entry_at domains i doms)
    unfolding step5 domain_named step5_with
    by_domain5 size hit = ap (step5_with (core_of path size hit)) (key_held domains (get_or (components path) 0 []) doms i (named h))

    pub dc_without : eqb (length (entry_at domains i doms).dcs) 0 ≡ true → (size : ℕ) (hit : Bool) → step5 (decode domains doms) (core_of path size hit) ≡ domain_request Dc (core_of path size hit) 0
    unfolding step5_domain dc_request domain_request
    dc_without t size hit = by_domain5 size hit ∙ choose_yes _ _ t

    pub dc_hinted_lem : eqb (length (entry_at domains i doms).dcs) 0 ≡ false → (size : ℕ) (hit : Bool)
        → step5 (decode domains doms) (core_of path size hit) ≡ domain_request (choose (is_sysvol path) Sysvol Root) (core_of path size hit) (entry_at domains i doms).hint
    unfolding step5_domain step10 step6 domain_request
    dc_hinted_lem t size hit = by_domain5 size hit ∙ (choose_no _ _ t ∙ go (told (is_sysvol path)))
      where
        go : (is_sysvol path ≡ true) ⊎ (is_sysvol path ≡ false)
            → choose (is_sysvol path) (step10 (core_of path size hit) (entry_at domains i doms)) (step6 (core_of path size hit) (entry_at domains i doms).hint (entry_at domains i doms).hint)
            ≡ domain_request (choose (is_sysvol path) Sysvol Root) (core_of path size hit) (entry_at domains i doms).hint
        go (inl s) = choose_yes _ _ s ∙ ap (λ k. domain_request k (core_of path size hit) (entry_at domains i doms).hint) (sym (choose_yes Sysvol Root s))
        go (inr s) = choose_no _ _ s ∙ ap (λ k. domain_request k (core_of path size hit) (entry_at domains i doms).hint) (sym (choose_no Sysvol Root s))
