-- Laws of what the steps find and put.
use Rattle.std.specs.Prelude.{Option, Some, None}
use mathlib.Core.Path.{◌≡◌, refl, sym, ap, ◌∙◌}
use mathlib.Core.Bool.{Bool, true, false, ◌&&◌}
use mathlib.Core.List.{List, []}
use mathlib.Core.Logic.{◌⊎◌, inl, inr}
use Prim.Native.Nat.{ℕ, zero, suc, ◌+◌, ◌-◌, ◌≤◌, ◌<◌}
use native.Mathlib.Omega.{arith}
use lib.ListN.{length, get_or, take, drop, length-take}
use lib.Seq.{length-take-le}
use lib.Dec.{leb}
use borrow.Author.Tests.{ne_eqb, le-leb, leb-true, eqb-true}
use Rattle.laws.specs.Choice.{choose}
use Rattle.laws.proofs.Choices.{choose_yes, choose_no, and_left, and_right}
use Rattle.laws.proofs.Orders.{told}
use Rattle.unc.specs.names.Paths.{components, first_of, path_units, normalised_count, is_normalised}
use Rattle.cache.specs.order.Entries.{Referral, Place}
use Rattle.cache.specs.order.Order.{good_prefix}
use Rattle.cache.proofs.order.KindLaws.{prefix_some}
use Rattle.unc.proofs.names.PieceLaws.{spans, first_over}
use Rattle.unc.proofs.names.SpanLaws.{span_start, span_some}
use Rattle.laws.specs.Lists.{part}
use Rattle.cache.specs.places.Layout.{place_count, text_at, room_at}
use Rattle.cache.specs.order.Memory.{referrals, decode, referral_of}
use Rattle.cache_lookup.specs.Lookup.{with_key}
use Rattle.cache_lookup.specs.Code.{entry_at}
use Rattle.walk_steps.specs.steps.Steps.{Core, Question, waits, ended, rests, asking}
use Rattle.walk_steps.specs.steps.Held.{asking_of, next_of, tried_of}
use Rattle.walk_steps.specs.steps.Code.{rested_of, ended_at, asked_at, root_at, root_in}
use Rattle.walk_steps.specs.declared.steps.End.TheVariants.{TooLong}
use Rattle.walk_steps.specs.declared.steps.Asking.{Asking}
use Rattle.walk_steps.specs.declared.steps.Next.TheVariants.{Asks}
use Rattle.walk_steps.specs.declared.steps.Rested.{Rested}
use Rattle.walk_steps.proofs.steps.HeldLaws.{key_fits}

-- it is what the steps do with a question that has no path tried
pub asked_rests : (left : ℕ) (w : Core) (q : Question) → q.tried ≡ [] → asked_at (asking_of q) (length w.path) left w.hit ≡ rested_of (asking left w q)
unfolding asked_at asking rested_of ended_at rests next_of tried_of choose
asked_rests zero w q h = refl
asked_rests (suc n) w q h =
    let z : suc n - 1 ≡ n = omega arith in
    let t : length q.tried ≡ 0 = ap length h in
    choose_no _ _ (ne_eqb (suc n) 0 (λ e. omega arith))
    ∙ ((λ j. record { next = Asks (asking_of q); path = length w.path; tried = sym t j; left = z j; hit = w.hit })
    ∙ ap rested_of (sym (choose_yes (rests w n (waits q)) (rests w (suc n) (ended TooLong 0 [])) (le-leb (length q.tried) path_units (omega arith)))))

-- one question for another of the same numbers
pub asked_as : {r : Rested} (left : ℕ) (w : Core) (q : Question) (a : Asking) {n : ℕ} → r ≡ asked_at a n left w.hit → a ≡ asking_of q → n ≡ length w.path → q.tried ≡ []
    → r ≡ rested_of (asking left w q)
asked_as left w q a e h g t = e ∙ ((λ j. asked_at (h j) (g j) left w.hit) ∙ asked_rests left w q t)

-- step 9's root entry
module _ (path raw : List ℕ) {f : Option ℕ} (e : f ≡ with_key referrals (first_of 2 path) (decode referrals raw)) where
  pub root_none : f ≡ None → None ≡ root_in path raw
  unfolding root_in root_at
  root_none h = sym (ap (root_at raw) (sym e ∙ h))

  module _ (i : ℕ) (h : f ≡ Some i) where
    pub root_fits : i < place_count raw
    root_fits = key_fits referrals (first_of 2 path) raw i (sym e ∙ h)

    pub root_there : {r : Bool} → r ≡ (entry_at referrals i raw).settings.root → r ≡ true → Some i ≡ root_in path raw
    unfolding root_in root_at
    root_there p t = sym (ap (root_at raw) (sym e ∙ h) ∙ choose_yes _ _ (sym p ∙ t))

    pub root_link : {r : Bool} → r ≡ (entry_at referrals i raw).settings.root → r ≡ false → None ≡ root_in path raw
    unfolding root_in root_at
    root_link p t = sym (ap (root_at raw) (sym e ∙ h) ∙ choose_no _ _ (sym p ∙ t))

-- a good path begins with a backslash
prefix_led : (s : List ℕ) → good_prefix s ≡ true → get_or s 0 0 ≡ 92
unfolding good_prefix normalised_count is_normalised
prefix_led s h = go (told (leb (length s) path_units && is_normalised s))
  where
    go : ((leb (length s) path_units && is_normalised s) ≡ true) ⊎ ((leb (length s) path_units && is_normalised s) ≡ false) → get_or s 0 0 ≡ 92
    go (inl t) = eqb-true _ 92 (and_left _ _ (and_right (leb (length s) path_units) _ t))
    go (inr t) = absurd (let z : leb 2 0 ≡ true = ap (leb 2) (sym (choose_no _ _ t)) ∙ h in let y : 2 ≤ 0 = leb-true 2 0 z in omega arith)

-- the first component, as a span
module _ (path : List ℕ) (good : good_prefix path ≡ true) {n : ℕ} (e : n ≡ length (first_of 1 path)) where
  starts : 0 ≡ length (first_of 0 path)
  starts =
      let h : 0 < length path = let z : 1 ≤ length path = prefix_some path good in omega arith in
      let z : 0 + length (first_of 0 (drop 0 path)) ≡ 0 = first_over 0 path 0 refl h (prefix_led path good) in
      omega arith

  pub host_start : 1 ≤ n
  host_start = span_start 0 path 0 starts n e (let z : 1 ≤ length path = prefix_some path good in omega arith)

  pub host_is : take (n - 1) (drop 1 path) ≡ get_or (components path) 0 []
  host_is = sym (span_some 0 path 0 starts n e (let z : 1 ≤ length path = prefix_some path good in omega arith))

pub first_within : (k : ℕ) (path : List ℕ) {n : ℕ} → n ≡ length (first_of k path) → n ≤ length path
first_within k path e = omega (arith, (spans k path).inside)

-- the first two components, as a part of the path
pub first_part : (path : List ℕ) (ps : List (Place Referral)) {n : ℕ} {f : Option ℕ} → n ≡ length (first_of 2 path) → f ≡ with_key referrals (take n path) ps
    → f ≡ with_key referrals (first_of 2 path) ps
first_part path ps e h = h ∙ ((λ j. with_key referrals (take (e j) path) ps) ∙ ap (λ (x : List ℕ). with_key referrals x ps) (spans 2 path).begin)

-- numbers that fit a unit
pub prefix_within : (i : ℕ) (raw : List ℕ) → length (entry_at referrals i raw).prefix ≤ 256
unfolding entry_at referral_of text_at room_at part
prefix_within i raw = simp (length-take, length-take) (omega arith)

pub length_first : (k : ℕ) (path : List ℕ) {n : ℕ} → n ≡ length (first_of k path) → length (take n path) ≡ n
length_first k path e = length-take-le _ path (first_within k path e)
