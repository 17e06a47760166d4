-- Events: a start and the answers to a proper rest rest properly, for every number of moves left.
use Rattle.std.specs.Prelude.{Option, None, Some}
use mathlib.Core.Path.{◌≡◌, refl, sym, ap, subst}
use mathlib.Core.Bool.{true, false, true≢false}
use mathlib.Core.List.{List, []}
use Prim.Native.Nat.{ℕ, ◌≤◌}
use native.Mathlib.Omega.{arith}
use lib.ListN.{length}
use lib.Dec.{eqb}
use borrow.Author.Tests.{le-leb, eqb-false}
use Rattle.laws.proofs.Choices.{choose_yes, and_both}
use Rattle.unc.specs.names.Paths.{component_count, normalised_count, good_path, normalised, body}
use Rattle.unc.proofs.names.FormLaws.{count_normalised}
use Rattle.unc.proofs.names.PieceLaws.{pieces_some}
use Rattle.unc.proofs.names.WholeLaws.{normalised_is}
use Rattle.cache.specs.order.Order.{good_prefix}
use Rattle.cache_store.specs.domain_cache.Domains.{good_size}
use Rattle.walk_steps.specs.steps.Steps.{Caches, Core, ends, Turn, Rest, waits, ended, turned, started, from_step2, with_hit, referral_answered, io_answered}
use Rattle.walk_steps.specs.declared.steps.Kind.{Kind}
use Rattle.walk_steps.specs.declared.steps.Kind.TheVariants.{Dc, Root, Link, Sysvol, Io}
use Rattle.walk_steps.specs.declared.steps.End.TheVariants.{NotDfs}
use Rattle.walk_form.specs.held.Walks.{has_tried, good_tried, end_tried, end_status}
use Rattle.walk_steps.proofs.cycle.MoveLaws.{goes_stops}
use Rattle.walk_calls.specs.calls.Calls.{referral_event, io_event}
use Rattle.theorems.specs.keeps.Code.{GoodCaches, Proper}
use Rattle.theorems.specs.keeps.Named.{referral_names, io_names, domain_names, Elsewhere}
use Rattle.theorems.proofs.keeps.PrefixLaws.{Normal, normal_told, good_made}
use Rattle.theorems.proofs.keeps.CalledLaws.{picked, chosen, well_step2}
use Rattle.theorems.proofs.keeps.RestLaws.{GoodTurn, proper_end, turned_proper}
use Rattle.theorems.proofs.keeps.AnswerLaws.{answered_turn, tried_turn}
use Rattle.theorems.proofs.keeps.NamedLaws.{answered_elsewhere, tried_elsewhere}

-- a good path, normalised, that is not too long
pub path_counted : (path : List ℕ) → good_path path ≡ true → length (normalised path) ≤ 256 → 1 ≤ normalised_count (normalised path)
unfolding normalised_count normalised
path_counted path h l =
    let c : 1 ≤ component_count (normalised path) = omega (arith, count_normalised (body path), ap length (pieces_some (body path))) in
    subst (λ (n : ℕ). 1 ≤ n) (sym (choose_yes _ _ (and_both (le-leb (length (normalised path)) 256 l) (normalised_is path h)))) c

-- a start
pub started_proper : (c : Caches) → GoodCaches c → (w : Core) → good_size w.size ≡ true → 1 ≤ normalised_count w.path → (n clock : ℕ)
    → Proper (turned n clock (started c w clock)).core (turned n clock (started c w clock)).rest
unfolding started turned good_tried end_tried end_status from_step2 with_hit
started_proper c cs w size h n clock = picked Fit (eqb (component_count w.path) 1) (record { caches = c; core = w; called = ends NotDfs 0 }) (from_step2 c w clock) (λ t. alone) (λ t. more t)
  where
    Fit : Turn → Type 0
    Fit t = Proper (turned n clock t).core (turned n clock t).rest

    alone : Fit (record { caches = c; core = w; called = ends NotDfs 0 })
    alone = subst (λ (x : _). Proper x.core x.rest) (sym (goes_stops n c clock w NotDfs 0 [])) (proper_end w size n NotDfs 0 [] h refl)

    more : eqb (component_count w.path) 1 ≡ false → Fit (from_step2 c w clock)
    more t =
        let k : component_count w.path ≡ 1 → ⊥ = eqb-false (component_count w.path) 1 t in
        let n' : Normal w.path = normal_told w.path h in
        let g : good_prefix w.path ≡ true =
        good_made w.path (record { short = n'.short; normal = n'.normal; two = omega (arith, n'.count) }) in
        turned_proper n clock (from_step2 c w clock) (record { caches = cs; path = g; size = size; called = well_step2 w g size c cs.refs clock })

-- the event of an answer, if there is one
module _ (P : Turn → Type 0) where
  unfoldable pub If : Option Turn → Type 0
  If o = (t : Turn) → o ≡ Some t → P t

  pub if_none : If None
  unfolding If
  if_none t h = absurd (let z : ◌≡◌ {A = ℕ} 0 1 = cc in omega arith)

  pub if_some : (x : Turn) → P x → If (Some x)
  unfolding If
  if_some x g t h = subst P (let z : x ≡ t = cc in z) g

pub is_io : (k : Kind) → has_tried k ≡ true → k ≡ Io
unfolding has_tried
is_io Dc h = absurd (true≢false (sym h))
is_io Root h = absurd (true≢false (sym h))
is_io Link h = absurd (true≢false (sym h))
is_io Sysvol h = absurd (true≢false (sym h))
is_io Io h = refl

module _ (c : Caches) (w : Core) where
  -- it changes no place but those that it names
  pub referral_elsewhere : (r : Rest) (status : ℕ) (reply : List ℕ) (clock : ℕ) (t : Turn) → referral_event c w r status reply clock ≡ Some t
      → Elsewhere (referral_names c w r reply clock) (domain_names c w r) c t.caches
  unfolding referral_event referral_names domain_names If
  referral_elsewhere (ended e s tried) status reply clock = if_none _
  referral_elsewhere (waits q) status reply clock = chosen (If Fit) (has_tried q.kind) _ _ (if_none Fit) (if_some Fit _ (answered_elsewhere c w q status reply clock))
    where
      Fit : Turn → Type 0
      Fit t = Elsewhere (referral_names c w (waits q) reply clock) (domain_names c w (waits q)) c t.caches

  pub io_elsewhere : (r : Rest) (status : ℕ) (t : Turn) → io_event c w r status ≡ Some t → Elsewhere (io_names c w r) (domain_names c w r) c t.caches
  unfolding io_event io_names domain_names If
  io_elsewhere (ended e s tried) status = if_none _
  io_elsewhere (waits q) status = chosen (If Fit) (has_tried q.kind) _ _ (if_some Fit _ (tried_elsewhere c w q status)) (if_none Fit)
    where
      Fit : Turn → Type 0
      Fit t = Elsewhere (io_names c w (waits q)) (domain_names c w (waits q)) c t.caches

module _ (c : Caches) (cs : GoodCaches c) (w : Core) where
  -- it is good
  pub referral_good : (r : Rest) → Proper w r → (status : ℕ) (reply : List ℕ) (clock : ℕ) (t : Turn) → referral_event c w r status reply clock ≡ Some t → GoodTurn t
  unfolding referral_event If
  referral_good (ended e s tried) p status reply clock = if_none GoodTurn
  referral_good (waits q) p status reply clock =
      picked (If GoodTurn) (has_tried q.kind) None (Some (referral_answered c w q status reply clock)) (λ h. if_none GoodTurn)
      (λ h. if_some GoodTurn _ (answered_turn c cs w q p h status reply clock))

  pub io_good : (r : Rest) → Proper w r → (status : ℕ) (t : Turn) → io_event c w r status ≡ Some t → GoodTurn t
  unfolding io_event If
  io_good (ended e s tried) p status = if_none GoodTurn
  io_good (waits q) p status =
      picked (If GoodTurn) (has_tried q.kind) (Some (io_answered c w q status)) None (λ h. if_some GoodTurn _ (tried_turn c cs w q p (is_io q.kind h) status))
      (λ h. if_none GoodTurn)

  -- and where the steps rest is proper
  pub answered_proper : (r : Rest) → Proper w r → (status : ℕ) (reply : List ℕ) (clock : ℕ) (t : Turn) → referral_event c w r status reply clock ≡ Some t
      → (n : ℕ) → Proper (turned n clock t).core (turned n clock t).rest
  answered_proper r p status reply clock t h n = turned_proper n clock t (referral_good r p status reply clock t h)

  pub tried_proper : (r : Rest) → Proper w r → (status clock : ℕ) (t : Turn) → io_event c w r status ≡ Some t
      → (n : ℕ) → Proper (turned n clock t).core (turned n clock t).rest
  tried_proper r p status clock t h n = turned_proper n clock t (io_good r p status t h)
