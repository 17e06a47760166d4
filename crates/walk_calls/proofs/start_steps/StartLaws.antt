-- Laws of a start whose path has been tested.
use mathlib.Core.Path.{◌≡◌, sym, ap, ◌∙◌, subst}
use mathlib.Core.Bool.{Bool, true, false}
use mathlib.Core.List.{List, [], ◌++◌, append-nil}
use mathlib.Core.Logic.{◌⊎◌, inl, inr}
use Prim.Native.Nat.{ℕ, ◌+◌, ◌≤◌}
use native.Mathlib.Omega.{arith}
use lib.ListN.{length, take, drop, replicate, length-replicate, drop_of_length-le}
use lib.Seq.{length-take-le, take_at, drop_at}
use lib.Dec.{eqb, leb}
use borrow.Author.Tests.{eq-eqb, ne_eqb, le-leb}
use Rattle.std.specs.Prelude.{Err, Result}
use Rattle.laws.specs.Lists.{pasted}
use Rattle.laws.specs.Choice.{choose}
use Rattle.laws.proofs.Choices.{choose_yes, choose_no, and_both}
use Rattle.laws.proofs.Orders.{told}
use Rattle.unc.specs.names.Paths.{is_normalised, component_count, normalised_count, path_units}
use Rattle.unc.specs.names.Code.{form_within, room_after}
use Rattle.unc.specs.declared.names.Form.{Form}
use Rattle.unc.specs.declared.names.PathError.{PathError}
use Rattle.cache.specs.order.Order.{good_prefix}
use Rattle.walk_steps.specs.steps.Steps.{Caches, Core, ends, Turn, started, from_step2, hit_at, with_hit, step2, turned}
use Rattle.walk_steps.specs.steps.Held.{caches_of, core_of}
use Rattle.walk_steps.specs.steps.Code.{core_at, rested_at}
use Rattle.walk_steps.specs.declared.steps.End.TheVariants.{NotDfs}
use Rattle.walk_steps.specs.declared.steps.Next.TheVariants.{Ends}
use Rattle.walk_steps.specs.declared.steps.Progress.{Progress}
use Rattle.walk_steps.specs.declared.steps.Rested.{Rested}
use Rattle.walk_steps.specs.cycle.Code.{Packed, rested_with, packed, Ready}
use Rattle.walk_steps.proofs.cycle.MoveLaws.{standing_path, packed_end, goes_stops}
use Rattle.walk_store.proofs.after_reply.RestLaws.{Kept, kept_goes, rest_left, rest_path}
use Rattle.walk_form.specs.held.Walks.{good_settings}
use Rattle.walk_form.specs.declared.held.Walk.{Walk}
use Rattle.walk_calls.specs.call_end.Closing.{Left, refused, closes}
use Rattle.walk_calls.specs.call_end.Code.{closed_rest}
use Rattle.walk_calls.specs.declared.call_end.Refusal.TheVariants.{BadSettings, OutOfForm}
use Rattle.walk_calls.proofs.call_end.RestLaws.{closed_rest_lem}
use Rattle.walk_calls.specs.start_steps.Code.{path_rooms, start_at, start_rooms, Begun}

-- a normalised path of two components or more is good
good_counted : (s : List ℕ) → length s ≤ 256 → is_normalised s ≡ true → 2 ≤ component_count s → good_prefix s ≡ true
unfolding good_prefix normalised_count
good_counted s l n h = ap (leb 2) (choose_yes _ _ (and_both (le-leb _ _ l) n)) ∙ le-leb 2 _ h

blank_length : (n : ℕ) → length (replicate {A = ℕ} n 0) ≡ n
blank_length n = length-replicate {A = ℕ} n 0

-- the path into its room
module _ (n : ℕ) (rooms : List ℕ) {m : List ℕ} (long : length rooms ≡ n + n) (e : m ≡ pasted rooms n (replicate n 0)) where
  split : m ≡ take n rooms ++ replicate n 0
  unfolding pasted
  split =
      e
      ∙ (ap (λ (l : List ℕ). take n rooms ++ (replicate n 0 ++ l)) (let z : length rooms ≤ n + length (replicate n 0) = omega (arith, blank_length n) in drop_of_length-le rooms z)
      ∙ ap (λ (l : List ℕ). take n rooms ++ l) (append-nil (replicate n 0)))

  half : length (take n rooms) ≡ n
  half = length-take-le n rooms (omega arith)

  pub cleared_take : take n m ≡ take n rooms
  cleared_take = ap (take n) split ∙ take_at (take n rooms) (replicate n 0) n half

  pub cleared_drop : drop n m ≡ replicate n 0
  cleared_drop = ap (drop n) split ∙ drop_at (take n rooms) (replicate n 0) n half

  pub cleared_half : n ≡ length (take n m)
  cleared_half = sym (ap length cleared_take ∙ half)

pub path_put : (path rooms : List ℕ) {m o : List ℕ} → length rooms ≡ 512 → m ≡ pasted rooms 256 (replicate 256 0) → o ≡ room_after path (take 256 m)
    → o ++ drop 256 m ≡ path_rooms path rooms
unfolding path_rooms
path_put path rooms l e h = λ j. (h ∙ ap (room_after path) (cleared_take 256 rooms l e)) j ++ cleared_drop 256 rooms l e j

pub form_put : (path rooms : List ℕ) {m : List ℕ} {f : Result Form PathError} → length rooms ≡ 512 → m ≡ pasted rooms 256 (replicate 256 0) → f ≡ form_within (length (take 256 m)) path
    → f ≡ form_within path_units path
form_put path rooms l e h = h ∙ ap (λ (n : ℕ). form_within n path) (sym (cleared_half 256 rooms l e))

-- the first rest
module _ (refs doms rooms : List ℕ) (g : Progress) (k : ℕ) (b : Begun refs rooms g.len k) where
  pub first_alone : {r : Rested} → k ≡ 1 → r ≡ rested_at (Ends NotDfs 0) g.len g.left g.hit
      → rested_with r rooms ≡ packed (turned g.left g.clock (started (caches_of refs doms) (core_at g rooms) g.clock))
  unfolding turned started rested_at
  first_alone h e =
      packed_end g.len rooms b.standing NotDfs 0 g.left g.size g.hit e
      ∙ (ap packed (sym (goes_stops g.left (caches_of refs doms) g.clock (core_at g rooms) NotDfs 0 []))
      ∙ ap (λ (t : Turn). packed (turned g.left g.clock t)) (sym (choose_yes _ _ (eq-eqb _ 1 (sym b.count ∙ h)))))

  module _ (h : k ≡ 1 → ⊥) where
    pub first_ready : Ready refs rooms g.len
    first_ready = record { order = b.order; standing = b.standing; good = first_good }
      where
        first_good : good_prefix (take g.len rooms) ≡ true
        first_good =
            good_counted (take g.len rooms) (omega (arith, standing_path g.len rooms b.standing, b.standing.few)) b.normal (omega (arith, b.count, b.some))

    pub first_moved : {x : Packed} → x ≡ packed (turned g.left g.clock (from_step2 (caches_of refs doms) (core_at g rooms) g.clock))
        → x ≡ packed (turned g.left g.clock (started (caches_of refs doms) (core_at g rooms) g.clock))
    unfolding started
    first_moved e =
        e
        ∙ ap (λ (t : Turn). packed (turned g.left g.clock t))
        (sym (choose_no _ (from_step2 (caches_of refs doms) (core_at g rooms) g.clock) (ne_eqb _ 1 (λ z. h (b.count ∙ z)))))

-- a start with a good path, by its tests
module _ (refs doms texts : List ℕ) (walk : Walk) (path boot : List ℕ) (limit size clock : ℕ) (out : List ℕ) {s : Bool} (p : s ≡ good_settings limit size boot) where
  pub at_settings : s ≡ false → refused (Err BadSettings) walk texts out ≡ start_at refs doms texts walk path boot limit size clock out
  unfolding start_at
  at_settings u = sym (choose_no _ _ (sym p ∙ u))

  pub at_texts : s ≡ true → (length texts ≡ 768 → ⊥) → refused (Err OutOfForm) walk texts out ≡ start_at refs doms texts walk path boot limit size clock out
  unfolding start_at
  at_texts u v = sym (choose_yes _ _ (sym p ∙ u) ∙ choose_no _ _ (ne_eqb _ 768 v))

  pub at_taken : s ≡ true → length texts ≡ 768 → {x : Left}
      → x ≡ closes limit boot (turned limit clock (started (caches_of refs doms) (core_of path size false) clock)) walk texts out
      → x ≡ start_at refs doms texts walk path boot limit size clock out
  unfolding start_at
  at_taken u v d = d ∙ sym (choose_yes _ _ (sym p ∙ u) ∙ choose_yes _ _ (eq-eqb _ 768 v))

pub kept_started : (n : ℕ) (c : Caches) (clock : ℕ) (w : Core) → length w.path ≤ 256 → Kept n w (turned n clock (started c w clock))
unfolding turned started from_step2 with_hit
kept_started n c clock w h = go (told (eqb (component_count w.path) 1))
  where
    go : (eqb (component_count w.path) 1 ≡ true) ⊎ (eqb (component_count w.path) 1 ≡ false)
        → Kept n w (turned n clock (choose (eqb (component_count w.path) 1) (record { caches = c; core = w; called = ends NotDfs 0 }) (from_step2 c w clock)))
    go (inl t) = subst (λ (x : Turn). Kept n w (turned n clock x)) (sym (choose_yes _ (from_step2 c w clock) t)) (kept_goes n c clock w (ends NotDfs 0) h)
    go (inr t) =
        let k = kept_goes n c clock (with_hit (hit_at c w) w) (step2 c w clock) h in
        subst (λ (x : Turn). Kept n w (turned n clock x)) (sym (choose_no (record { caches = c; core = w; called = ends NotDfs 0 }) (from_step2 c w clock) t))
        (record { size_kept = k.size_kept; left_kept = k.left_kept; path_kept = k.path_kept })

-- a start that rests: its numbers fit, and it is closed
module _ (refs doms rooms : List ℕ) (n k limit size clock : ℕ) (b : Begun refs rooms n k) (r : Rested) (o : List ℕ)
    (e : rested_with r o ≡ packed (turned limit clock (started (caches_of refs doms) (core_of (take n rooms) size false) clock))) where
  all_kept : Kept limit (core_of (take n rooms) size false) (turned limit clock (started (caches_of refs doms) (core_of (take n rooms) size false) clock))
  all_kept = kept_started limit (caches_of refs doms) clock (core_of (take n rooms) size false) (omega (arith, standing_path n rooms b.standing, b.standing.few))

  pub first_left : r.left ≤ limit
  first_left = rest_left _ r o e limit (core_of (take n rooms) size false) all_kept

  pub first_path : r.path ≤ 256
  first_path = rest_path _ r o e limit (core_of (take n rooms) size false) all_kept

  pub first_closed : (boot : List ℕ) (walk : Walk) (texts out : List ℕ) {x : Left} → x ≡ closed_rest limit size boot r o walk texts out
      → x ≡ closes limit boot (turned limit clock (started (caches_of refs doms) (core_of (take n rooms) size false) clock)) walk texts out
  first_closed boot walk texts out h = h ∙ closed_rest_lem _ r o e limit size boot walk texts out all_kept.size_kept

-- the rooms
module _ (refs doms texts path boot : List ℕ) (limit size clock : ℕ) (rooms : List ℕ) {g : Bool} (s : g ≡ good_settings limit size boot) where
  pub rooms_settings : g ≡ false → rooms ≡ start_rooms refs doms texts path boot limit size clock rooms
  unfolding start_rooms
  rooms_settings e = sym (choose_no _ _ (sym s ∙ e))

  pub rooms_texts : g ≡ true → (length texts ≡ 768 → ⊥) → rooms ≡ start_rooms refs doms texts path boot limit size clock rooms
  unfolding start_rooms
  rooms_texts e n = sym (choose_yes _ _ (sym s ∙ e) ∙ choose_no _ _ (ne_eqb _ _ n))

  pub rooms_taken : g ≡ true → length texts ≡ 768 → {r : Rested} {after : List ℕ}
      → rested_with r after ≡ packed (turned limit clock (started (caches_of refs doms) (core_of path size false) clock))
      → after ≡ start_rooms refs doms texts path boot limit size clock rooms
  unfolding start_rooms
  rooms_taken e l p = ap (λ (x : Packed). x.texts) p ∙ sym (choose_yes _ _ (sym s ∙ e) ∙ choose_yes _ _ (eq-eqb _ _ l))
