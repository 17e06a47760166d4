-- Laws of a move: a question put, a replacement, and where the steps come to rest.
use Rattle.std.specs.Prelude.{Option, None, Some}
use mathlib.Core.Path.{◌≡◌, refl, sym, ap, ◌∙◌, subst}
use mathlib.Core.Bool.{Bool, true, false, ◌&&◌}
use mathlib.Core.List.{List, [], ◌++◌}
use mathlib.Core.Logic.{◌⊎◌, inl, inr}
use Prim.Native.Nat.{ℕ, zero, suc, ◌-◌, ◌≤◌, ◌<◌}
use native.Mathlib.Omega.{arith}
use lib.ListN.{length, get_or, take, drop, replicate, length-take}
use lib.Seq.{length-take-le}
use lib.Dec.{leb}
use borrow.Author.Tests.{le-leb, leb-true, lt-leb}
use Rattle.laws.specs.Choice.{choose}
use Rattle.laws.specs.Lists.{part, pasted}
use Rattle.laws.proofs.Choices.{choose_yes, choose_no, and_left, and_right, and_both}
use Rattle.laws.proofs.Orders.{told}
use Rattle.unc.specs.names.Paths.{components, component_count, first_of, is_normalised, normalised_count, matches, replaced, path_units}
use Rattle.unc.specs.names.Code.{written_within}
use Rattle.unc.specs.names.Names.{same_name}
use Rattle.unc.proofs.names.MatchLaws.{at_end_lem, matches_units}
use Rattle.unc.proofs.names.NameLaws.{same_name_trans, same_name_length}
use Rattle.cache.proofs.order.KindLaws.{referral_told, prefix_some}
use Rattle.unc.proofs.names.WholeLaws.{replaced_normalised, replaced_count}
use Rattle.laws.specs.Lists.{every}
use Rattle.laws.proofs.Every.{every_at}
use Rattle.walk_steps.specs.walk_texts.Texts.{texts_of}
use Rattle.walk_steps.specs.walk_texts.Code.{with_tried, Standing}
use Rattle.walk_steps.proofs.walk_texts.TextLaws.{length_texts, put_fits, put_long, tried_taken, written_units, written_long}
use Rattle.cache.specs.order.Entries.{Referral, Domain}
use Rattle.cache.specs.order.Order.{good_referral, good_prefix, good_target}
use Rattle.cache.specs.order.Memory.{referrals, domains, decode}
use Rattle.cache_lookup.specs.Code.{entry_at}
use Rattle.cache_lookup.specs.Lookup.{target_path}
use Rattle.cache_store.specs.entry_after_reply.Stored.{prefixed}
use Rattle.walk_steps.specs.steps.Steps.{Caches, Core, Question, stops, asks, replaces, Resting, waits, ended, rests, asking, goes, hit_at, with_hit, with_path, step2, step3, step4, step5, step5_with, step5_domain, step6, step6_host, step10, dc_request, domain_named, step7, step8, step9, step9_with, step11, link_request}
use Rattle.walk_steps.specs.steps.Held.{caches_of, core_of, asking_of, next_of, tried_of}
use Rattle.walk_steps.specs.steps.Code.{rested_of, ended_at}
use Rattle.walk_steps.specs.declared.steps.Kind.TheVariants.{Io}
use Rattle.walk_steps.specs.declared.steps.End.{End}
use Rattle.walk_steps.specs.declared.steps.End.TheVariants.{LimitReached}
use Rattle.walk_steps.specs.declared.steps.End.TheVariants as ends
use Rattle.walk_steps.specs.declared.steps.Next.TheVariants.{Asks, Ends}
use Rattle.walk_steps.specs.declared.steps.Rested.{Rested}
use Rattle.walk_steps.specs.cycle.Code.{Packed, rested_with, packed, moved_to, Usable}

-- a question put: no move is left, its path tried is too long, or it waits
module _ (w : Core) (q : Question) where
  pub asking_limit : (left : ℕ) → left ≡ 0 → asking left w q ≡ rests w left (ended LimitReached 0 [])
  unfolding asking
  asking_limit zero h = refl
  asking_limit (suc n) h = absurd (omega arith)

  pub asking_long : (left : ℕ) → (left ≡ 0 → ⊥) → 256 < length q.tried → asking left w q ≡ rests w left (ended ends.TooLong 0 [])
  unfolding asking
  asking_long zero h u = absurd (h refl)
  asking_long (suc n) h u = choose_no _ _ (lt-leb (length q.tried) path_units u)

  pub asking_put : (left : ℕ) → (left ≡ 0 → ⊥) → length q.tried ≤ 256 → asking left w q ≡ rests w (left - 1) (waits q)
  unfolding asking
  asking_put zero h u = absurd (h refl)
  asking_put (suc n) h u =
      let z : n ≡ suc n - 1 = omega arith in
      choose_yes _ _ (le-leb (length q.tried) path_units u) ∙ ap (λ (m : ℕ). rests w m (waits q)) z

  -- one without a path tried leaves none
  pub asking_texts : (left : ℕ) → q.tried ≡ [] → (packed (asking left w q)).texts ≡ texts_of w.path []
  unfolding asking packed rests tried_of
  asking_texts zero h = refl
  asking_texts (suc n) h =
      let u : length q.tried ≤ 256 = let z : length q.tried ≡ 0 = ap length h in omega arith in
      ap (λ (x : Resting). texts_of x.core.path (tried_of x.rest)) (choose_yes (rests w n (waits q)) _ (le-leb (length q.tried) path_units u))
      ∙ ap (λ (l : List ℕ). texts_of w.path l) h

-- the path stands in its room
module _ (len : ℕ) (texts : List ℕ) (s : Standing len texts) where
  short : length (take len texts) ≤ 256
  short = let z : length (take len texts) ≤ len = simp length-take (omega arith) in omega (arith, s.few)

  pub standing_long : length texts ≡ 512
  standing_long = ap length s.stands ∙ length_texts (take len texts) [] short (omega arith)

  pub standing_path : length (take len texts) ≡ len
  standing_path = length-take-le len texts (omega (arith, s.few, standing_long))

  -- an end
  pub packed_end : (e : End) (status left size : ℕ) (hit : Bool) {r : Rested} → r ≡ ended_at e status len left hit
      → rested_with r texts ≡ packed (rests (core_of (take len texts) size hit) left (ended e status []))
  unfolding packed rests rested_of next_of tried_of ended_at
  packed_end e status left size hit h =
      λ j.
      record {
        rested = (h ∙ (λ k. record { next = Ends e status; path = sym standing_path k; tried = 0; left = left; hit = hit })) j;
        texts = s.stands j;
      }

  -- a question without a path tried
  pub packed_asked : (left size : ℕ) (hit : Bool) (q : Question) {r : Rested} → q.tried ≡ [] → r ≡ rested_of (asking left (core_of (take len texts) size hit) q)
      → rested_with r texts ≡ packed (asking left (core_of (take len texts) size hit) q)
  unfolding packed
  packed_asked left size hit q t h =
      λ j.
      record {
        rested = h j;
        texts = (s.stands ∙ sym (asking_texts (core_of (take len texts) size hit) q left t)) j;
      }

  -- the limit, before any question
  pub limit_rests : (left : ℕ) (hit : Bool) (size : ℕ) (q : Question) {r : Rested} → left ≡ 0 → r ≡ ended_at LimitReached 0 len left hit
      → rested_with r texts ≡ packed (asking left (core_of (take len texts) size hit) q)
  limit_rests left hit size q h e =
      packed_end LimitReached 0 left size hit e ∙ ap packed (sym (asking_limit (core_of (take len texts) size hit) q left h))

-- a prefix that matches is no longer than the path
pub matched_inside : (p s : List ℕ) → matches p s ≡ true → length p ≤ length s
matched_inside p s h =
    let e : length p ≡ length (take (length p) s) = same_name_length p (take (length p) s) (and_left _ _ (sym (matches_units p s) ∙ h)) in
    let l : length (take (length p) s) ≤ length s = simp length-take (omega arith) in
    omega arith

-- an equal name matches what the other matches
pub matches_same : (a b s : List ℕ) → same_name a b ≡ true → matches b s ≡ true → matches a s ≡ true
matches_same a b s h m =
    let u : (same_name b (take (length b) s) && at_end_lem (drop (length b) s)) ≡ true = sym (matches_units b s) ∙ m in
    let l : length b ≡ length a = sym (same_name_length a b h) in
    matches_units a s
    ∙ and_both
    (subst (λ (n : ℕ). same_name a (take n s) ≡ true) l (same_name_trans a b (take (length b) s) h (and_left _ _ u)))
    (subst (λ (n : ℕ). at_end_lem (drop n s) ≡ true) l (and_right (same_name b (take (length b) s)) _ u))

-- the new path of steps 3 and 11, by what the functions read
module _ (refs texts : List ℕ) (len i : ℕ) (s : Standing len texts) (u : Usable refs (take len texts) i) where
  pub prefix_inside : {p : List ℕ} → p ≡ (entry_at referrals i refs).prefix → length p ≤ len
  prefix_inside h =
      omega (arith, ap length h, matched_inside (entry_at referrals i refs).prefix (take len texts) u.matched, standing_path len texts s)

  pub hint_inside : {h : ℕ} → h ≡ (entry_at referrals i refs).hint → h < length (entry_at referrals i refs).targets
  hint_inside h = let z : (entry_at referrals i refs).hint < length (entry_at referrals i refs).targets = (referral_told (entry_at referrals i refs) u.good).hinted in omega arith

  -- put_target
  module _ (j : ℕ) {t p : List ℕ} (a : t ≡ target_path j (entry_at referrals i refs)) (b : p ≡ (entry_at referrals i refs).prefix) where
    pub new_path : replaced t (length p) (take len texts) ≡ replaced (target_path j (entry_at referrals i refs)) (length (entry_at referrals i refs).prefix) (take len texts)
    new_path = λ k. replaced (a k) (length (b k)) (take len texts)

    pub put_answer : {g : Option ℕ} → g ≡ written_within 256 (replaced t (length p) (take len texts))
        → g ≡ written_within 256 (replaced (target_path j (entry_at referrals i refs)) (length (entry_at referrals i refs).prefix) (take len texts))
    put_answer f = f ∙ ap (written_within 256) new_path

    pub put_rooms : {o : List ℕ} → o ≡ with_tried (replaced t (length p) (take len texts)) texts
        → o ≡ with_tried (replaced (target_path j (entry_at referrals i refs)) (length (entry_at referrals i refs).prefix) (take len texts)) texts
    put_rooms m = m ∙ ap (λ (l : List ℕ). with_tried l texts) new_path

  -- step 8
  module _ (j left began : ℕ) (hit : Bool) (moves : left ≡ 0 → ⊥) {g : Option ℕ}
      (f : g ≡ written_within 256 (replaced (target_path j (entry_at referrals i refs)) (length (entry_at referrals i refs).prefix) (take len texts))) {o : List ℕ}
      (m : o ≡ with_tried (replaced (target_path j (entry_at referrals i refs)) (length (entry_at referrals i refs).prefix) (take len texts)) texts) where
    new8 : List ℕ
    new8 = replaced (target_path j (entry_at referrals i refs)) (length (entry_at referrals i refs).prefix) (take len texts)

    pub step8_long : {r : Rested} → g ≡ None → r ≡ ended_at ends.TooLong 0 len left hit
        → (size : ℕ) → rested_with r o ≡ packed (asking left (core_of (take len texts) size hit) (step8 (core_of (take len texts) size hit) (entry_at referrals i refs) j began))
    unfolding step8 new8
    step8_long h r size =
        let x : 256 < length new8 = written_long 256 new8 (sym f ∙ h) in
        (λ k. rested_with (r k) (put_long new8 x m k))
        ∙ (packed_end len texts s ends.TooLong 0 left size hit refl
        ∙ ap packed (sym (asking_long (core_of (take len texts) size hit) (step8 (core_of (take len texts) size hit) (entry_at referrals i refs) j began) left moves x)))

    pub step8_put : (n : ℕ) → g ≡ Some n → {p : List ℕ} → p ≡ (entry_at referrals i refs).prefix → (size : ℕ)
        → rested_with (record { next = Asks (record { kind = Io; entry = length p; party = j; began = began; size = 0; uncovered = false }); path = len; tried = n; left = left - 1; hit = hit }) o
        ≡ packed (asking left (core_of (take len texts) size hit) (step8 (core_of (take len texts) size hit) (entry_at referrals i refs) j began))
    unfolding step8 packed rests rested_of next_of tried_of asking_of new8
    step8_put n h b size =
        let x = written_units 256 new8 n (sym f ∙ h) in
        let y : length new8 ≤ 256 = x.1 in
        let v : o ≡ texts_of (take len texts) new8 = put_fits (take len texts) new8 s.stands (short len texts s) y m in
        (λ k.
        record {
          rested = record {
            next = Asks (record { kind = Io; entry = length (b k); party = j; began = began; size = 0; uncovered = false });
            path = sym (standing_path len texts s) k;
            tried = x.0 k;
            left = left - 1;
            hit = hit;
          };
          texts = v k;
        })
        ∙ ap packed (sym (asking_put (core_of (take len texts) size hit) (step8 (core_of (take len texts) size hit) (entry_at referrals i refs) j began) left moves y))

-- step 11
module _ (texts : List ℕ) (len : ℕ) (s : Standing len texts) {new path : List ℕ} (at : new ≡ path) {g : Option ℕ} (f : g ≡ written_within 256 new) {o : List ℕ}
    (m : o ≡ with_tried new texts) where
  pub step11_answer : (r : Option ℕ) → g ≡ r → r ≡ written_within 256 path
  step11_answer r q = sym q ∙ (f ∙ ap (written_within 256) at)

  pub step11_long : g ≡ None → o ≡ moved_to path texts
  unfolding moved_to
  step11_long q =
      let x : 256 < length new = written_long 256 new (sym f ∙ q) in
      put_long new x m ∙ sym (choose_no _ _ (lt-leb _ _ (subst (λ (l : List ℕ). 256 < length l) at x)))

  module _ (n : ℕ) (q : g ≡ Some n) where
    fits11 : length new ≤ 256
    fits11 = (written_units 256 new n (sym f ∙ q)).1

    rooms11 : o ≡ texts_of (take len texts) new
    rooms11 = put_fits (take len texts) new s.stands (short len texts s) fits11 m

    pub step11_room : 512 ≤ length o
    step11_room = omega (arith, ap length rooms11, length_texts (take len texts) new (short len texts s) fits11)

    pub step11_moved : {v : List ℕ} → v ≡ pasted o 0 (part 256 256 o ++ replicate 256 0) → v ≡ moved_to path texts
    unfolding moved_to
    step11_moved d =
        d
        ∙ ((λ k. let z : List ℕ = rooms11 k in pasted z 0 (part 256 256 z ++ replicate 256 0))
        ∙ (tried_taken (take len texts) new (short len texts s) fits11
        ∙ (ap (λ (l : List ℕ). texts_of l []) at
        ∙ sym (choose_yes _ _ (le-leb _ _ (subst (λ (l : List ℕ). length l ≤ 256) at fits11))))))

-- the try at the target hinted at
pub hinted_try : (left : ℕ) (p : List ℕ) (hit : Bool) (i : ℕ) (refs : List ℕ) {h : ℕ} {x : Packed}
    → ((size : ℕ) → x ≡ packed (asking left (core_of p size hit) (step8 (core_of p size hit) (entry_at referrals i refs) h h))) → h ≡ (entry_at referrals i refs).hint
    → (size : ℕ) → x ≡ packed (asking left (core_of p size hit) (step3 (core_of p size hit) (entry_at referrals i refs)))
unfolding step3
hinted_try left p hit i refs e g size = e size ∙ ap (λ (k : ℕ). packed (asking left (core_of p size hit) (step8 (core_of p size hit) (entry_at referrals i refs) k k))) g

-- what is called for
pub goes_asks : (n : ℕ) (c : Caches) (clock : ℕ) (w : Core) (q : Question) → goes n c clock w (asks q) ≡ asking n w q
unfolding goes
goes_asks zero c clock w q = refl
goes_asks (suc n) c clock w q = refl

pub goes_stops : (n : ℕ) (c : Caches) (clock : ℕ) (w : Core) (e : End) (status : ℕ) (tried : List ℕ) → goes n c clock w (stops e status tried) ≡ rests w n (ended e status tried)
unfolding goes
goes_stops zero c clock w e status tried = refl
goes_stops (suc n) c clock w e status tried = refl

host_hit : (p : List ℕ) (s : ℕ) (h g : Bool) → step5_with (core_of p s h) None ≡ step5_with (core_of p s g) None
unfolding step5_with step6_host
host_hit p s h g = refl

with_hit_lem : (p : List ℕ) (s : ℕ) (h g : Bool) (d : Domain) → step5_with (core_of p s h) (Some d) ≡ step5_with (core_of p s g) (Some d)
unfolding step5_with step5_domain dc_request step10 step6
with_hit_lem p s h g d = refl

target_good : (e : Referral) → every good_target e.targets ≡ true → e.hint < length e.targets → good_prefix (target_path e.hint e) ≡ true
unfolding target_path good_target
target_good e h u = every_at good_target e.targets h e.hint _ u

pub step5_hit : (raw p : List ℕ) (s : ℕ) (h g : Bool) → step5 (decode domains raw) (core_of p s h) ≡ step5 (decode domains raw) (core_of p s g)
unfolding step5
step5_hit raw p s h g = go (domain_named (get_or (components p) 0 []) (decode domains raw))
  where
    go : (o : Option Domain) → step5_with (core_of p s h) o ≡ step5_with (core_of p s g) o
    go None = host_hit p s h g
    go (Some d) = with_hit_lem p s h g d

-- steps 9 and 7, whatever the hit
pub step9_hit : (refs doms p : List ℕ) (s : ℕ) (h g : Bool) → step9 (caches_of refs doms) (core_of p s h) ≡ step9 (caches_of refs doms) (core_of p s g)
unfolding step9 caches_of step9_with link_request
step9_hit refs doms p s h g = go (prefixed (first_of 2 p) (decode referrals refs))
  where
    go : (o : Option Referral) → step9_with (caches_of refs doms) (core_of p s h) o ≡ step9_with (caches_of refs doms) (core_of p s g) o
    go None = step5_hit doms p s h g
    go (Some e) = ap (choose e.settings.root (link_request (core_of p s h) (length e.prefix) e.hint e.hint false)) (step5_hit doms p s h g)

pub step7_hit : (p : List ℕ) (s : ℕ) (h g : Bool) (e : Referral) → step7 (core_of p s h) e ≡ step7 (core_of p s g) e
unfolding step7 step4 step3 step8 step11
step7_hit p s h g e = refl

-- a replacement
module _ (c : Caches) (clock : ℕ) (w : Core) (p : List ℕ) where
  pub replaces_limit : (left : ℕ) → left ≡ 0 → goes left c clock w (replaces p) ≡ rests w left (ended LimitReached 0 [])
  unfolding goes
  replaces_limit zero h = refl
  replaces_limit (suc n) h = absurd (omega arith)

  pub replaces_long : (left : ℕ) → (left ≡ 0 → ⊥) → 256 < length p → goes left c clock w (replaces p) ≡ rests w left (ended ends.TooLong 0 [])
  unfolding goes
  replaces_long zero h u = absurd (h refl)
  replaces_long (suc n) h u = choose_no _ _ (lt-leb (length p) path_units u)

  pub replaces_made : (left : ℕ) → (left ≡ 0 → ⊥) → length p ≤ 256
      → goes left c clock w (replaces p) ≡ goes (left - 1) c clock (with_hit (hit_at c (with_path p w)) (with_path p w)) (step2 c (with_path p w) clock)
  unfolding goes
  replaces_made zero h u = absurd (h refl)
  replaces_made (suc n) h u =
      let z : n ≡ suc n - 1 = omega arith in
      choose_yes _ _ (le-leb (length p) path_units u)
      ∙ ap (λ (m : ℕ). goes m c clock (with_hit (hit_at c (with_path p w)) (with_path p w)) (step2 c (with_path p w) clock)) z

-- the path replaced by a good entry's target is good
record GoodPath (s : List ℕ) : Type 0 where
  short_path : length s ≤ 256
  normal : is_normalised s ≡ true
  two : 2 ≤ component_count s

good_told : (s : List ℕ) → good_prefix s ≡ true → GoodPath s
unfolding good_prefix normalised_count
good_told s h = go (told (leb (length s) path_units && is_normalised s))
  where
    go : ((leb (length s) path_units && is_normalised s) ≡ true) ⊎ ((leb (length s) path_units && is_normalised s) ≡ false) → GoodPath s
    go (inl t) = record {
      short_path = leb-true _ _ (and_left (leb (length s) path_units) _ t);
      normal = and_right (leb (length s) path_units) _ t;
      two = leb-true 2 _ (ap (leb 2) (sym (choose_yes _ _ t)) ∙ h);
    }
    go (inr t) = absurd (let z : 2 ≤ 0 = leb-true 2 0 (ap (leb 2) (sym (choose_no _ _ t)) ∙ h) in omega arith)

good_made : (s : List ℕ) → GoodPath s → good_prefix s ≡ true
unfolding good_prefix normalised_count
good_made s g = ap (leb 2) (choose_yes _ _ (and_both (le-leb _ _ g.short_path) g.normal)) ∙ le-leb 2 _ g.two

pub new_good : (path : List ℕ) (e : Referral) → good_prefix path ≡ true → good_referral e ≡ true → matches e.prefix path ≡ true
    → length (replaced (target_path e.hint e) (length e.prefix) path) ≤ 256 → good_prefix (replaced (target_path e.hint e) (length e.prefix) path) ≡ true
new_good path e h g m u =
    let t = referral_told e g in
    let a : GoodPath (target_path e.hint e) = good_told _ (target_good e t.each t.hinted) in
    good_made _ (record {
      short_path = u;
      normal = replaced_normalised (target_path e.hint e) e.prefix path a.normal (good_told path h).normal m (let z : 1 ≤ length e.prefix = prefix_some e.prefix t.prefixed in omega arith);
      two = let z : component_count (target_path e.hint e) ≤ component_count (replaced (target_path e.hint e) (length e.prefix) path) = replaced_count (target_path e.hint e) (length e.prefix) path in omega (arith, a.two);
    })
