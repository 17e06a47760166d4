-- Laws of the points of the steps.
use Rattle.std.specs.Prelude.{Option, Some, None}
use mathlib.Core.Path.{◌≡◌, refl, sym, ap, ◌∙◌, subst}
use mathlib.Core.Bool.{Bool, true, false}
use mathlib.Core.List.{List, []}
use mathlib.Core.Logic.{◌⊎◌, inl, inr}
use Prim.Native.Nat.{ℕ, ◌+◌, ◌*◌, ◌-◌, ◌/◌, ◌%◌, ◌≤◌, ◌<◌}
use native.Mathlib.Omega.{arith}
use lib.ListN.{length, take}
use lib.Dec.{eqb}
use borrow.Author.Tests.{le-leb, lt-leb, eq-eqb, ne_eqb, eqb-true}
use Rattle.std.specs.Int.{from_bool}
use Rattle.laws.specs.Choice.{choose}
use Rattle.laws.proofs.Choices.{choose_yes, choose_no}
use Rattle.laws.proofs.Tests.{not_both}
use Rattle.laws.proofs.Orders.{told}
use Rattle.unc.specs.names.Code.{written_within}
use Rattle.unc.specs.names.Paths.{is_sysvol, replaced}
use Rattle.walk_steps.specs.walk_texts.Texts.{texts_of}
use Rattle.walk_steps.specs.walk_texts.Code.{Standing}
use Rattle.walk_steps.proofs.walk_texts.TextLaws.{path_in_lem, taken_stands, written_units, written_long}
use Rattle.cache.specs.places.Layout.{place_count}
use Rattle.cache.specs.order.Order.{good_prefix}
use Rattle.cache.specs.order.Memory.{referrals, domains, decode, in_order}
use Rattle.cache.proofs.order.MemoryLaws.{cache_told, order_good, length_decode}
use Rattle.cache_lookup.specs.Lookup.{longest_match, target_path}
use Rattle.cache_lookup.specs.Code.{entry_at}
use Rattle.cache.specs.order.Entries.{Referral}
use Rattle.walk_steps.specs.declared.steps.Kind.{Kind}
use Rattle.walk_steps.specs.declared.steps.Kind.TheVariants.{Dc, Root, Link, Sysvol}
use Rattle.walk_steps.specs.steps.Steps.{Core, Question, asks, asking, goes, turned, from_step2, step3, step5, step6_host, step11, link_request}
use Rattle.walk_steps.specs.steps.Held.{caches_of, core_of, asking_of}
use Rattle.walk_steps.specs.steps.Code.{ended_at, asked_at, domain_asking, root_in}
use Rattle.walk_steps.specs.declared.steps.End.TheVariants.{LimitReached}
use Rattle.walk_steps.specs.declared.steps.End.TheVariants as ends
use Rattle.walk_steps.specs.declared.steps.Asking.{Asking}
use Rattle.walk_steps.specs.declared.steps.Rested.{Rested}
use Rattle.walk_steps.specs.cycle.Code.{Packed, rested_with, packed, steps_from, called_after, moved_to, Ready, Usable, due2, due5, due9, due7, due11, to_try, ask_link, ask_dc, ask_domain, ask_host, too_long, nowhere, no_dc, what_of, place_in, hit_in, units_of, left_of, Parts, domain_request, kind_of_case, link_at, question_of_case, called_at, turn_at, steps_by, steps_at, Point, Halted, SameSteps, SameRest, FoundAt, DcAt, Sought, after_match, Matched, replaced_at}
use Rattle.walk_steps.proofs.steps.HeldLaws.{longest_fits, longest_good, longest_matches}
use Rattle.walk_steps.proofs.steps.StepLaws.{asked_as}
use Rattle.walk_steps.proofs.cycle.MoveLaws.{new_good, goes_asks, packed_asked, packed_end, goes_stops, replaces_limit}
use Rattle.walk_steps.proofs.cycle.CaseLaws.{by2, by5, by7, by11, by_try, by_long, two_none, two_at, after_range, five_host, five_without, five_dc, nine_none, nine_at, root_fits, seven_root, four_sysvol, four_other, four_interlink, eleven_long, eleven_made}

-- a cache in order has 32 places at most
pub place_few : (refs : List ℕ) (i : ℕ) → in_order referrals refs ≡ true → i < place_count refs → i < 32
place_few refs i h u = omega (arith, (cache_told referrals (decode referrals refs) (order_good referrals refs h)).most, length_decode referrals refs)

-- the cases as they are named to case_at and point, and places
pub try_few : to_try < 16
try_few = omega arith

pub turn_few : due11 < 16
turn_few = omega arith

pub long_few : too_long < 16
long_few = omega arith

pub look_few : due2 < 16
look_few = omega arith

pub link_few : ask_link < 16
link_few = omega arith

pub domain_few : ask_domain < 16
domain_few = omega arith

pub first_few : 0 < 65536
first_few = omega arith

pub place_in_few : (n : ℕ) {i : ℕ} → i ≡ place_in n → i < 65536
place_in_few n a = omega arith

pub fewer : (n : ℕ) → left_of n < 65536 → left_of n - 1 < 65536
fewer n a = omega arith

pub past5 : (n : ℕ) → (what_of n ≡ due5 → ⊥) → due2 < what_of n → due5 < what_of n
past5 n a b = omega arith

pub is_due7 : (n : ℕ) → (what_of n ≡ due9 → ⊥) → due5 < what_of n → what_of n ≤ due7 → what_of n ≡ due7
is_due7 n a b c = omega arith

pub either_way : {A B C : Type 0} → (A → C) → (B → C) → A ⊎ B → C
either_way f g (inl a) = f a
either_way f g (inr b) = g b

-- the measure: the rank falls, or the moves left
pub rank_falls : (n m k : ℕ) {t : ℕ} → 4 * left_of n + (k + 1) ≡ t → left_of m ≡ left_of n → 4 * left_of m + k < t
rank_falls n m k a b = omega arith

pub moves_fall : (n m : ℕ) {t : ℕ} → 4 * left_of n + 0 ≡ t → (left_of n ≡ 0 → ⊥) → left_of m ≡ left_of n - 1 → 4 * left_of m + 3 < t
moves_fall n m a b c = omega arith

-- the parts of a number
module _ (what i len left : ℕ) (a : what < 16) (b : i < 65536) (c : len ≤ 256) where
  pub parts_of : (hit : Bool) {n : ℕ} → n ≡ what + 16 * i + 1048576 * from_bool hit + 2097152 * len + 1073741824 * left → Parts what i hit len left n
  parts_of true {n} e = record {
    its_case = omega arith;
    its_place = omega arith;
    its_hit = eq-eqb (n / 1048576 % 2) 1 (omega arith);
    its_units = omega arith;
    its_left = omega arith;
  }
  parts_of false {n} e = record {
    its_case = omega arith;
    its_place = omega arith;
    its_hit = ne_eqb (n / 1048576 % 2) 1 (λ z. omega arith);
    its_units = omega arith;
    its_left = omega arith;
  }

module _ (what i n : ℕ) (a : what < 16) (b : i < 65536) where
  pub parts_kept : {r : ℕ} → r ≡ n / 1048576 * 1048576 + 16 * i + what → Parts what i (hit_in n) (units_of n) (left_of n) r
  parts_kept {r} e = record {
    its_case = omega arith;
    its_place = omega arith;
    its_hit = let z : r / 1048576 % 2 ≡ n / 1048576 % 2 = omega arith in ap (λ (k : ℕ). eqb k 1) z;
    its_units = omega arith;
    its_left = omega arith;
  }

  pub parts_found : {r : ℕ} → r ≡ n / 2097152 * 2097152 + 1048576 + 16 * i + what → Parts what i true (units_of n) (left_of n) r
  parts_found {r} e = record {
    its_case = omega arith;
    its_place = omega arith;
    its_hit = eq-eqb (r / 1048576 % 2) 1 (omega arith);
    its_units = omega arith;
    its_left = omega arith;
  }

-- what the look-ups find
module _ (doms path : List ℕ) where
  pub dc_none : ((size : ℕ) (hit : Bool) → step5 (decode domains doms) (core_of path size hit) ≡ step6_host (core_of path size hit)) → DcAt doms path nowhere
  dc_none e = record { host = λ h. e; without = λ h. absurd (omega arith); dc = λ a b. absurd (a refl); few = λ a b. absurd (a refl) }

  pub dc_bare : ((size : ℕ) (hit : Bool) → step5 (decode domains doms) (core_of path size hit) ≡ domain_request Dc (core_of path size hit) 0) → DcAt doms path no_dc
  dc_bare e = record { host = λ h. absurd (omega arith); without = λ h. e; dc = λ a b. absurd (b refl); few = λ a b. absurd (b refl) }

  pub dc_there : (h : ℕ) {g : ℕ} → h < 65536 → h ≡ g
      → ((size : ℕ) (hit : Bool) → step5 (decode domains doms) (core_of path size hit) ≡ domain_request (choose (is_sysvol path) Sysvol Root) (core_of path size hit) g) → DcAt doms path h
  dc_there h {g} l e f =
      subst (λ (k : ℕ). DcAt doms path k) (sym e)
      (record {
        host = λ z. absurd (omega arith);
        without = λ z. absurd (omega arith);
        dc = λ a b. f;
        few = λ a b. omega arith;
      })

pub longest_few : (path raw : List ℕ) (i : ℕ) → in_order referrals raw ≡ true → longest_match path (decode referrals raw) ≡ Some i → i < 65536
longest_few path raw i o e = let z : i < 32 = place_few raw i o (longest_fits path raw i e) in omega arith

pub root_place : (path raw : List ℕ) (i : ℕ) → in_order referrals raw ≡ true → root_in path raw ≡ Some i → i < 65536
root_place path raw i o e = let z : i < 32 = place_few raw i o (root_fits path raw i e) in omega arith

-- by the units of a point
module _ (texts : List ℕ) (n : ℕ) {u : ℕ} (a : u ≡ units_of n) where
  pub units_stand : Standing (units_of n) texts → Standing u texts
  units_stand s = subst (λ (k : ℕ). Standing k texts) (sym a) s

  pub units_good : good_prefix (take (units_of n) texts) ≡ true → good_prefix (take u texts) ≡ true
  units_good g = ap (λ (k : ℕ). good_prefix (take k texts)) a ∙ g

  pub units_sysvol : {b : Bool} → b ≡ is_sysvol (take u texts) → b ≡ is_sysvol (take (units_of n) texts)
  units_sysvol e = e ∙ ap (λ (k : ℕ). is_sysvol (take k texts)) a

  module _ (refs doms : List ℕ) {r : ℕ} where
    pub sought_two : {f : Option ℕ} → what_of n ≡ due2 → f ≡ longest_match (take u texts) (decode referrals refs) → FoundAt f r → Sought refs doms (take (units_of n) texts) (what_of n) r
    sought_two w e g = record {
      two = λ h. subst (λ (x : Option ℕ). FoundAt x r) (e ∙ ap (λ (k : ℕ). longest_match (take k texts) (decode referrals refs)) a) g;
      nine = λ h. absurd (omega arith);
      five = λ h. absurd (omega arith);
    }

    pub sought_nine : {f : Option ℕ} → what_of n ≡ due9 → f ≡ root_in (take u texts) refs → FoundAt f r → Sought refs doms (take (units_of n) texts) (what_of n) r
    sought_nine w e g = record {
      two = λ h. absurd (omega arith);
      nine = λ h. subst (λ (x : Option ℕ). FoundAt x r) (e ∙ ap (λ (k : ℕ). root_in (take k texts) refs) a) g;
      five = λ h. absurd (omega arith);
    }

    pub sought_five : (what_of n ≡ due2 → ⊥) → (what_of n ≡ due9 → ⊥) → DcAt doms (take u texts) r → Sought refs doms (take (units_of n) texts) (what_of n) r
    sought_five x y d = record {
      two = λ h. absurd (x h);
      nine = λ h. absurd (y h);
      five = λ h. subst (λ (k : ℕ). DcAt doms (take k texts) r) a d;
    }

-- step 2 by what it found
pub after_small : (clock : ℕ) (e : Referral) {w : ℕ} → w ≡ after_match clock e → w < 16
after_small clock e h = let z : after_match clock e ≤ 3 = (after_range clock e).1 in omega arith

pub matched_none : (refs : List ℕ) (clock n found : ℕ) {r : ℕ} → found ≡ nowhere → Parts due5 0 (hit_in n) (units_of n) (left_of n) r → Matched refs clock n found r
matched_none refs clock n found h q = record { missed = λ z. q; matching = λ z. absurd (z h) }

pub matched_there : (refs : List ℕ) (clock n found : ℕ) {w r : ℕ} → (found ≡ nowhere → ⊥) → w ≡ after_match clock (entry_at referrals found refs)
    → Parts w found true (units_of n) (left_of n) r → Matched refs clock n found r
matched_there refs clock n found {w} {r} h e q = record { missed = λ z. absurd (h z); matching = λ z. subst (λ (k : ℕ). Parts k found true (units_of n) (left_of n) r) e q }

-- what is read of the entry at a point's place
pub root_read : (refs : List ℕ) (n : ℕ) {i : ℕ} {b v : Bool} → i ≡ place_in n → b ≡ (entry_at referrals i refs).settings.root → b ≡ v → (entry_at referrals (place_in n) refs).settings.root ≡ v
root_read refs n a e h = ap (λ (k : ℕ). (entry_at referrals k refs).settings.root) (sym a) ∙ (sym e ∙ h)

pub interlink_is : (refs : List ℕ) (n : ℕ) {i : ℕ} {b v : Bool} → i ≡ place_in n → b ≡ (entry_at referrals i refs).settings.interlink → b ≡ v → (entry_at referrals (place_in n) refs).settings.interlink ≡ v
interlink_is refs n a e h = ap (λ (k : ℕ). (entry_at referrals k refs).settings.interlink) (sym a) ∙ (sym e ∙ h)

-- a point by its parts
module _ {what i : ℕ} {hit : Bool} {len left n : ℕ} (p : Parts what i hit len left n) where
  pub at_parts : (refs doms texts : List ℕ) (size clock : ℕ) → steps_at refs doms size clock n texts ≡ steps_by refs doms size clock what i hit (take len texts) left
  unfolding steps_at
  at_parts refs doms texts size clock =
      λ k. steps_by refs doms size clock (p.its_case k) (p.its_place k) (p.its_hit k) (take (p.its_units k) texts) (p.its_left k)

  pub parts_point : (refs texts : List ℕ) → left < 65536 → Ready refs texts len → (due7 ≤ what → what ≤ to_try → Usable refs (take len texts) i)
      → (what ≡ ask_link → i < place_count refs) → Point refs texts n
  parts_point refs texts l r u f = record {
    ready = subst (λ (m : ℕ). Ready refs texts m) (sym p.its_units) r;
    usable = λ a b. subst (λ (m : ℕ). Usable refs (take m texts) (place_in n)) (sym p.its_units) (subst (λ (j : ℕ). Usable refs (take len texts) j) (sym p.its_place) (u (omega (arith, p.its_case)) (omega (arith, p.its_case))));
    fits = λ h. let z : i < place_count refs = f (sym p.its_case ∙ h) in omega (arith, p.its_place);
    counted = omega (arith, p.its_left);
  }

-- its own
pub own_parts : (n k : ℕ) → what_of n ≡ k → Parts k (place_in n) (hit_in n) (units_of n) (left_of n) n
own_parts n k h = record { its_case = h; its_place = refl; its_hit = refl; its_units = refl; its_left = refl }

-- a step without a move
pub rests_on : (refs doms texts : List ℕ) (clock n : ℕ) {m r : ℕ} {after : List ℕ} → SameSteps refs doms clock texts n m → SameRest refs doms clock m texts r after → SameRest refs doms clock n texts r after
rests_on refs doms texts clock n f t = record { same = λ size. t.same size ∙ f.same size; halted = t.halted }

pub follows_on : (refs doms texts : List ℕ) (clock n : ℕ) {m r : ℕ} → SameSteps refs doms clock texts n m → SameSteps refs doms clock texts m r → SameSteps refs doms clock texts n r
follows_on refs doms texts clock n f t = record { same = λ size. t.same size ∙ f.same size; point = t.point; left = t.left ∙ f.left }

pub halts_after : (refs doms texts : List ℕ) (clock n : ℕ) {r : ℕ} → SameSteps refs doms clock texts n r → due11 < what_of r → SameRest refs doms clock n texts r texts
halts_after refs doms texts clock n f h = record {
  same = f.same;
  halted = record { point = f.point; rests = omega arith; last = λ z. absurd (omega arith) };
}

pub halts_here : (refs doms texts : List ℕ) (clock n : ℕ) → Point refs texts n → what_of n ≡ due11 → left_of n ≡ 0 → SameRest refs doms clock n texts n texts
halts_here refs doms texts clock n p h l = record { same = λ size. refl; halted = record { point = p; rests = omega arith; last = λ z. l } }

module _ (refs doms texts : List ℕ) (clock n : ℕ) (p : Point refs texts n) (k : ℕ) (w : what_of n ≡ k) {what i : ℕ} {hit : Bool} {r : ℕ} (q : Parts what i hit (units_of n) (left_of n) r) where
  follows : ((size : ℕ) → steps_by refs doms size clock what i hit (take (units_of n) texts) (left_of n) ≡ steps_by refs doms size clock k (place_in n) (hit_in n) (take (units_of n) texts) (left_of n))
      → (due7 ≤ what → what ≤ to_try → Usable refs (take (units_of n) texts) i) → (what ≡ ask_link → i < place_count refs) → SameSteps refs doms clock texts n r
  follows e u f = record {
    same = λ size. at_parts q refs doms texts size clock ∙ (e size ∙ sym (at_parts (own_parts n k w) refs doms texts size clock));
    point = parts_point q refs texts p.counted p.ready u f;
    left = q.its_left;
  }

-- step 2
module _ (refs doms texts : List ℕ) (clock n : ℕ) (p : Point refs texts n) (w : what_of n ≡ due2) {found : ℕ} (s : Sought refs doms (take (units_of n) texts) (what_of n) found) where
  here2 : FoundAt (longest_match (take (units_of n) texts) (decode referrals refs)) found
  here2 = s.two w

  usable2 : (found ≡ nowhere → ⊥) → Usable refs (take (units_of n) texts) found
  usable2 h =
      let z = here2.there h in
      record {
        fits = longest_fits (take (units_of n) texts) refs found z;
        good = longest_good (take (units_of n) texts) refs found z p.ready.order;
        matched = longest_matches (take (units_of n) texts) refs found z;
      }

  pub match_fits : (found ≡ nowhere → ⊥) → (found < place_count refs) × (found < 65536)
  match_fits h =
      let z : found < place_count refs = (usable2 h).fits in
      let y : found < 32 = place_few refs found p.ready.order z in
      (z, omega arith)

  pub looked_next : {r : ℕ} → Matched refs clock n found r → SameSteps refs doms clock texts n r × ((due2 < what_of r) × (what_of r ≤ due7))
  looked_next {r} m = go (told (eqb found nowhere))
    where
      go : (eqb found nowhere ≡ true) ⊎ (eqb found nowhere ≡ false) → SameSteps refs doms clock texts n r × ((due2 < what_of r) × (what_of r ≤ due7))
      go (inl t) =
          let h : found ≡ nowhere = eqb-true found nowhere t in
          let q = m.missed h in (
            follows refs doms texts clock n p due2 w q
                (λ size. two_none refs doms size clock (place_in n) (hit_in n) (take (units_of n) texts) (left_of n) (here2.none h))
                (λ a b. absurd (omega arith)) (λ a. absurd (omega arith)),
            (omega (arith, q.its_case), omega (arith, q.its_case)),
          )
      go (inr t) =
          let h : found ≡ nowhere → ⊥ = λ z. not_both (eq-eqb found nowhere z) t in
          let q = m.matching h in
          let l : 0 < after_match clock (entry_at referrals found refs) = (after_range clock (entry_at referrals found refs)).0 in
          let g : after_match clock (entry_at referrals found refs) ≤ 3 = (after_range clock (entry_at referrals found refs)).1 in (
            follows refs doms texts clock n p due2 w q
                (λ size. two_at refs doms size clock (place_in n) (hit_in n) (take (units_of n) texts) (left_of n) found (here2.there h))
                (λ a b. usable2 h) (λ a. (usable2 h).fits),
            (omega (arith, q.its_case), omega (arith, q.its_case)),
          )

-- step 5
module _ (refs doms texts : List ℕ) (n : ℕ) (p : Point refs texts n) (w : what_of n ≡ due5) {found : ℕ} (s : Sought refs doms (take (units_of n) texts) (what_of n) found) where
  here5 : DcAt doms (take (units_of n) texts) found
  here5 = s.five w

  pub dc_few : (found ≡ nowhere → ⊥) → (found ≡ no_dc → ⊥) → found < 65536
  dc_few a b = here5.few a b

  module _ {r : ℕ} where
    pub asks_host : found ≡ nowhere → Parts ask_host 0 (hit_in n) (units_of n) (left_of n) r → ((clock : ℕ) → SameSteps refs doms clock texts n r) × (due11 < what_of r)
    asks_host h q = (
      λ clock. follows refs doms texts clock n p due5 w q
          (λ size. five_host refs doms size clock (place_in n) (hit_in n) (take (units_of n) texts) (left_of n) (here5.host h size (hit_in n)))
          (λ a b. absurd (omega arith)) (λ a. absurd (omega arith)),
      omega (arith, q.its_case),
    )

    pub asks_dcs : found ≡ no_dc → Parts ask_dc 0 (hit_in n) (units_of n) (left_of n) r → ((clock : ℕ) → SameSteps refs doms clock texts n r) × (due11 < what_of r)
    asks_dcs h q = (
      λ clock. follows refs doms texts clock n p due5 w q
          (λ size. five_without refs doms size clock (place_in n) (hit_in n) (take (units_of n) texts) (left_of n) (here5.without h size (hit_in n)))
          (λ a b. absurd (omega arith)) (λ a. absurd (omega arith)),
      omega (arith, q.its_case),
    )

    pub asks_domain : (found ≡ nowhere → ⊥) → (found ≡ no_dc → ⊥) → Parts ask_domain found (hit_in n) (units_of n) (left_of n) r → ((clock : ℕ) → SameSteps refs doms clock texts n r) × (due11 < what_of r)
    asks_domain a b q = (
      λ clock. follows refs doms texts clock n p due5 w q
          (λ size. five_dc refs doms size clock (place_in n) (hit_in n) (take (units_of n) texts) (left_of n) found (here5.dc a b size (hit_in n)))
          (λ a b. absurd (omega arith)) (λ a. absurd (omega arith)),
      omega (arith, q.its_case),
    )

-- step 9
module _ (refs doms texts : List ℕ) (n : ℕ) (p : Point refs texts n) (w : what_of n ≡ due9) {found : ℕ} (s : Sought refs doms (take (units_of n) texts) (what_of n) found) where
  here9 : FoundAt (root_in (take (units_of n) texts) refs) found
  here9 = s.nine w

  fits9 : (found ≡ nowhere → ⊥) → found < place_count refs
  fits9 h = root_fits (take (units_of n) texts) refs found (here9.there h)

  pub root_few : (found ≡ nowhere → ⊥) → found < 65536
  root_few h = let z : found < 32 = place_few refs found p.ready.order (fits9 h) in omega arith

  pub asks_link : {r : ℕ} → (found ≡ nowhere → ⊥) → Parts ask_link found (hit_in n) (units_of n) (left_of n) r
      → ((clock : ℕ) → SameSteps refs doms clock texts n r) × ((what_of r ≡ ask_link → ⊥) → what_of r ≡ due5)
  asks_link h q = (
    λ clock. follows refs doms texts clock n p due9 w q
        (λ size. nine_at refs doms size clock (place_in n) (hit_in n) (take (units_of n) texts) (left_of n) found (here9.there h))
        (λ a b. absurd (omega arith)) (λ a. fits9 h),
    λ z. absurd (z q.its_case),
  )

  pub without_root : {m : ℕ} → found ≡ nowhere → Parts due5 0 (hit_in n) (units_of n) (left_of n) m
      → ((clock : ℕ) → SameSteps refs doms clock texts n m) × ((what_of m ≡ ask_link → ⊥) → what_of m ≡ due5)
  without_root h q = (
    λ clock. follows refs doms texts clock n p due9 w q
        (λ size. nine_none refs doms size clock (place_in n) (hit_in n) (take (units_of n) texts) (left_of n) (here9.none h))
        (λ a b. absurd (omega arith)) (λ a. absurd (omega arith)),
    λ z. q.its_case,
  )

-- on from step 9's root entry
module _ (refs doms texts : List ℕ) (n : ℕ) {m : ℕ} (s : ((clock : ℕ) → SameSteps refs doms clock texts n m) × ((what_of m ≡ ask_link → ⊥) → what_of m ≡ due5)) where
  pub rests_asked : what_of m ≡ ask_link → ((clock : ℕ) → SameSteps refs doms clock texts n m) × (due11 < what_of m)
  rests_asked h = (s.0, omega arith)

  pub without_point : (what_of m ≡ ask_link → ⊥) → Point refs texts m × (what_of m ≡ due5)
  without_point h = ((s.0 0).point, s.1 h)

  pub without_next : {r : ℕ} → ((clock : ℕ) → SameSteps refs doms clock texts m r) × (due11 < what_of r) → ((clock : ℕ) → SameSteps refs doms clock texts n r) × (due11 < what_of r)
  without_next t = (λ clock. follows_on refs doms texts clock n (s.0 clock) (t.0 clock), t.1)

-- steps 7 and 4
module _ (refs doms texts : List ℕ) (clock n : ℕ) (p : Point refs texts n) (w : what_of n ≡ due7) where
  pub usable7 : Usable refs (take (units_of n) texts) (place_in n)
  usable7 = p.usable (omega arith) (omega arith)

  pub fits7 : {i : ℕ} → i ≡ place_in n → i < place_count refs
  fits7 a = let z : place_in n < place_count refs = usable7.fits in omega arith

  module _ {i r : ℕ} (b : i ≡ place_in n) where
    module _ (q : Parts to_try i (hit_in n) (units_of n) (left_of n) r) where
      own7 : Parts to_try (place_in n) (hit_in n) (units_of n) (left_of n) r
      own7 = subst (λ (j : ℕ). Parts to_try j (hit_in n) (units_of n) (left_of n) r) b q

      tries7 : ((size : ℕ) → steps_by refs doms size clock to_try (place_in n) (hit_in n) (take (units_of n) texts) (left_of n) ≡ steps_by refs doms size clock due7 (place_in n) (hit_in n) (take (units_of n) texts) (left_of n))
          → SameRest refs doms clock n texts r texts
      tries7 e =
          halts_after refs doms texts clock n
          (follows refs doms texts clock n p due7 w own7 e (λ x y. usable7) (λ x. absurd (omega arith)))
          (omega (arith, q.its_case))

      pub tries_root : (entry_at referrals (place_in n) refs).settings.root ≡ true → SameRest refs doms clock n texts r texts
      tries_root t = tries7 (λ size. seven_root refs doms size clock (place_in n) (hit_in n) (take (units_of n) texts) (left_of n) t)

      pub tries_sysvol : (entry_at referrals (place_in n) refs).settings.root ≡ false → is_sysvol (take (units_of n) texts) ≡ true → SameRest refs doms clock n texts r texts
      tries_sysvol t s = tries7 (λ size. four_sysvol refs doms size clock (place_in n) (hit_in n) (take (units_of n) texts) (left_of n) t s)

      pub tries_other : (entry_at referrals (place_in n) refs).settings.root ≡ false → is_sysvol (take (units_of n) texts) ≡ false → (entry_at referrals (place_in n) refs).settings.interlink ≡ false
          → SameRest refs doms clock n texts r texts
      tries_other t s u = tries7 (λ size. four_other refs doms size clock (place_in n) (hit_in n) (take (units_of n) texts) (left_of n) t s u)

    pub turns : Parts due11 i (hit_in n) (units_of n) (left_of n) r → (entry_at referrals (place_in n) refs).settings.root ≡ false → is_sysvol (take (units_of n) texts) ≡ false
        → (entry_at referrals (place_in n) refs).settings.interlink ≡ true → SameSteps refs doms clock texts n r
    turns q t s u =
        follows refs doms texts clock n p due7 w (subst (λ (j : ℕ). Parts due11 j (hit_in n) (units_of n) (left_of n) r) b q)
        (λ size. four_interlink refs doms size clock (place_in n) (hit_in n) (take (units_of n) texts) (left_of n) t s u)
        (λ x y. usable7) (λ x. absurd (omega arith))

-- step 11
pub replaced_at_lem : (refs texts : List ℕ) (n : ℕ) {i u h : ℕ} → i ≡ place_in n → u ≡ units_of n → h ≡ (entry_at referrals i refs).hint
    → replaced (target_path h (entry_at referrals i refs)) (length (entry_at referrals i refs).prefix) (take u texts) ≡ replaced_at refs texts n
unfolding replaced_at
replaced_at_lem refs texts n {i} {u} a b c =
    ap (λ (h : ℕ). replaced (target_path h (entry_at referrals i refs)) (length (entry_at referrals i refs).prefix) (take u texts)) c
    ∙ (λ k. replaced (target_path (entry_at referrals (a k) refs).hint (entry_at referrals (a k) refs)) (length (entry_at referrals (a k) refs).prefix) (take (b k) texts))

module _ (refs texts : List ℕ) (n : ℕ) (p : Point refs texts n) (w : what_of n ≡ due11) where
  due_there : Usable refs (take (units_of n) texts) (place_in n)
  due_there = p.usable (omega arith) (omega arith)

  pub due_fits : {i : ℕ} → i ≡ place_in n → i < place_count refs
  due_fits a = let z : place_in n < place_count refs = due_there.fits in omega arith

  pub due_stands : {u : ℕ} → u ≡ units_of n → Standing u texts
  due_stands a = subst (λ (k : ℕ). Standing k texts) (sym a) p.ready.standing

  pub due_usable : {u i : ℕ} → u ≡ units_of n → i ≡ place_in n → Usable refs (take u texts) i
  due_usable {u} {i} a b =
      subst (λ (k : ℕ). Usable refs (take k texts) i) (sym a) (subst (λ (k : ℕ). Usable refs (take (units_of n) texts) k) (sym b) due_there)

  stepped : (size : ℕ) (hit : Bool) → replaced_at refs texts n ≡ step11 (core_of (take (units_of n) texts) size hit) (entry_at referrals (place_in n) refs)
  unfolding replaced_at step11
  stepped size hit = refl

  good_new : length (replaced_at refs texts n) ≤ 256 → good_prefix (replaced_at refs texts n) ≡ true
  unfolding replaced_at
  good_new l = new_good (take (units_of n) texts) (entry_at referrals (place_in n) refs) p.ready.good due_there.good due_there.matched l

  module _ (doms : List ℕ) (clock : ℕ) (some : left_of n ≡ 0 → ⊥) {g : Option ℕ} (f : g ≡ written_within 256 (replaced_at refs texts n)) {o : List ℕ} (v : o ≡ moved_to (replaced_at refs texts n) texts) where
    -- too long
    pub long_halts : {r : ℕ} → g ≡ None → Parts too_long 0 (hit_in n) (units_of n) (left_of n) r → SameRest refs doms clock n texts r o
    unfolding moved_to
    long_halts {r} h q =
        let l : 256 < length (replaced_at refs texts n) = written_long 256 (replaced_at refs texts n) (sym f ∙ h) in
        subst (λ (x : List ℕ). SameRest refs doms clock n texts r x) (sym (v ∙ choose_no _ _ (lt-leb _ _ l)))
        (halts_after refs doms texts clock n
        (follows refs doms texts clock n p due11 w q
        (λ size. eleven_long refs doms size clock (place_in n) (hit_in n) (take (units_of n) texts) (left_of n) some (stepped size (hit_in n)) l)
        (λ a b. absurd (omega arith)) (λ a. absurd (omega arith)))
        (omega (arith, q.its_case)))

    -- a move
    module _ (len : ℕ) (h : g ≡ Some len) where
      fit : (len ≡ length (replaced_at refs texts n)) × (length (replaced_at refs texts n) ≤ 256)
      fit = written_units 256 (replaced_at refs texts n) len (sym f ∙ h)

      pub len_few : len ≤ 256
      len_few = let z : len ≡ length (replaced_at refs texts n) = fit.0 in omega (arith, fit.1)

      rooms : o ≡ texts_of (replaced_at refs texts n) []
      unfolding moved_to
      rooms = v ∙ choose_yes _ _ (le-leb _ _ fit.1)

      there : take len o ≡ replaced_at refs texts n
      there = (λ k. take (fit.0 k) (rooms k)) ∙ path_in_lem (replaced_at refs texts n) []

      ready_there : Ready refs o len
      ready_there = record {
        order = p.ready.order;
        standing =
            subst (λ (l : List ℕ). Standing len l) (sym rooms)
            (subst (λ (k : ℕ). Standing k (texts_of (replaced_at refs texts n) [])) (sym fit.0) (taken_stands (replaced_at refs texts n) fit.1));
        good = ap good_prefix there ∙ good_new fit.1;
      }

      module _ {b : Bool} {m : ℕ} (c : b ≡ hit_in n) (q : Parts due2 0 b len (left_of n - 1) m) where
        pub next_point : Point refs o m
        next_point = parts_point q refs o (omega (arith, p.counted)) ready_there (λ x y. absurd (omega arith)) (λ x. absurd (omega arith))

        next_steps : (size : ℕ) → steps_at refs doms size clock m o ≡ steps_at refs doms size clock n texts
        next_steps size =
            at_parts q refs doms o size clock
            ∙ ((λ k. steps_by refs doms size clock due2 0 (c k) (there k) (left_of n - 1))
            ∙ (eleven_made refs doms size clock (place_in n) (hit_in n) (take (units_of n) texts) (left_of n) some (stepped size (hit_in n)) fit.1
            ∙ sym (at_parts (own_parts n due11 w) refs doms texts size clock)))

        pub next_halts : {r : ℕ} {after : List ℕ} → SameRest refs doms clock m o r after → SameRest refs doms clock n texts r after
        next_halts t = record { same = λ size. t.same size ∙ next_steps size; halted = t.halted }

-- the rest at a point
module _ (refs texts : List ℕ) (size n : ℕ) (t : Halted refs texts n) {u : ℕ} {h : Bool} (a : u ≡ units_of n) (c : h ≡ hit_in n) where
  pub stands_there : Standing u texts
  stands_there = subst (λ (k : ℕ). Standing k texts) (sym a) t.point.ready.standing

  parts_there : {q k : ℕ} → q ≡ place_in n → what_of n ≡ k → Parts k q h u (left_of n) n
  parts_there b w = record { its_case = w; its_place = sym b; its_hit = sym c; its_units = sym a; its_left = refl }

  pub usable_at : {q : ℕ} → q ≡ place_in n → what_of n ≡ to_try → Usable refs (take u texts) q
  usable_at {q} b w =
      subst (λ (k : ℕ). Usable refs (take k texts) q) (sym a)
      (subst (λ (k : ℕ). Usable refs (take (units_of n) texts) k) (sym b) (t.point.usable (omega arith) (omega arith)))

  pub fits_at : {q : ℕ} → q ≡ place_in n → what_of n ≡ ask_link → q < place_count refs
  fits_at b w = let z : place_in n < place_count refs = t.point.fits w in omega arith

  pub rest_try : {q : ℕ} {x : Packed} → q ≡ place_in n → what_of n ≡ to_try
      → ((s : ℕ) → x ≡ packed (asking (left_of n) (core_of (take u texts) s h) (step3 (core_of (take u texts) s h) (entry_at referrals q refs))))
      → (doms : List ℕ) (clock : ℕ) → x ≡ steps_at refs doms size clock n texts
  unfolding steps_from
  rest_try {q} b w x doms clock =
      x size
      ∙ (ap packed (sym (goes_asks (left_of n) (caches_of refs doms) clock (core_of (take u texts) size h) (step3 (core_of (take u texts) size h) (entry_at referrals q refs))))
      ∙ (sym (by_try refs doms size clock q h (take u texts) (left_of n)) ∙ sym (at_parts (parts_there b w) refs doms texts size clock)))

  pub rest_limit : {r : Rested} → what_of n ≡ due11 → r ≡ ended_at LimitReached 0 u (left_of n) h → (doms : List ℕ) (clock : ℕ) → rested_with r texts ≡ steps_at refs doms size clock n texts
  unfolding steps_from
  rest_limit w e doms clock =
      packed_end u texts stands_there LimitReached 0 (left_of n) size h e
      ∙ (ap packed (sym (replaces_limit (caches_of refs doms) clock (core_of (take u texts) size h) (step11 (core_of (take u texts) size h) (entry_at referrals (place_in n) refs)) (left_of n) (t.last w)))
      ∙ (sym (by11 refs doms size clock (place_in n) h (take u texts) (left_of n)) ∙ sym (at_parts (parts_there refl w) refs doms texts size clock)))

  pub rest_long : {r : Rested} → what_of n ≡ too_long → r ≡ ended_at ends.TooLong 0 u (left_of n) h → (doms : List ℕ) (clock : ℕ) → rested_with r texts ≡ steps_at refs doms size clock n texts
  unfolding steps_from
  rest_long w e doms clock =
      packed_end u texts stands_there ends.TooLong 0 (left_of n) size h e
      ∙ (ap packed (sym (goes_stops (left_of n) (caches_of refs doms) clock (core_of (take u texts) size h) ends.TooLong 0 []))
      ∙ (sym (by_long refs doms size clock (place_in n) h (take u texts) (left_of n)) ∙ sym (at_parts (parts_there refl w) refs doms texts size clock)))

  untried : (w : Core) (i what : ℕ) → (question_of_case refs w i what).tried ≡ []
  unfolding question_of_case link_request step6_host domain_request
  untried w i what = go (told (eqb what ask_link)) (told (eqb what ask_host))
    where
      go : (eqb what ask_link ≡ true) ⊎ (eqb what ask_link ≡ false) → (eqb what ask_host ≡ true) ⊎ (eqb what ask_host ≡ false) → (question_of_case refs w i what).tried ≡ []
      go (inl x) y = ap (λ (q : Question). q.tried) (choose_yes (link_at w refs i) _ x)
      go (inr x) (inl y) = ap (λ (q : Question). q.tried) (choose_no (link_at w refs i) _ x ∙ choose_yes (step6_host w) _ y)
      go (inr x) (inr y) = ap (λ (q : Question). q.tried) (choose_no (link_at w refs i) _ x ∙ choose_no (step6_host w) _ y)

  by_asked : (doms : List ℕ) (clock q what left : ℕ) (path : List ℕ) → due11 < what → (what ≡ to_try → ⊥) → (what ≡ too_long → ⊥)
      → steps_by refs doms size clock what q h path left ≡ steps_from left refs doms clock (core_of path size h) (asks (question_of_case refs (core_of path size h) q what))
  unfolding steps_by steps_from turn_at turned called_at
  by_asked doms clock q what left path l x y =
      ap (λ s. packed (turned left clock s)) (choose_no _ _ (ne_eqb what due2 (λ z. omega arith)))
      ∙ ap (λ s. packed (goes left (caches_of refs doms) clock (core_of path size h) s))
      (choose_no _ _ (ne_eqb what due5 (λ z. omega arith))
      ∙ (choose_no _ _ (ne_eqb what due9 (λ z. omega arith))
      ∙ (choose_no _ _ (ne_eqb what due7 (λ z. omega arith))
      ∙ (choose_no _ _ (ne_eqb what due11 (λ z. omega arith)) ∙ (choose_no _ _ (ne_eqb what to_try x) ∙ choose_no _ _ (ne_eqb what too_long y))))))

  pub rest_asked : {q : ℕ} {g : Asking} {r : Rested} → q ≡ place_in n → (what_of n ≡ to_try → ⊥) → (what_of n ≡ due11 → ⊥) → (what_of n ≡ too_long → ⊥)
      → ((b : Bool) → g ≡ asking_of (question_of_case refs (core_of (take u texts) size b) q (what_of n))) → length (take u texts) ≡ u → r ≡ asked_at g u (left_of n) h
      → (doms : List ℕ) (clock : ℕ) → rested_with r texts ≡ steps_at refs doms size clock n texts
  unfolding steps_from
  rest_asked {q} {g} b x y z e l f doms clock =
      packed_asked u texts stands_there (left_of n) size h (question_of_case refs (core_of (take u texts) size h) q (what_of n)) (untried (core_of (take u texts) size h) q (what_of n))
      (asked_as (left_of n) (core_of (take u texts) size h) (question_of_case refs (core_of (take u texts) size h) q (what_of n)) g f (e h) (sym l) (untried (core_of (take u texts) size h) q (what_of n)))
      ∙ (ap packed (sym (goes_asks (left_of n) (caches_of refs doms) clock (core_of (take u texts) size h) (question_of_case refs (core_of (take u texts) size h) q (what_of n))))
      ∙ (sym (by_asked doms clock q (what_of n) (left_of n) (take u texts) (let k : due7 < what_of n = t.rests in omega arith) x z)
      ∙ sym (at_parts (parts_there b refl) refs doms texts size clock)))

-- the question at a point
module _ (refs path : List ℕ) (size i what : ℕ) where
  pub question_link : {p : List ℕ} {h : ℕ} → what ≡ ask_link → p ≡ (entry_at referrals i refs).prefix → h ≡ (entry_at referrals i refs).hint
      → (hit : Bool) → record { kind = Link; entry = length p; party = h; began = h; size = size; uncovered = false } ≡ asking_of (question_of_case refs (core_of path size hit) i what)
  unfolding question_of_case asking_of link_request
  question_link w a b hit =
      (λ j. record { kind = Link; entry = length (a j); party = b j; began = b j; size = size; uncovered = false })
      ∙ ap asking_of (sym (choose_yes (link_at (core_of path size hit) refs i) _ (eq-eqb what ask_link w)))

  module _ (x : what ≡ ask_link → ⊥) where
    pub question_host : what ≡ ask_host → (hit : Bool) → record { kind = Root; entry = 0; party = 0; began = 0; size = size; uncovered = false } ≡ asking_of (question_of_case refs (core_of path size hit) i what)
    unfolding question_of_case asking_of step6_host
    question_host w hit =
        ap asking_of (sym (choose_no (link_at (core_of path size hit) refs i) _ (ne_eqb what ask_link x) ∙ choose_yes (step6_host (core_of path size hit)) _ (eq-eqb what ask_host w)))

    pub question_domain : {k : Kind} {g : Asking} → (what ≡ ask_host → ⊥) → k ≡ kind_of_case what path → g ≡ domain_asking k path i size → (hit : Bool) → g ≡ asking_of (question_of_case refs (core_of path size hit) i what)
    unfolding question_of_case asking_of domain_asking domain_request
    question_domain y e f hit =
        f
        ∙ (ap (λ (k : Kind). domain_asking k path i size) e
        ∙ ap asking_of (sym (choose_no (link_at (core_of path size hit) refs i) _ (ne_eqb what ask_link x) ∙ choose_no (step6_host (core_of path size hit)) _ (ne_eqb what ask_host y))))

-- the kind of a request to a domain
module _ (what : ℕ) (path : List ℕ) where
  pub kind_dc : what ≡ ask_dc → Dc ≡ kind_of_case what path
  unfolding kind_of_case
  kind_dc w = sym (choose_yes Dc _ (eq-eqb what ask_dc w))

  module _ (x : what ≡ ask_dc → ⊥) {b : Bool} (e : b ≡ is_sysvol path) where
    pub kind_sysvol : b ≡ true → Sysvol ≡ kind_of_case what path
    unfolding kind_of_case
    kind_sysvol h = sym (choose_no Dc _ (ne_eqb what ask_dc x) ∙ choose_yes Sysvol Root (sym e ∙ h))

    pub kind_root : b ≡ false → Root ≡ kind_of_case what path
    unfolding kind_of_case
    kind_root h = sym (choose_no Dc _ (ne_eqb what ask_dc x) ∙ choose_no Sysvol Root (sym e ∙ h))

-- the functions that crates above call
module _ (refs doms texts : List ℕ) (size clock len left : ℕ) (hit : Bool) {n r : ℕ} {after : List ℕ} {x : Packed}
    (e : (d : List ℕ) (c : ℕ) → x ≡ steps_at refs d size c r after) where
  pub gone_lookup : Parts due2 0 hit len left n → SameRest refs doms clock n texts r after
      → x ≡ packed (turned left clock (from_step2 (caches_of refs doms) (core_of (take len texts) size hit) clock))
  unfolding steps_from turned from_step2
  gone_lookup q t = e doms clock ∙ (t.same size ∙ (at_parts q refs doms texts size clock ∙ by2 refs doms size clock 0 hit (take len texts) left))

  pub gone_domain : Parts due5 0 hit len left n → SameRest refs doms clock n texts r after
      → x ≡ packed (goes left (caches_of refs doms) clock (core_of (take len texts) size hit) (asks (step5 (decode domains doms) (core_of (take len texts) size hit))))
  unfolding steps_from
  gone_domain q t = e doms clock ∙ (t.same size ∙ (at_parts q refs doms texts size clock ∙ by5 refs doms size clock 0 hit (take len texts) left))

  pub gone_stored : (i : ℕ) (b : Bool) → b ≡ false → Parts due7 i hit len left n → SameRest refs doms clock n texts r after
      → x ≡ packed (goes left (caches_of refs doms) clock (core_of (take len texts) size hit) (called_after b (core_of (take len texts) size hit) (entry_at referrals i refs)))
  unfolding steps_from called_after
  gone_stored i b z q t =
      e doms clock
      ∙ (t.same size
      ∙ (at_parts q refs doms texts size clock
      ∙ (by7 refs doms size clock i hit (take len texts) left
      ∙ ap (λ (v : Bool). packed (goes left (caches_of refs doms) clock (core_of (take len texts) size hit) (called_after v (core_of (take len texts) size hit) (entry_at referrals i refs)))) (sym z))))

module _ (refs doms p : List ℕ) (size clock left i : ℕ) (hit : Bool) {x : Packed} where
  pub gone_sysvol : (b : Bool) → b ≡ true → ((s : ℕ) → x ≡ packed (asking left (core_of p s hit) (step3 (core_of p s hit) (entry_at referrals i refs))))
      → x ≡ packed (goes left (caches_of refs doms) clock (core_of p size hit) (called_after b (core_of p size hit) (entry_at referrals i refs)))
  unfolding called_after
  gone_sysvol b z e =
      e size
      ∙ (ap packed (sym (goes_asks left (caches_of refs doms) clock (core_of p size hit) (step3 (core_of p size hit) (entry_at referrals i refs))))
      ∙ ap (λ (v : Bool). packed (goes left (caches_of refs doms) clock (core_of p size hit) (called_after v (core_of p size hit) (entry_at referrals i refs)))) (sym z))
