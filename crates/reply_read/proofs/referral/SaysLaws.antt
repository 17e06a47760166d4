-- What is known of a reply that says something: for the crates above.
use mathlib.Core.Path.{◌≡◌, refl, sym, ap, ◌∙◌, subst}
use mathlib.Core.Bool.{Bool, true, false, ◌&&◌, not, true≢false}
use mathlib.Core.List.{List, [], ◌∷◌}
use mathlib.Core.Logic.{◌⊎◌, inl, inr}
use Prim.Native.Nat.{ℕ, zero, suc, ◌-◌, ◌≤◌, ◌<◌, min}
use native.Mathlib.Omega.{arith}
use lib.Dec.{leb, eqb}
use lib.ListN.{length, take, length-take}
use borrow.Author.Tests.{eqb-false, leb-true, le-leb}
use Rattle.laws.specs.Choice.{choose}
use Rattle.laws.specs.Lists.{every}
use Rattle.laws.proofs.Choices.{choose_yes, choose_no, and_left, and_right, and_both, eqb_refl}
use Rattle.laws.proofs.Orders.{told}
use Rattle.laws.proofs.Every.{every_take}
use Rattle.unc.specs.names.Names.{good_component}
use Rattle.unc.specs.names.Paths.{leads, pieces, body, good_path, normalised, is_normalised, normalised_count, component_count, matches, Target}
use Rattle.reply_bytes.specs.texts.Bytes.{Text, terminated, unterminated}
use Rattle.reply_read.specs.referral.Replies.{referral_count, starts, entries, path_of, is_read, matches_read, prefix_at, target_at, good_fields, good_entry, ReferralReply, referral_said, referral_in, malformed, nothing, says, read_or, read_as, read_referral}
use Rattle.reply_read.specs.referral.Code.{units_read, opens_at, kept_here, kept_from, denoted}
use Rattle.reply_read.specs.referral.Code as code
use Rattle.reply_read.specs.declared.referral.Unread.{Unread}
use Rattle.std.specs.Prelude.{Result, Err, Option, None, Some}
use Rattle.reply_read.proofs.referral.EntryLaws.{read_some, same_read_lem, unread, entry_read}
use Rattle.reply_read.proofs.referral.TargetLaws.{referral_read}

never_says_bad : {A : Type 0} {a : A} → malformed ≡ says a → ⊥
never_says_bad h = let z : ◌≡◌ {A = ℕ} 0 1 = cc in omega arith

never_says_none : {A : Type 0} {a : A} → nothing ≡ says a → ⊥
never_says_none h = let z : ◌≡◌ {A = ℕ} 0 1 = cc in omega arith

-- a reply that is read as saying b: its length, its count, its test, and b
pub record Read {A : Type 0} (size : ℕ) (r : List ℕ) (good : Bool) (a : Option A) (b : A) : Type 0 where
  pub header : 8 ≤ length r
  pub within : length r ≤ size
  pub counted : 0 < referral_count r
  pub passed : good ≡ true
  pub same : a ≡ Some b

pub some_is : {A : Type 0} (a b : A) → Some a ≡ Some b → a ≡ b
some_is a b h = cc

or_says : {A : Type 0} (a : Option A) (b : A) → read_or a ≡ says b → a ≡ Some b
unfolding read_or
or_says None b h = absurd (never_says_bad h)
or_says (Some x) b h = let p : x ≡ b = cc in λ i. Some (p i)

pub read_says : {A : Type 0} (size : ℕ) (r : List ℕ) (good : Bool) (a : Option A) (b : A) → read_as size r good a ≡ says b → Read size r good a b
unfolding read_as
read_says size r good a b h = go (leb 8 (length r) && leb (length r) size) refl (eqb (referral_count r) 0) refl good refl h
  where
    go : (x : Bool) → (leb 8 (length r) && leb (length r) size) ≡ x → (y : Bool) → eqb (referral_count r) 0 ≡ y → (z : Bool) → good ≡ z
        → choose (leb 8 (length r) && leb (length r) size) (choose (eqb (referral_count r) 0) nothing (choose good (read_or a) malformed)) malformed ≡ says b
        → Read size r good a b
    go false e y f z g k = absurd (never_says_bad (sym (choose_no _ malformed e) ∙ k))
    go true e true f z g k = absurd (never_says_none (sym (choose_yes _ malformed e ∙ choose_yes nothing _ f) ∙ k))
    go true e false f false g k = absurd (never_says_bad (sym (choose_yes _ malformed e ∙ (choose_no nothing _ f ∙ choose_no (read_or a) malformed g)) ∙ k))
    go true e false f true g k =
        let q : read_or a ≡ says b = sym (choose_yes _ malformed e ∙ (choose_no nothing _ f ∙ choose_yes (read_or a) malformed g)) ∙ k in
        let p : referral_count r ≡ 0 → ⊥ = eqb-false (referral_count r) 0 f in
        record {
          header = leb-true 8 (length r) (and_left _ _ e);
          within = leb-true (length r) size (and_right (leb 8 (length r)) _ e);
          counted = omega arith;
          passed = g;
          same = or_says a b q;
        }

-- a path that is read is normalised, with 2 components or more and at most 256 units
good_parts : (s : List ℕ) → good_path s ≡ true → every good_component (pieces (body s)) ≡ true
unfolding good_path
good_parts s h = and_right (not (eqb (leads s) 0)) _ h

normal_is : (s : List ℕ) → good_path s ≡ true → length (normalised s) ≤ 256 → normalised_count (normalised s) ≡ component_count (normalised s)
unfolding normalised_count is_normalised normalised
normal_is s h k =
    choose_yes (component_count (92 ∷ body s)) 0
    (and_both (le-leb (length (92 ∷ body s)) 256 k) (and_both (eqb_refl 92) (good_parts s h)))

pub path_normal : (t : Text) → is_read (path_of t) ≡ true → 2 ≤ normalised_count (units_read (path_of t))
unfolding path_of units_read
path_normal unterminated h = absurd (unread refl h)
path_normal (terminated s) h = go (told (good_path s && (leb (length (normalised s)) 256 && leb 2 (component_count (normalised s)))))
  where
    go : ((good_path s && (leb (length (normalised s)) 256 && leb 2 (component_count (normalised s)))) ≡ true)
        ⊎ ((good_path s && (leb (length (normalised s)) 256 && leb 2 (component_count (normalised s)))) ≡ false)
        → 2 ≤ normalised_count (units_read (choose (good_path s && (leb (length (normalised s)) 256 && leb 2 (component_count (normalised s)))) (Some (normalised s)) None))
    go (inl e) =
        let q : (leb (length (normalised s)) 256 && leb 2 (component_count (normalised s))) ≡ true = and_right (good_path s) _ e in
        let l : length (normalised s) ≤ 256 = leb-true (length (normalised s)) 256 (and_left _ _ q) in
        let n : 2 ≤ component_count (normalised s) = leb-true 2 (component_count (normalised s)) (and_right (leb (length (normalised s)) 256) _ q) in
        subst (λ (x : Option (List ℕ)). 2 ≤ normalised_count (units_read x)) (sym (choose_yes (Some (normalised s)) None e))
        (subst (λ (k : ℕ). 2 ≤ k) (sym (normal_is s (and_left _ _ e) l)) n)
    go (inr e) = absurd (unread (choose_no (Some (normalised s)) None e) h)

-- a kept target is normalised likewise
unfoldable pub good_target : Target → Bool
good_target t = leb 2 (normalised_count t.path)

target_good : (r : List ℕ) (e : ℕ) (t : Target) → t.path ≡ units_read (target_at r e) → good_entry r e ≡ true → good_target t ≡ true
unfolding good_target target_at
target_good r e t p h =
    le-leb 2 (normalised_count t.path) (subst (λ (x : List ℕ). 2 ≤ normalised_count x) (sym p) (path_normal _ (entry_read r e h)))

kept_good : (i : ℕ) (r es : List ℕ) → every (good_entry r) es ≡ true → every good_target (kept_from i r es) ≡ true
unfolding every kept_from kept_here
kept_good i r [] h = refl
kept_good i r (e ∷ es) h = and_both (target_good r e _ refl (and_left _ _ h)) (kept_good (suc i) r es (and_right (good_entry r e) _ h))

length_kept : (i : ℕ) (r es : List ℕ) → length (kept_from i r es) ≡ length es
unfolding kept_from
length_kept i r [] = refl
length_kept i r (e ∷ es) = ap suc (length_kept (suc i) r es)

pub length_starts : (n e : ℕ) (r : List ℕ) → length (starts n e r) ≡ n
unfolding starts
length_starts zero e r = refl
length_starts (suc n) e r = ap suc (length_starts n _ r)

pub length_entries : (r : List ℕ) → length (entries r) ≡ referral_count r
unfolding entries
length_entries r = length_starts (referral_count r) 8 r

first_kept : (r : List ℕ) (es : List ℕ) (t : Target) (ts : List Target) → kept_from 0 r es ≡ t ∷ ts → t.opens ≡ false
unfolding kept_from kept_here opens_at
first_kept r [] t ts h = absurd (let q : length {A = Target} [] ≡ length (t ∷ ts) = ap length h in omega arith)
first_kept r (e ∷ es) t ts h = let q : record { path = units_read (target_at r e); opens = false } ≡ t = cc in sym (ap (λ (x : Target). x.opens) q)

-- What a reply says: a prefix that matches the name asked and 1 to 8 targets, all of them normalised paths of 2 components or more and at
-- most 256 units; no boundary is held for the first.
pub record Sound (asked : List ℕ) (x : ReferralReply) : Type 0 where
  pub some : 1 ≤ length x.targets
  pub most : length x.targets ≤ 8
  pub targets_normal : every good_target x.targets ≡ true
  pub prefix_normal : 2 ≤ normalised_count x.prefix
  pub prefix_matches : matches x.prefix asked ≡ true
  pub first_shut : (t : Target) (ts : List Target) → x.targets ≡ t ∷ ts → t.opens ≡ false

first_read : (r : List ℕ) → 0 < referral_count r → every (good_entry r) (entries r) ≡ true → is_read (prefix_at r 8) ≡ true
unfolding entries starts every good_entry
first_read r h g =
    let q : referral_count r ≡ suc (referral_count r - 1) = omega arith in
    let w : every (good_entry r) (starts (suc (referral_count r - 1)) 8 r) ≡ true = ap (λ (n : ℕ). every (good_entry r) (starts n 8 r)) (sym q) ∙ g in
    same_read_lem (prefix_at r 8) (prefix_at r 8) (and_left _ _ (and_right (good_fields r 8) _ (and_left (good_entry r 8) _ w)))

read_matches : (x : Option (List ℕ)) (asked : List ℕ) → matches_read x asked ≡ true → matches (units_read x) asked ≡ true
unfolding matches_read units_read
read_matches None asked h = absurd (true≢false (sym h))
read_matches (Some p) asked h = h

pub says_sound : (size : ℕ) (asked r : List ℕ) (x : ReferralReply) → read_referral size asked r ≡ says x → Sound asked x
unfolding read_referral referral_said prefix_at
says_sound size asked r x h = subst (Sound asked) is sound
  where
    w : Read size r (every (good_entry r) (entries r) && matches_read (prefix_at r 8) asked) (referral_in r) x
    w = read_says size r _ (referral_in r) x h

    good : every (good_entry r) (entries r) ≡ true
    good = and_left _ _ w.passed

    first : is_read (prefix_at r 8) ≡ true
    first = first_read r w.counted good

    is : referral_said r (units_read (prefix_at r 8)) (kept_from 0 r (take 8 (entries r))) ≡ x
    is = some_is _ x (sym (referral_read r _ (read_some (prefix_at r 8) first) good) ∙ w.same)

    count : length (kept_from 0 r (take 8 (entries r))) ≡ min 8 (referral_count r)
    count = length_kept 0 r (take 8 (entries r)) ∙ (length-take 8 (entries r) ∙ ap (min 8) (length_entries r))

    sound : Sound asked (referral_said r (units_read (prefix_at r 8)) (kept_from 0 r (take 8 (entries r))))
    sound = record {
      some = omega (arith, count, w.counted);
      most = omega (arith, count);
      targets_normal = kept_good 0 r (take 8 (entries r)) (every_take (good_entry r) 8 (entries r) good);
      prefix_normal = path_normal _ first;
      prefix_matches = read_matches (prefix_at r 8) asked (and_right (every (good_entry r) (entries r)) _ w.passed);
      first_shut = λ t ts e. first_kept r (take 8 (entries r)) t ts e;
    }

-- what a reader found of a reply that says something

-- and the reason of one that says nothing
pub denoted_err : {F A : Type 0} (shown : F → A) (u : Unread) {x : Result F Unread} → x ≡ Err u → denoted shown x ≡ code.unread u
unfolding denoted
denoted_err shown u e = ap (denoted shown) e
