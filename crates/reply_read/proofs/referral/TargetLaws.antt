-- Laws of the kept targets.
use Rattle.std.specs.Prelude.{Option, None, Some}
use mathlib.Core.Path.{◌≡◌, refl, sym, ap, ◌∙◌}
use mathlib.Core.Bool.{Bool, true, false}
use mathlib.Core.List.{List, [], ◌∷◌, ◌++◌, map}
use mathlib.Core.Logic.{◌⊎◌, inl, inr}
use Prim.Native.Nat.{ℕ, suc, ◌+◌, ◌-◌, ◌*◌, ◌≤◌, ◌<◌, min}
use native.Mathlib.Omega.{arith}
use lib.ListN.{length, take, set, replicate}
use borrow.Author.Tests.{le-leb}
use Rattle.laws.specs.Lists.{every}
use Rattle.laws.proofs.Choices.{and_left, and_right}
use Rattle.laws.proofs.Orders.{lt_or_le}
use Rattle.laws.proofs.Every.{every_take}
use Rattle.laws.proofs.Filling.{filled_next, filled_whole, every_set, every_copies}
use Rattle.reply_bytes.specs.texts.Code.{spanned, Inside}
use Rattle.reply_bytes.specs.declared.texts.Span.{Span}
use Rattle.unc.specs.names.Paths.{Target}
use Rattle.reply_read.specs.referral.Replies.{size_at, starts, entries, referral_count, good_entry, with_first, all_read, prefix_at, target_at, target_read, later_target, kept_targets, referral_said, referral_with, referral_in}
use Rattle.reply_read.specs.referral.Code.{is_inside, units_read, kept_inside, opens_at, kept_here, kept_from, target_shown}
use Rattle.reply_read.specs.declared.referral.Kept.{Kept}
use Rattle.reply_read.proofs.referral.EntryLaws.{read_some, unread, starts_cons, starts_none, entry_fit, entry_read}

-- the targets of good entries are read
target_read_lem : (r : List ℕ) (e : ℕ) (o : Bool) → good_entry r e ≡ true → target_read (target_at r e) o ≡ Some (record { path = units_read (target_at r e); opens = o })
unfolding target_read
target_read_lem r e o h = ap (λ (x : Option (List ℕ)). target_read x o) (read_some (target_at r e) (entry_read r e h))

later_read : (i : ℕ) (r es : List ℕ) → every (good_entry r) es ≡ true → all_read (map (later_target r) es) ≡ Some (kept_from (suc i) r es)
unfolding every later_target all_read with_first kept_from kept_here opens_at
later_read i r [] h = refl
later_read i r (e ∷ es) h =
    ap (λ (x : Option Target). all_read (x ∷ map (later_target r) es)) (target_read_lem r e _ (and_left (good_entry r e) _ h))
    ∙ ap (with_first (kept_here (suc i) r e)) (later_read (suc i) r es (and_right (good_entry r e) _ h))

pub targets_read : (r es : List ℕ) → every (good_entry r) es ≡ true → all_read (kept_targets r es) ≡ Some (kept_from 0 r es)
unfolding every kept_targets all_read with_first kept_from kept_here opens_at
targets_read r [] h = refl
targets_read r (e ∷ es) h =
    ap (λ (x : Option Target). all_read (x ∷ map (later_target r) es)) (target_read_lem r e false (and_left (good_entry r e) _ h))
    ∙ ap (with_first (kept_here 0 r e)) (later_read 0 r es (and_right (good_entry r e) _ h))

-- so is what a reply says
pub referral_read : (r p : List ℕ) → prefix_at r 8 ≡ Some p → every (good_entry r) (entries r) ≡ true
    → referral_in r ≡ Some (referral_said r p (kept_from 0 r (take 8 (entries r))))
unfolding referral_in referral_with
referral_read r p e g = λ i. referral_with r (e i) (targets_read r (take 8 (entries r)) (every_take (good_entry r) 8 (entries r) g) i)

-- what is still to come: the targets of at most 8 - i of the n - i entries from e on
pub to_come : ℕ → ℕ → List ℕ → ℕ → List Target
to_come n i r e = kept_from i r (take (8 - i) (starts (n - i) e r))

come_next : (n i : ℕ) (r : List ℕ) (e : ℕ) {z : ℕ} → i < n → i < 8 → z ≡ e + size_at r e → to_come n i r e ≡ kept_here i r e ∷ to_come n (i + 1) r z
unfolding to_come kept_from
come_next n i r e {z} h k g =
    let p : 8 - i ≡ suc (8 - (i + 1)) = omega arith in
    let q : i + 1 ≡ suc i = omega arith in
    (λ j. kept_from i r (take (p j) (starts_cons (λ x. true) r n i e h j)))
    ∙ (λ j. kept_here i r e ∷ kept_from (sym q j) r (take (8 - (i + 1)) (starts (n - (i + 1)) (sym g j) r)))

pub come_none : (n i : ℕ) (r : List ℕ) (e : ℕ) → min n 8 ≤ i → to_come n i r e ≡ []
unfolding to_come starts kept_from
come_none n i r e h = go (lt_or_le i n)
  where
    go : (i < n) ⊎ (n ≤ i) → kept_from i r (take (8 - i) (starts (n - i) e r)) ≡ []
    go (inl k) = let p : 8 - i ≡ 0 = omega arith in ap (λ (m : ℕ). kept_from i r (take m (starts (n - i) e r))) p
    go (inr k) =
        ap (λ (x : List ℕ). kept_from i r (take (8 - i) x)) (starts_none (λ x. true) r n i e k)
        ∙ ap (kept_from i r) (lib.Seq.take-nil (8 - i))

pub come_all : (r : List ℕ) {n : ℕ} → n ≡ referral_count r → kept_from 0 r (take 8 (entries r)) ≡ to_come n 0 r 8
unfolding to_come entries
come_all r {n} e = let q : referral_count r ≡ n - 0 = omega arith in ap (λ (m : ℕ). kept_from 0 r (take 8 (starts m 8 r))) q

-- one target stored
pub target_next : (n i : ℕ) (r : List ℕ) (e : ℕ) {z : ℕ} (l : List Kept) (s : Span) (o : Bool) {all : List Target}
    → all ≡ map (target_shown r) (take i l) ++ to_come n i r e → i < length l → i < n → i < 8 → z ≡ e + size_at r e → target_at r e ≡ Some (spanned r s) → o ≡ opens_at i r e
    → all ≡ map (target_shown r) (take (i + 1) (set l i (record { path = s; opens = o }))) ++ to_come n (i + 1) r z
unfolding target_shown kept_here units_read
target_next n i r e l s o g h k m j a b =
    g ∙ filled_next (target_shown r) l i (record { path = s; opens = o }) h (come_next n i r e k m j) (λ x. record { path = sym (ap units_read a) x; opens = b x })

-- spans inside the reply, as a test
pub inside_test : (r : List ℕ) (s : Span) → Inside r s → is_inside r s ≡ true
unfolding is_inside
inside_test r s h = le-leb (s.from + 2 * s.units) (length r) h

pub kept_next : (r : List ℕ) (l : List Kept) (i : ℕ) (s : Span) (o : Bool) → every (kept_inside r) l ≡ true → Inside r s
    → every (kept_inside r) (set l i (record { path = s; opens = o })) ≡ true
unfolding kept_inside
kept_next r l i s o h k = every_set (kept_inside r) l i (record { path = s; opens = o }) h (inside_test r s k)

-- the good entries that are left: the first lies inside the reply
pub left_fits : (r : List ℕ) (n i e : ℕ) → i < n → every (good_entry r) (starts (n - i) e r) ≡ true → (34 ≤ size_at r e) × (e + size_at r e ≤ length r)
unfolding every
left_fits r n i e h k =
    entry_fit r e refl (and_left _ _ (ap (every (good_entry r)) (sym (starts_cons (λ x. true) r n i e h)) ∙ k))

pub left_next : (r : List ℕ) (n i e : ℕ) {z : ℕ} → i < n → every (good_entry r) (starts (n - i) e r) ≡ true → z ≡ e + size_at r e
    → every (good_entry r) (starts (n - (i + 1)) z r) ≡ true
unfolding every
left_next r n i e h k g =
    ap (λ (x : ℕ). every (good_entry r) (starts (n - (i + 1)) x r)) g
    ∙ and_right (good_entry r e) _ (ap (every (good_entry r)) (sym (starts_cons (λ x. true) r n i e h)) ∙ k)

pub left_read : (r : List ℕ) (n i e : ℕ) → i < n → every (good_entry r) (starts (n - i) e r) ≡ true → target_at r e ≡ None → ⊥
unfolding every
left_read r n i e h k g =
    unread g (entry_read r e (and_left _ _ (ap (every (good_entry r)) (sym (starts_cons (λ x. true) r n i e h)) ∙ k)))

-- the targets are all stored
pub target_all : (n i m : ℕ) (r : List ℕ) (e : ℕ) (l : List Kept) {all : List Target} → all ≡ map (target_shown r) (take i l) ++ to_come n i r e
    → n ≡ referral_count r → m ≡ min n 8 → i ≤ m → m ≤ i → map (target_shown r) (take (min (referral_count r) 8) l) ≡ all
target_all n i m r e l g a b h k =
    let q : min (referral_count r) 8 ≡ i = ap (λ (x : ℕ). min x 8) (sym a) ∙ (sym b ∙ omega arith) in
    ap (λ (x : ℕ). map (target_shown r) (take x l)) q ∙ filled_whole (target_shown r) l i g (come_none n i r e (omega arith))

-- an array of spans of no units
pub none_kept : (r : List ℕ) (n : ℕ) → every (kept_inside r) (replicate n (record { path = record { from = 0; units = 0 }; opens = false })) ≡ true
unfolding kept_inside
none_kept r n =
    every_copies (kept_inside r) n (record { path = record { from = 0; units = 0 }; opens = false }) (inside_test r (record { from = 0; units = 0 }) (omega arith))

pub none_inside : (r : List ℕ) (n : ℕ) → every (is_inside r) (replicate n (record { from = 0; units = 0 })) ≡ true
none_inside r n = every_copies (is_inside r) n (record { from = 0; units = 0 }) (inside_test r (record { from = 0; units = 0 }) (omega arith))
