-- Laws of hints: the first equal target, and the first target set.
use mathlib.Core.Path.{◌≡◌, refl, sym, ap, ◌∙◌}
use mathlib.Core.Bool.{Bool, true, false, not}
use mathlib.Core.List.{List, [], ◌∷◌, map}
use Prim.Native.Nat.{ℕ, suc, ◌+◌, ◌≤◌, ◌<◌}
use native.Mathlib.Numerals.{add-one}
use native.Mathlib.Omega.{arith}
use lib.ListN.{length, get_or, take, drop, drop_of_length-le, length-drop, length-take}
use lib.Seq.{drop-cons, get_or-take, get_or-drop}
use Rattle.laws.specs.Lists.{every}
use Rattle.laws.proofs.Choices.{choose_yes, choose_no}
use Rattle.laws.proofs.Tests.{both_ways}
use Rattle.laws.proofs.Listed.{get_d_map}
use Rattle.unc.specs.names.Names.{same_name}
use Rattle.unc.proofs.names.NameLaws.{same_name_sym}
use Rattle.unc.specs.names.Paths.{Target}
use Rattle.cache.specs.order.Entries.{Referral}
use Rattle.reply_bytes.specs.texts.Code.{spanned}
use Rattle.reply_read.specs.referral.Code.{target_shown}
use Rattle.reply_read.specs.declared.referral.Kept.{Kept}
use Rattle.cache_lookup.specs.Lookup.{target_path}
use Rattle.cache_lookup.specs.Code.{target_opens}
use Rattle.cache_store.specs.entry_after_reply.Stored.{first_equal, hinted, in_first_set}

-- equal names either way round
pub same_swap : (a b : List ℕ) → same_name a b ≡ same_name b a
same_swap a b = both_ways (same_name a b) (same_name b a) (same_name_sym a b) (same_name_sym b a)

abbrev pub nowhere : Target
nowhere = record { path = []; opens = false }

-- the path that the hint points to
pub hinted_is : (e : Referral) (h : ℕ) {p : List ℕ} → p ≡ target_path h e → h ≡ e.hint → e.hint < length e.targets → p ≡ hinted e
unfolding target_path hinted
hinted_is e h f g l =
    f ∙ (ap (λ (j : ℕ). (get_or e.targets j nowhere).path) g ∙ sym (get_d_map (λ (t : Target). t.path) e.targets e.hint nowhere [] l))

pub target_path_lem : (e : Referral) (j : ℕ) {x : List ℕ} → x ≡ target_path j e → x ≡ (get_or e.targets j nowhere).path
unfolding target_path
target_path_lem e j h = h

pub target_mark : (e : Referral) (j : ℕ) {r : Bool} → r ≡ target_opens j e → r ≡ (get_or e.targets j nowhere).opens
unfolding target_opens
target_mark e j h = h

-- the path of target n of a reply
pub given_path : (r : List ℕ) (ks : List Kept) (n : ℕ) (k : Kept) → n < length ks → spanned r (get_or ks n k).path ≡ (get_or (map (target_shown r) ks) n nowhere).path
unfolding target_shown
given_path r ks n k h = ap (λ (t : Target). t.path) (sym (get_d_map (target_shown r) ks n k nowhere h))

-- a loop that looks for an equal target, from target j on: x is its path, q the one looked for
module _ (p : List ℕ) (ts : List Target) (j : ℕ) (d : Target) where
  equal_test : {x q : List ℕ} {r : Bool} → x ≡ (get_or ts j d).path → q ≡ p → r ≡ same_name x q → same_name (get_or ts j d).path p ≡ r
  equal_test e f g = sym (g ∙ (λ i. same_name (e i) (f i)))

  pub equal_hit : {x q : List ℕ} {r : Bool} → j < length ts → x ≡ (get_or ts j d).path → q ≡ p → r ≡ same_name x q → r ≡ true → first_equal j p (drop j ts) ≡ j
  unfolding first_equal
  equal_hit h e f g k = rw (drop-cons ts j d h) (choose_yes j _ (equal_test e f g ∙ k))

  pub equal_miss : {x q : List ℕ} {r : Bool} → j < length ts → x ≡ (get_or ts j d).path → q ≡ p → r ≡ same_name x q → r ≡ false
      → first_equal j p (drop j ts) ≡ first_equal (j + 1) p (drop (j + 1) ts)
  unfolding first_equal
  equal_miss h e f g k = rw (add-one j, drop-cons ts j d h) (choose_no j _ (equal_test e f g ∙ k))

pub equal_end : (p : List ℕ) (ts : List Target) (j : ℕ) → length ts ≤ j → first_equal j p (drop j ts) ≡ 0
unfolding first_equal
equal_end p ts j h = rw (drop_of_length-le ts h)

-- a loop over the targets up to a place, the first left out: from target 1 + k on
abbrev pub rest_from : ℕ → ℕ → List Target → List Target
rest_from n k ts = drop k (take n (drop 1 ts))

pub set_start : (n : ℕ) (ts : List Target) → in_first_set n ts ≡ every (λ t. not t.opens) (rest_from n 0 ts)
unfolding in_first_set
set_start n ts = refl

module _ (n : ℕ) (ts : List Target) (k : ℕ) (h : k < n) (l : n < length ts) where
  rest_more : rest_from n k ts ≡ get_or ts (1 + k) nowhere ∷ rest_from n (k + 1) ts
  rest_more =
      rw (add-one k)
      (drop-cons (take n (drop 1 ts)) k nowhere (simp (length-take, length-drop) (omega arith))
      ∙ ap (λ (t : Target). t ∷ drop (suc k) (take n (drop 1 ts))) (get_or-take n (drop 1 ts) k nowhere h ∙ get_or-drop 1 ts k nowhere))

  pub set_more : {r : Bool} → r ≡ (get_or ts (1 + k) nowhere).opens → r ≡ false → every (λ t. not t.opens) (rest_from n k ts) ≡ every (λ t. not t.opens) (rest_from n (k + 1) ts)
  unfolding every
  set_more e f = rw (rest_more, ← e, f)

  pub set_stop : {r : Bool} → r ≡ (get_or ts (1 + k) nowhere).opens → r ≡ true → every (λ t. not t.opens) (rest_from n k ts) ≡ false
  unfolding every
  set_stop e f = rw (rest_more, ← e, f)

pub set_end_lem : (n : ℕ) (ts : List Target) (k : ℕ) → n ≤ k → every (λ t. not t.opens) (rest_from n k ts) ≡ true
unfolding every
set_end_lem n ts k h =
    let l : length (take n (drop 1 ts)) ≤ k = simp length-take (omega arith) in
    rw (drop_of_length-le (take n (drop 1 ts)) l)
