-- Laws of replies as a whole.
use mathlib.Core.Path.{◌≡◌, refl, sym, ap, ◌∙◌, subst}
use mathlib.Core.Bool.{Bool, true, false, ◌&&◌, true≢false}
use mathlib.Core.Logic.{◌⊎◌, inl, inr}
use mathlib.Core.List.{List}
use Prim.Native.Nat.{ℕ, ◌≤◌, ◌<◌}
use native.Mathlib.Omega.{arith}
use lib.Dec.{leb, eqb}
use lib.ListN.{length}
use borrow.Author.Tests.{eq-eqb, ne_eqb, eqb-false, le-leb, lt-leb, leb-true}
use Rattle.laws.specs.Choice.{choose}
use Rattle.laws.specs.Lists.{every}
use Rattle.laws.proofs.Choices.{choose_yes, choose_no, and_left, and_right, and_both, and_no_left, and_no_right}
use Rattle.unc.specs.names.Paths.{matches}
use Rattle.reply_read.specs.referral.Replies.{good_entry, matches_read, Reply, malformed, nothing, read_or, read_as, referral_count, entries}
use Rattle.reply_read.specs.referral.Code.{FirstEntry, unread, entry_count}
use Rattle.reply_read.specs.declared.referral.Unread.{Unread}
use Rattle.reply_read.specs.declared.referral.Unread.TheVariants.{Malformed, Nothing}
use Rattle.std.specs.Prelude.{Result, Ok, Err, IsErrAnd, IfSome, Option, None, Some}
use Rattle.std.specs.Option.{ok_or}
use Rattle.std.specs.Result.{result_ok}
use Rattle.reply_read.specs.declared.referral.First.{First}
use Rattle.std.proofs.lemmas.Result.{err_from_is_err_and}
use Rattle.laws.proofs.Orders.{lt_or_le}
use Rattle.reply_read.proofs.referral.EntryLaws.{entries_short, entry_short}

-- the tests that come first for every reply, in their order
module _ (size : ℕ) (r : List ℕ) where
  pub count_short : length r < 8 → Err Malformed ≡ entry_count size r
  unfolding entry_count
  count_short h = sym (choose_no _ (Err Malformed) (and_no_left _ (lt-leb 8 (length r) h)))

  pub count_long : size < length r → Err Malformed ≡ entry_count size r
  unfolding entry_count
  count_long h = sym (choose_no _ (Err Malformed) (and_no_right (leb 8 (length r)) (lt-leb (length r) size h)))

  module _ (h : 8 ≤ length r) (k : length r ≤ size) {n : ℕ} (e : n ≡ referral_count r) where
    rest : entry_count size r ≡ choose (eqb (referral_count r) 0) (Err Nothing) (Ok (referral_count r))
    unfolding entry_count
    rest = choose_yes _ (Err Malformed) (and_both (le-leb 8 (length r) h) (le-leb (length r) size k))

    pub count_none : n ≡ 0 → Err Nothing ≡ entry_count size r
    count_none f = sym (rest ∙ choose_yes (Err Nothing) _ (eq-eqb (referral_count r) 0 (sym e ∙ f)))

    pub count_some : (n ≡ 0 → ⊥) → Ok n ≡ entry_count size r
    count_some f = (λ i. Ok (e i)) ∙ sym (rest ∙ choose_no (Err Nothing) (Ok (referral_count r)) (ne_eqb (referral_count r) 0 (λ q. f (e ∙ q))))

-- how a reply is read, by the number of its entries
after : {A : Type 0} → Result ℕ Unread → Bool → Option A → Reply A
after (Ok n) good a = choose good (read_or a) malformed
after (Err e) good a = unread e

by_tests : {A : Type 0} (s t : Bool) (n : ℕ) (good : Bool) (a : Option A)
    → choose s (choose t nothing (choose good (read_or a) malformed)) malformed ≡ after (choose s (choose t (Err Nothing) (Ok n)) (Err Malformed)) good a
unfolding choose after unread
by_tests true true n good a = refl
by_tests true false n good a = refl
by_tests false t n good a = refl

-- a reply that has entries: its length and their number
pub record Counted (size : ℕ) (r : List ℕ) (n : ℕ) : Type 0 where
  pub header : 8 ≤ length r
  pub within : length r ≤ size
  pub is : n ≡ referral_count r
  pub some : 0 < n

module _ (size : ℕ) (r : List ℕ) {x : Result ℕ Unread} (c : x ≡ entry_count size r) where
  pub counted : (n : ℕ) → x ≡ Ok n → Counted size r n
  unfolding entry_count
  counted n e = go (leb 8 (length r) && leb (length r) size) refl (eqb (referral_count r) 0) refl (sym c ∙ e)
    where
      go : (s : Bool) → (leb 8 (length r) && leb (length r) size) ≡ s → (t : Bool) → eqb (referral_count r) 0 ≡ t
          → choose (leb 8 (length r) && leb (length r) size) (choose (eqb (referral_count r) 0) (Err Nothing) (Ok (referral_count r))) (Err Malformed) ≡ Ok n
          → Counted size r n
      go false f t g h = absurd (let z : ◌≡◌ {A = Result ℕ Unread} (Err Malformed) (Ok n) = sym (choose_no _ (Err Malformed) f) ∙ h in cc)
      go true f true g h = absurd (let z : ◌≡◌ {A = Result ℕ Unread} (Err Nothing) (Ok n) = sym (choose_yes _ (Err Malformed) f ∙ choose_yes (Err Nothing) _ g) ∙ h in cc)
      go true f false g h =
          let z : ◌≡◌ {A = Result ℕ Unread} (Ok (referral_count r)) (Ok n) = sym (choose_yes _ (Err Malformed) f ∙ choose_no (Err Nothing) (Ok (referral_count r)) g) ∙ h in
          let q : referral_count r ≡ n = cc in
          let p : referral_count r ≡ 0 → ⊥ = eqb-false (referral_count r) 0 g in
          record {
            header = leb-true 8 (length r) (and_left _ _ f);
            within = leb-true (length r) size (and_right (leb 8 (length r)) _ f);
            is = sym q;
            some = omega arith;
          }

  module _ {A : Type 0} (good : Bool) (a : Option A) where
    read_after : after x good a ≡ read_as size r good a
    unfolding read_as entry_count
    read_after = ap (λ (y : Result ℕ Unread). after y good a) c ∙ sym (by_tests (leb 8 (length r) && leb (length r) size) (eqb (referral_count r) 0) (referral_count r) good a)

    pub read_uncounted : (e : Unread) → x ≡ Err e → unread e ≡ read_as size r good a
    unfolding after
    read_uncounted e h = sym (ap (λ (y : Result ℕ Unread). after y good a) h) ∙ read_after

    module _ (n : ℕ) (h : x ≡ Ok n) where
      pub read_bad : good ≡ false → malformed ≡ read_as size r good a
      unfolding after
      read_bad g = sym (ap (λ (y : Result ℕ Unread). after y good a) h ∙ choose_no (read_or a) malformed g) ∙ read_after

      pub read_good : good ≡ true → read_or a ≡ read_as size r good a
      unfolding after
      read_good g = sym (ap (λ (y : Result ℕ Unread). after y good a) h ∙ choose_yes (read_or a) malformed g) ∙ read_after

-- the reason of a reply that says nothing, handed on by `?`
pub passed_on : {T : Type 0} (x : Result T Unread) (e : Unread) → IsErrAnd x (λ y. y ≡ e) → x ≡ Err e
passed_on x e h = let p = err_from_is_err_and x h in p.1 ∙ (λ i. Err (p.2 i))

-- a reply that lacks what it has to have is malformed
pub missing : {T : Type 0} {v : Option T} {x : Result T Unread} {e : Unread} → v ≡ None → x ≡ ok_or v Malformed → x ≡ Err e → e ≡ Malformed
missing n q h = cc (sym h ∙ (q ∙ ap (λ (w : Option _). ok_or w Malformed) n))

-- what the first entry says, where it is taken
pub read_first : {r : List ℕ} {v : Option First} {x : Result First Unread} {first : First} → IfSome v (FirstEntry r) → v ≡ result_ok x → x ≡ Ok first → FirstEntry r first
read_first {r} h e f = subst (λ (w : Option First). IfSome w (FirstEntry r)) (e ∙ ap result_ok f) h

-- a prefix that is read, and one that is not
module _ (asked : List ℕ) where
  pub read_matches : {x : Option (List ℕ)} {p : List ℕ} {t : Bool} → x ≡ Some p → t ≡ matches p asked → matches_read x asked ≡ t
  unfolding matches_read
  read_matches e f = ap (λ (x : Option (List ℕ)). matches_read x asked) e ∙ sym f

-- good entries reach past the fixed part of the first
pub good_long : (r : List ℕ) → 8 ≤ length r → 0 < referral_count r → every (good_entry r) (entries r) ≡ true → 42 ≤ length r
good_long r h k g = go (lt_or_le (length r) 42)
  where
    go : (length r < 42) ⊎ (42 ≤ length r) → 42 ≤ length r
    go (inr z) = z
    go (inl z) = absurd (true≢false (sym g ∙ entries_short (good_entry r) r k (entry_short r h z)))
