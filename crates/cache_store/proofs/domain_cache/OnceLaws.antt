-- Laws of equal names kept once, gathered one name at a time.
use mathlib.Core.Path.{◌≡◌, refl, sym, ap, ◌∙◌}
use mathlib.Core.Bool.{Bool, true, false, ◌&&◌, not}
use mathlib.Core.List.{List, [], ◌∷◌, ◌++◌, map, append_assoc, append-nil}
use mathlib.Core.Logic.{◌⊎◌, inl, inr}
use Prim.Native.Nat.{ℕ, ◌+◌, ◌≤◌, ◌<◌}
use native.Mathlib.Numerals.{add-one}
use native.Mathlib.Omega.{arith}
use lib.ListN.{length, get_or, take, drop, set, length-set, drop_of_length-le}
use lib.Seq.{drop-cons, take_all, take_at, take-suc-set}
use borrow.Author.Tests.{not-true}
use Rattle.laws.specs.Lists.{every}
use Rattle.laws.proofs.Choices.{choose_yes, choose_no, and_left, and_right, and_both, and_no_right}
use Rattle.laws.proofs.Orders.{told}
use Rattle.laws.proofs.Tests.{refuted, not_both}
use Rattle.laws.proofs.Every.{every_append}
use Rattle.laws.proofs.Filling.{filled_next}
use Rattle.unc.specs.names.Names.{same_name}
use Rattle.unc.proofs.names.NameLaws.{same_name_trans}
use Rattle.cache.specs.order.Order.{distinct}
use Rattle.cache_store.specs.entry_after_reply.Stored.{keep_unless, others, once}
use Rattle.reply_bytes.specs.texts.Code.{spanned}
use Rattle.reply_bytes.specs.declared.texts.Span.{Span}
use Rattle.cache_store.specs.domain_cache.Code.{good_name_span, is_new, with_name, shown, Fit, Added}
use Rattle.cache_store.specs.declared.domain_cache.Names.{Names}

-- the names that are equal to none of those in ns
unfoldable pub unlike : List (List ℕ) → List (List ℕ) → List (List ℕ)
unlike ns [] = []
unlike ns (m ∷ ms) = keep_unless (not (is_new ns m)) m (unlike ns ms)

-- where a name is new, so is one equal to it
new_same : (ns : List (List ℕ)) (n m : List ℕ) → same_name n m ≡ true → is_new ns m ≡ true → is_new ns n ≡ true
unfolding is_new every
new_same [] n m e h = refl
new_same (a ∷ ns) n m e h =
    and_both
    (ap not (refuted (same_name a n) (λ t. not_both (same_name_trans a n m t e) (not-true (same_name a m) (and_left (not (same_name a m)) _ h)))))
    (new_same ns n m e (and_right (not (same_name a m)) _ h))

and_yes_right : (a : Bool) {b : Bool} → b ≡ true → (a && b) ≡ a
and_yes_right true h = h
and_yes_right false h = refl

new_append : (ns : List (List ℕ)) (n m : List ℕ) → is_new (ns ++ (n ∷ [])) m ≡ (is_new ns m && not (same_name n m))
unfolding is_new every
new_append ns n m = every_append (λ x. not (same_name x m)) ns (n ∷ []) ∙ ap (λ (b : Bool). is_new ns m && b) (and_yes_right (not (same_name n m)) refl)

-- names equal to one that is not new are left out already
unlike_known : (ns : List (List ℕ)) (n : List ℕ) (ms : List (List ℕ)) → is_new ns n ≡ false → unlike ns (others n ms) ≡ unlike ns ms
unfolding others keep_unless unlike
unlike_known ns n [] h = refl
unlike_known ns n (m ∷ ms) h = go (told (same_name n m)) (unlike_known ns n ms h)
  where
    go : (same_name n m ≡ true) ⊎ (same_name n m ≡ false) → unlike ns (others n ms) ≡ unlike ns ms → unlike ns (keep_unless (same_name n m) m (others n ms)) ≡ unlike ns (m ∷ ms)
    go (inl t) r =
        let k : is_new ns m ≡ false = refuted (is_new ns m) (λ f. not_both (new_same ns n m t f) h) in
        rw (t, k) r
    go (inr t) r = rw t (λ i. keep_unless (not (is_new ns m)) m (r i))

-- names equal to one that is added are left out with it
unlike_new : (ns : List (List ℕ)) (n : List ℕ) (ms : List (List ℕ)) → unlike ns (others n ms) ≡ unlike (ns ++ (n ∷ [])) ms
unfolding others keep_unless unlike
unlike_new ns n [] = refl
unlike_new ns n (m ∷ ms) = go (told (same_name n m)) (unlike_new ns n ms)
  where
    go : (same_name n m ≡ true) ⊎ (same_name n m ≡ false) → unlike ns (others n ms) ≡ unlike (ns ++ (n ∷ [])) ms
        → unlike ns (keep_unless (same_name n m) m (others n ms)) ≡ unlike (ns ++ (n ∷ [])) (m ∷ ms)
    go (inl t) r =
        let k : is_new (ns ++ (n ∷ [])) m ≡ false = new_append ns n m ∙ and_no_right (is_new ns m) (ap not t) in
        rw (t, k) r
    go (inr t) r =
        let k : is_new (ns ++ (n ∷ [])) m ≡ is_new ns m = new_append ns n m ∙ and_yes_right (is_new ns m) (ap not t) in
        rw (t, k) (λ i. keep_unless (not (is_new ns m)) m (r i))

unlike_none : (ms : List (List ℕ)) → unlike [] ms ≡ ms
unfolding unlike is_new every keep_unless
unlike_none [] = refl
unlike_none (m ∷ ms) = λ i. m ∷ unlike_none ms i

-- nothing is gathered yet
pub once_start : (all : List (List ℕ)) → once all ≡ [] ++ unlike [] (once all)
once_start all = sym (unlike_none (once all))

-- one name more
pub once_step : (ns : List (List ℕ)) (n : List ℕ) (rest : List (List ℕ)) {all : List (List ℕ)} → all ≡ ns ++ unlike ns (once (n ∷ rest))
    → all ≡ with_name ns n ++ unlike (with_name ns n) (once rest)
unfolding once unlike keep_unless with_name
once_step ns n rest {all} e = go (told (is_new ns n))
  where
    go : (is_new ns n ≡ true) ⊎ (is_new ns n ≡ false) → all ≡ with_name ns n ++ unlike (with_name ns n) (once rest)
    go (inl t) =
        e ∙ (ap (λ (b : Bool). ns ++ keep_unless (not b) n (unlike ns (others n (once rest)))) t
        ∙ ((λ i. ns ++ (n ∷ unlike_new ns n (once rest) i))
        ∙ (sym (append_assoc ns (n ∷ []) (unlike (ns ++ (n ∷ [])) (once rest)))
        ∙ ap (λ (x : List (List ℕ)). x ++ unlike x (once rest)) (sym (choose_yes (ns ++ (n ∷ [])) ns t)))))
    go (inr t) =
        e ∙ (ap (λ (b : Bool). ns ++ keep_unless (not b) n (unlike ns (others n (once rest)))) t
        ∙ ((λ i. ns ++ unlike_known ns n (once rest) t i)
        ∙ ap (λ (x : List (List ℕ)). x ++ unlike x (once rest)) (sym (choose_no (ns ++ (n ∷ [])) ns t))))

-- all names are gathered, or 33
pub once_all : (ns : List (List ℕ)) {rest all : List (List ℕ)} → all ≡ ns ++ unlike ns (once rest) → rest ≡ [] → length ns ≤ 33 → ns ≡ take 33 all
unfolding once unlike
once_all ns {rest} {all} e h l =
    sym
    (ap (take 33) (e ∙ ((λ i. ns ++ unlike ns (once (h i))) ∙ append-nil ns)) ∙ take_all 33 ns l)

pub once_full : (ns rest : List (List ℕ)) {all : List (List ℕ)} → all ≡ ns ++ unlike ns (once rest) → length ns ≡ 33 → ns ≡ take 33 all
once_full ns rest e l = sym (ap (take 33) e ∙ take_at ns (unlike ns (once rest)) 33 l)

-- a loop over names that looks for one equal to n: x is name j
module _ (names : List (List ℕ)) (n : List ℕ) (j : ℕ) (x : List ℕ) where
  pub new_more : {b : Bool} → j < length names → get_or names j x ≡ x → b ≡ same_name x n → b ≡ false → is_new (drop j names) n ≡ is_new (drop (j + 1) names) n
  unfolding is_new every
  new_more h e f g = rw (drop-cons names j x h, e, ← f, g, add-one j)

  pub new_broken : {b : Bool} → j < length names → get_or names j x ≡ x → b ≡ same_name x n → b ≡ true → is_new (drop j names) n ≡ false
  unfolding is_new every
  new_broken h e f g = rw (drop-cons names j x h, e, ← f, g)

pub new_end : (names : List (List ℕ)) (n : List ℕ) (j : ℕ) → length names ≤ j → is_new (drop j names) n ≡ true
unfolding is_new every
new_end names n j h = rw (drop_of_length-le names h)

-- a name that is not new adds nothing; a new one goes behind the others
module _ (r : List ℕ) (v : Names) (s : Span) (fit : Fit r v) {b : Bool} (e : b ≡ is_new (shown r v) (spanned r s)) where
  pub added_none : b ≡ false → Added r v s v
  unfolding with_name
  added_none h = record { fit = fit; are = sym (choose_no (shown r v ++ (spanned r s ∷ [])) (shown r v) (sym e ∙ h)) }

  pub added_one : (w : Names) → w.kept ≡ set v.kept v.count s → w.count ≡ v.count + 1 → v.count < 33
      → good_name_span r s ≡ true → b ≡ true → Added r v s w
  unfolding with_name every
  added_one w p q l g h =
      let room : length v.kept ≡ 33 = fit.room in
      let u : v.count < length v.kept = omega arith in
      let k : take w.count w.kept ≡ take v.count v.kept ++ (s ∷ []) =
      (λ i. take (q i) (p i)) ∙ (ap (λ (n : ℕ). take n (set v.kept v.count s)) (add-one v.count) ∙ take-suc-set v.kept v.count s u) in
      record {
        fit = record {
          room = ap length p ∙ (length-set v.kept v.count s ∙ fit.room);
          few = omega arith;
          good = ap (every (good_name_span r)) k ∙ (every_append (good_name_span r) (take v.count v.kept) (s ∷ []) ∙ and_both fit.good (and_both g refl));
        };
        are = (λ i. map (spanned r) (take (q i) (p i)))
            ∙ (sym (filled_next (spanned r) v.kept v.count s u refl refl ∙ append-nil (map (spanned r) (take (v.count + 1) (set v.kept v.count s))))
            ∙ sym (choose_yes (shown r v ++ (spanned r s ∷ [])) (shown r v) (sym e ∙ h)));
      }

-- nothing is kept yet
pub none_kept : (r : List ℕ) (v : Names) → v.count ≡ 0 → length v.kept ≡ 33 → Fit r v
unfolding every
none_kept r v h l = record { room = l; few = omega arith; good = ap (λ (n : ℕ). every (good_name_span r) (take n v.kept)) h }

-- the names kept once are those of the list, no two of them equal
module _ (n : List ℕ) where
  others_every : (f : List ℕ → Bool) (ms : List (List ℕ)) → every f ms ≡ true → every f (others n ms) ≡ true
  unfolding others every keep_unless
  others_every f [] h = refl
  others_every f (m ∷ ms) h = go (told (same_name n m)) (others_every f ms (and_right (f m) _ h))
    where
      go : (same_name n m ≡ true) ⊎ (same_name n m ≡ false) → every f (others n ms) ≡ true → every f (keep_unless (same_name n m) m (others n ms)) ≡ true
      go (inl t) r = ap (λ (b : Bool). every f (keep_unless b m (others n ms))) t ∙ r
      go (inr t) r = ap (λ (b : Bool). every f (keep_unless b m (others n ms))) t ∙ and_both (and_left (f m) _ h) r

  others_unlike : (ms : List (List ℕ)) → every (λ m. not (same_name n m)) (others n ms) ≡ true
  unfolding others every keep_unless
  others_unlike [] = refl
  others_unlike (m ∷ ms) = go (told (same_name n m)) (others_unlike ms)
    where
      go : (same_name n m ≡ true) ⊎ (same_name n m ≡ false) → every (λ x. not (same_name n x)) (others n ms) ≡ true
          → every (λ x. not (same_name n x)) (keep_unless (same_name n m) m (others n ms)) ≡ true
      go (inl t) r = ap (λ (b : Bool). every (λ x. not (same_name n x)) (keep_unless b m (others n ms))) t ∙ r
      go (inr t) r = ap (λ (b : Bool). every (λ x. not (same_name n x)) (keep_unless b m (others n ms))) t ∙ and_both (ap not t) r

  others_distinct : (ms : List (List ℕ)) → distinct ms ≡ true → distinct (others n ms) ≡ true
  unfolding others distinct keep_unless
  others_distinct [] h = refl
  others_distinct (m ∷ ms) h =
      go (told (same_name n m)) (others_distinct ms (and_right (every (λ x. not (same_name m x)) ms) _ h))
    where
      go : (same_name n m ≡ true) ⊎ (same_name n m ≡ false) → distinct (others n ms) ≡ true → distinct (keep_unless (same_name n m) m (others n ms)) ≡ true
      go (inl t) r = ap (λ (b : Bool). distinct (keep_unless b m (others n ms))) t ∙ r
      go (inr t) r =
          ap (λ (b : Bool). distinct (keep_unless b m (others n ms))) t
          ∙ and_both (others_every (λ x. not (same_name m x)) ms (and_left (every (λ x. not (same_name m x)) ms) _ h)) r

pub once_every : (f : List ℕ → Bool) (ns : List (List ℕ)) → every f ns ≡ true → every f (once ns) ≡ true
unfolding once every
once_every f [] h = refl
once_every f (n ∷ ns) h = and_both (and_left (f n) _ h) (others_every n f (once ns) (once_every f ns (and_right (f n) _ h)))

pub once_distinct : (ns : List (List ℕ)) → distinct (once ns) ≡ true
unfolding once distinct
once_distinct [] = refl
once_distinct (n ∷ ns) = and_both (others_unlike n (once ns)) (others_distinct n (once ns) (once_distinct ns))
