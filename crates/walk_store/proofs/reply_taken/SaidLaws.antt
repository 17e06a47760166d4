-- What a reply that says something tells: it can be stored, and its prefix matches the path.
use mathlib.Core.Path.{◌≡◌, refl, sym, ap, ◌∙◌, subst}
use mathlib.Core.Bool.{Bool, true, false, not, ◌&&◌}
use mathlib.Core.List.{List, [], ◌∷◌, map}
use mathlib.Core.Logic.{◌⊎◌, inl, inr}
use Prim.Native.Nat.{ℕ, zero, suc, ◌+◌, ◌-◌, ◌≤◌}
use native.Mathlib.Omega.{arith}
use lib.ListN.{length, take, drop}
use lib.Seq.{take-take}
use borrow.Author.Tests.{le-leb, eq-eqb}
use Rattle.laws.specs.Lists.{every}
use Rattle.laws.proofs.Choices.{and_left, and_right, and_both}
use Rattle.laws.proofs.Every.{every_take}
use Rattle.unc.specs.names.Names.{same_name}
use Rattle.unc.specs.names.Paths.{matches, first_of, Target}
use Rattle.unc.proofs.names.PieceLaws.{parts, spans, first_hit, first_miss, first_over}
use Rattle.unc.proofs.names.MatchLaws.{at_end_lem, matches_units, matches_within}
use Rattle.reply_bytes.specs.texts.Code.{spanned}
use Rattle.reply_bytes.proofs.texts.UnitLaws.{length_spanned}
use Rattle.cache.specs.order.Order.{good_prefix, good_target, first_opens_none, good_referral}
use Rattle.cache.proofs.order.KindLaws.{prefix_short, good_referral_lem}
use Rattle.reply_read.specs.referral.Replies as replies
use Rattle.reply_read.specs.referral.Replies.{read_referral}
use Rattle.reply_read.specs.referral.Code.{ReferralInside, kept_inside, is_inside, target_shown, referral_shown}
use Rattle.reply_read.specs.declared.referral.Kept.{Kept}
use Rattle.reply_read.specs.declared.referral.ReferralFound.{ReferralFound}
use Rattle.reply_read.proofs.referral.SaysLaws as said
use Rattle.reply_read.proofs.referral.SaysLaws.{Sound, says_sound}
use Rattle.cache_entry.specs.write_entry.Code.{kept_fits}
use Rattle.cache_store.specs.entry_after_reply.Stored.{fresh}
use Rattle.cache_store.specs.entry_after_reply.Code.{Storable}

ended_nil : (n : ℕ) → at_end_lem (drop n []) ≡ true
unfolding at_end_lem
ended_nil zero = refl
ended_nil (suc n) = refl

ended_here : (u : ℕ) (s : List ℕ) → u ≡ 92 → at_end_lem (u ∷ s) ≡ true
unfolding at_end_lem
ended_here u s e = eq-eqb u 92 e

-- the first k components end where the text ends or at a backslash
first_ends : (k : ℕ) (s : List ℕ) → at_end_lem (drop (length (first_of k s)) s) ≡ true
first_ends k [] = ended_nil (length (first_of k []))
first_ends k (u ∷ s) = go k (parts u) (λ j. first_ends j s)
  where
    go : (k : ℕ) → (u ≡ 92) ⊎ (u ≡ 92 → ⊥) → ((j : ℕ) → at_end_lem (drop (length (first_of j s)) s) ≡ true) → at_end_lem (drop (length (first_of k (u ∷ s))) (u ∷ s)) ≡ true
    go zero (inl e) f =
        let a : 0 + length (first_of 0 (u ∷ s)) ≡ 0 = first_over 0 (u ∷ s) 0 refl (omega arith) e in
        let b : length (first_of 0 (u ∷ s)) ≡ 0 = omega arith in
        subst (λ (n : ℕ). at_end_lem (drop n (u ∷ s)) ≡ true) (sym b) (ended_here u s e)
    go (suc j) (inl e) f =
        let z : suc j - 1 ≡ j = omega arith in
        let a : 0 + length (first_of (suc j) (u ∷ s)) ≡ 0 + 1 + length (first_of (suc j - 1) s) = first_hit (suc j) (u ∷ s) 0 (omega arith) e (omega arith) in
        let b : length (first_of (suc j) (u ∷ s)) ≡ suc (length (first_of j s)) = omega (arith, ap (λ (m : ℕ). length (first_of m s)) z) in
        subst (λ (n : ℕ). at_end_lem (drop n (u ∷ s)) ≡ true) (sym b) (f j)
    go j (inr e) f =
        let a : 0 + length (first_of j (u ∷ s)) ≡ 0 + 1 + length (first_of j s) = first_miss j (u ∷ s) 0 (omega arith) e in
        let b : length (first_of j (u ∷ s)) ≡ suc (length (first_of j s)) = omega arith in
        subst (λ (n : ℕ). at_end_lem (drop n (u ∷ s)) ≡ true) (sym b) (f j)

-- a place of a beginning that ends so
end_in : (m n : ℕ) (s : List ℕ) → m ≤ n → at_end_lem (drop m (take n s)) ≡ true → at_end_lem (drop n s) ≡ true → at_end_lem (drop m s) ≡ true
unfolding at_end_lem
end_in m n [] h a b = ended_nil m
end_in zero zero (u ∷ s) h a b = b
end_in zero (suc n) (u ∷ s) h a b = a
end_in (suc m) zero (u ∷ s) h a b = absurd (omega arith)
end_in (suc m) (suc n) (u ∷ s) h a b = end_in m n s (omega arith) a b

-- a prefix that matches the first k components matches the path
pub first_whole : (k : ℕ) (s p : List ℕ) → matches p (first_of k s) ≡ true → matches p s ≡ true
first_whole k s p h =
    let l : length p ≤ length (first_of k s) = matches_within p (first_of k s) h in
    let a : (same_name p (take (length p) (first_of k s)) && at_end_lem (drop (length p) (first_of k s))) ≡ true = sym (matches_units p (first_of k s)) ∙ h in
    let b : take (length p) (first_of k s) ≡ take (length p) s = ap (take (length p)) (sym (spans k s).begin) ∙ take-take (length p) (length (first_of k s)) s l in
    let e : at_end_lem (drop (length p) (take (length (first_of k s)) s)) ≡ true =
    ap (λ (x : List ℕ). at_end_lem (drop (length p) x)) (spans k s).begin ∙ and_right (same_name p (take (length p) (first_of k s))) _ a in
    matches_units p s
    ∙ and_both (ap (same_name p) (sym b) ∙ and_left _ _ a) (end_in (length p) (length (first_of k s)) s l e (first_ends k s))

-- the targets of a reply that is read are good paths
path_good : Target → Bool
path_good t = good_prefix t.path

targets_good : (ts : List Target) → every said.good_target ts ≡ true → every path_good ts ≡ true
unfolding every said.good_target path_good good_prefix
targets_good [] h = refl
targets_good (t ∷ ts) h = and_both (and_left (said.good_target t) _ h) (targets_good ts (and_right (said.good_target t) _ h))

-- every kept target fits its place
one : (r : List ℕ) (k : Kept) → kept_inside r k ≡ true → path_good (target_shown r k) ≡ true → kept_fits r k ≡ true
unfolding kept_fits kept_inside is_inside target_shown path_good
one r k h g = let l : length (spanned r k.path) ≤ 256 = prefix_short _ g in and_both h (le-leb k.path.units 256 (omega (arith, length_spanned r k.path)))

kept_fit : (r : List ℕ) (ks : List Kept) → every (kept_inside r) ks ≡ true → every path_good (map (target_shown r) ks) ≡ true → every (kept_fits r) ks ≡ true
unfolding every
kept_fit r [] h g = refl
kept_fit r (k ∷ ks) h g = and_both (one r k (and_left _ _ h) (and_left _ _ g)) (kept_fit r ks (and_right (kept_inside r k) _ h) (and_right (path_good (target_shown r k)) _ g))

-- the targets as a cache holds them
all_good : (ts : List Target) → every path_good ts ≡ true → every good_target ts ≡ true
unfolding every good_target path_good
all_good [] h = refl
all_good (t ∷ ts) h = and_both (and_left (path_good t) _ h) (all_good ts (and_right (path_good t) _ h))

first_shut : (ts : List Target) → ((t : Target) (us : List Target) → ts ≡ t ∷ us → t.opens ≡ false) → first_opens_none ts ≡ true
unfolding first_opens_none
first_shut [] h = refl
first_shut (t ∷ ts) h = ap not (h t ts refl)

-- the entry that the reply makes is good
fresh_good : (asked : List ℕ) (x : replies.ReferralReply) → Sound asked x → every path_good x.targets ≡ true → good_referral (fresh x false 0) ≡ true
unfolding fresh good_prefix
fresh_good asked x s g =
    good_referral_lem _
    (record {
      prefixed = le-leb 2 _ s.prefix_normal;
      some = omega (arith, s.some);
      few = omega (arith, s.most);
      each = all_good x.targets g;
      first = first_shut x.targets s.first_shut;
      hinted = omega (arith, s.some);
    })

module _ (size : ℕ) (asked r : List ℕ) (f : ReferralFound) (e : replies.says (referral_shown r f) ≡ read_referral size asked r) where
  sound : Sound asked (referral_shown r f)
  sound = says_sound size asked r (referral_shown r f) (sym e)

  good_targets : every path_good (referral_shown r f).targets ≡ true
  good_targets = targets_good (referral_shown r f).targets sound.targets_normal

  pub said_storable : ReferralInside r f → Storable r f
  unfolding referral_shown
  said_storable w = record {
    inside = w.prefix_within;
    few = w.few;
    kept = kept_fit r (take f.targets f.kept) (every_take (kept_inside r) f.targets f.kept w.kept_within) good_targets;
    good = fresh_good asked (referral_shown r f) sound good_targets;
  }

  pub said_matches : matches (spanned r f.prefix) asked ≡ true
  unfolding referral_shown
  said_matches = sound.prefix_matches
