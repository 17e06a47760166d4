-- Laws of a whole store: what the writers leave in a place is the entry that the rules name.
use mathlib.Core.Path.{◌≡◌, refl, sym, ◌∙◌}
use mathlib.Core.Bool.{Bool, true, false}
use mathlib.Core.List.{List, map}
use Prim.Native.Nat.{ℕ, ◌+◌, ◌≤◌, ◌<◌}
use native.Mathlib.Omega.{arith}
use lib.ListN.{length, take, length-map, length-take}
use Rattle.cache.specs.places.Layout.{place_count, place_at, root_unit}
use Rattle.cache.specs.places.Code.{changed, put_settings}
use Rattle.reply_bytes.specs.texts.Code.{spanned}
use Rattle.reply_bytes.proofs.texts.UnitLaws.{length_spanned}
use Rattle.cache.specs.order.Order.{good_referral}
use Rattle.cache.specs.order.Memory.{referral_units, settings_units}
use Rattle.cache.proofs.order.KindLaws.{GoodReferral, referral_told, prefix_short}
use Rattle.reply_read.specs.referral.Replies as replies
use Rattle.reply_read.specs.referral.Code.{referral_shown, target_shown}
use Rattle.reply_read.specs.declared.referral.Kept.{Kept}
use Rattle.reply_read.specs.declared.referral.ReferralFound.{ReferralFound}
use Rattle.cache_store.specs.entry_after_reply.Stored.{fresh, settings_said}
use Rattle.cache_entry.specs.write_entry.Code.{add_text, add_all, add_target, begun, settings}
use Rattle.cache_store.specs.entry_after_reply.Code.{Storable}
use Rattle.cache_entry.proofs.write_entry.WritingLaws.{Keeps, keeps_added, keeps_blank, keeps_both, keeps_target, keeps_all, keeps_pasted, short, all_short, then_changed, changed_same}
use Rattle.cache_store.proofs.entry_after_reply.EntryLaws.{entry_inserted}

-- the targets of the reply
pub targets_in : (r : List ℕ) (f : ReferralFound) → (referral_shown r f).targets ≡ map (target_shown r) (take f.targets f.kept)
unfolding referral_shown
targets_in r f = refl

-- whether an entry is good does not depend on Interlink or the time taken
pub fresh_good : (q : replies.ReferralReply) (a b : Bool) (s t : ℕ) → good_referral (fresh q a s) ≡ true → good_referral (fresh q b t) ≡ true
unfolding good_referral fresh settings_said
fresh_good q a b s t h = h

-- the prefix fits its room
pub prefix_fits : (r : List ℕ) (f : ReferralFound) → Storable r f → f.prefix.units ≤ 256
unfolding fresh referral_shown settings_said
prefix_fits r f s =
    let g : GoodReferral (fresh (referral_shown r f) false 0) = referral_told (fresh (referral_shown r f) false 0) s.good in
    let l : length (spanned r f.prefix) ≤ 256 = prefix_short (spanned r f.prefix) g.prefixed in
    omega (arith, length_spanned r f.prefix)

keeps_begun : (t : List ℕ) → length t ≤ 256 → Keeps (begun t)
unfolding begun
keeps_begun t h = keeps_both (λ q. _) (add_text 0 t) keeps_blank (keeps_added 0 t (omega arith) h)

pub keeps_settled : (root interlink failback : Bool) (ttl taken : ℕ) → Keeps (put_settings (settings root interlink failback ttl taken))
unfolding put_settings settings settings_units
keeps_settled root interlink failback ttl taken = keeps_pasted root_unit (settings root interlink failback ttl taken) (omega arith)

few_kept : (r : List ℕ) (ks : List Kept) (n : ℕ) → n ≤ 8 → 0 + length (map (target_shown r) (take n ks)) ≤ 8
few_kept r ks n h = simp (length-map, length-take) (omega arith)

-- what the three steps leave in a place
new_entry : (r : List ℕ) (f : ReferralFound) → Storable r f → (interlink : Bool) (clock : ℕ) (p : List ℕ)
    → put_settings (settings f.root interlink f.failback f.ttl clock) (add_all add_target 0 (map (target_shown r) (take f.targets f.kept)) (begun (spanned r f.prefix) p))
    ≡ referral_units (fresh (referral_shown r f) interlink clock)
unfolding fresh referral_shown settings_said
new_entry r f s interlink clock p =
    entry_inserted (fresh (referral_shown r f) interlink clock) (fresh_good (referral_shown r f) false interlink 0 clock s.good) refl
    (map (target_shown r) (take f.targets f.kept)) (sym (targets_in r f)) p

-- a new entry, written in three steps
module _ (raw : List ℕ) (i : ℕ) (fits : i < place_count raw) (r : List ℕ) (f : ReferralFound) (s : Storable r f) (interlink : Bool) (clock : ℕ) where
  pub keeps_kept : Keeps (add_all add_target 0 (map (target_shown r) (take f.targets f.kept)))
  keeps_kept =
      keeps_all add_target short keeps_target 0 (map (target_shown r) (take f.targets f.kept))
      (few_kept r f.kept f.targets s.few) (all_short r (take f.targets f.kept) s.kept)

  pub inserted : {l m o : List ℕ} → l ≡ changed i (begun (spanned r f.prefix)) raw
      → m ≡ changed i (add_all add_target 0 (map (target_shown r) (take f.targets f.kept))) l
      → o ≡ changed i (put_settings (settings f.root interlink f.failback f.ttl clock)) m
      → o ≡ changed i (λ p. referral_units (fresh (referral_shown r f) interlink clock)) raw
  inserted a b c =
      let u : length (spanned r f.prefix) ≤ 256 = omega (arith, length_spanned r f.prefix, prefix_fits r f s) in
      let kb = keeps_both (begun (spanned r f.prefix)) (add_all add_target 0 (map (target_shown r) (take f.targets f.kept))) (keeps_begun (spanned r f.prefix) u) keeps_kept in
      then_changed raw i fits (λ p. add_all add_target 0 (map (target_shown r) (take f.targets f.kept)) (begun (spanned r f.prefix) p))
      (put_settings (settings f.root interlink f.failback f.ttl clock)) kb (keeps_settled f.root interlink f.failback f.ttl clock)
      (then_changed raw i fits (begun (spanned r f.prefix)) (add_all add_target 0 (map (target_shown r) (take f.targets f.kept)))
      (keeps_begun (spanned r f.prefix) u) keeps_kept a b) c
      ∙ changed_same raw i fits
      (λ p. put_settings (settings f.root interlink f.failback f.ttl clock) (add_all add_target 0 (map (target_shown r) (take f.targets f.kept)) (begun (spanned r f.prefix) p)))
      (λ p. referral_units (fresh (referral_shown r f) interlink clock)) (new_entry r f s interlink clock (place_at i raw))
