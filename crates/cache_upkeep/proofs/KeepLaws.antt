-- What the calls keep (specs/Keeps.antt).
use mathlib.Core.Path.{◌≡◌, refl, sym, ap, ◌∙◌}
use mathlib.Core.Bool.{true, false}
use mathlib.Core.List.{List, [], ◌∷◌, map}
use mathlib.Core.Logic.{◌⊎◌, inl, inr}
use Prim.Native.Nat.{ℕ, zero, suc}
use native.Mathlib.Omega.{arith}
use lib.ListN.{length, get_or}
use lib.Dec.{leb}
use borrow.Author.Tests.{le-leb}
use Rattle.std.specs.Prelude.{Result, Ok, Err, ⊤, Option, Some, None}
use Rattle.laws.specs.Choice.{choose}
use Rattle.laws.proofs.Choices.{choose_yes, choose_no}
use Rattle.laws.proofs.Orders.{told}
use Rattle.unc.specs.names.Paths.{good_path, normalised, path_units}
use Rattle.cache.specs.order.Entries.{Referral, Place, free, used}
use Rattle.cache.specs.order.Memory.{Kind, referrals, domains, decode, encode, in_order}
use Rattle.cache.proofs.order.MemoryLaws.{Lawful}
use Rattle.cache.proofs.order.KindLaws.{referrals_lawful, domains_lawful}
use Rattle.cache_lookup.specs.Lookup.{with_key, on_entry, age, expired}
use Rattle.cache_upkeep.specs.Calls.{expire_entry, next_dc, has_dc, entry_changed, upkept, Upkept, expire_all_call, found_expired, expire_call, found_moved, next_dc_call}
use Rattle.cache_upkeep.specs.Keeps.{Keeps, KeepsOthers, UpkeepKeeps}
use Rattle.cache_upkeep.specs.declared.UpkeepError.{UpkeepError}
use Rattle.cache_upkeep.specs.declared.UpkeepError.TheVariants.{NotInOrder, NoEntry}
use Rattle.cache_upkeep.proofs.EntryLaws.{Tends, expire_tends, next_tends, changed_order, changed_back, changed_other, all_order, all_back}

-- an entry with TTL 0 is expired at every clock
always_expired : (clock : ℕ) (e : Referral) → expired clock (expire_entry e) ≡ true
unfolding expired expire_entry
always_expired clock e = le-leb 0 (age clock e.settings.taken) (omega arith)

-- so is each that was made so
map_expired : (ps : List (Place Referral)) (j clock : ℕ) (e : Referral) → get_or (map (on_entry expire_entry) ps) j free ≡ used e → expired clock e ≡ true
unfolding on_entry
map_expired [] j clock e h = absurd (let z : ◌≡◌ {A = ℕ} 0 1 = cc in omega arith)
map_expired (free ∷ ps) zero clock e h = absurd (let z : ◌≡◌ {A = ℕ} 0 1 = cc in omega arith)
map_expired (used a ∷ ps) zero clock e h = let q : expire_entry a ≡ e = cc in ap (expired clock) (sym q) ∙ always_expired clock a
map_expired (p ∷ ps) (suc j) clock e h = map_expired ps j clock e h

at_expired : (ps : List (Place Referral)) (j clock : ℕ) (e : Referral) → get_or (entry_changed expire_entry j ps) j free ≡ used e → expired clock e ≡ true
unfolding entry_changed on_entry
at_expired [] j clock e h = absurd (let z : ◌≡◌ {A = ℕ} 0 1 = cc in omega arith)
at_expired (free ∷ ps) zero clock e h = absurd (let z : ◌≡◌ {A = ℕ} 0 1 = cc in omega arith)
at_expired (used a ∷ ps) zero clock e h = let q : expire_entry a ≡ e = cc in ap (expired clock) (sym q) ∙ always_expired clock a
at_expired (p ∷ ps) (suc j) clock e h = at_expired ps j clock e h

-- a refused call
kept_as : {E : Type 0} (k : Kind E) (raw : List ℕ) {u : Upkept} → u.cache ≡ raw → Keeps k raw u
kept_as k raw e = record { refused = λ n. e; order = λ h. ap (in_order k) e ∙ h }

others_as : {E : Type 0} (k : Kind E) (key raw : List ℕ) {u : Upkept} → u.cache ≡ raw → KeepsOthers k key raw u
others_as k key raw e = record { keeps = kept_as k raw e; others = λ j n. ap (λ (m : List ℕ). get_or (decode k m) j free) e }

-- a call that changed the entry that was found
others_changed : {E : Type 0} (k : Kind E) (law : Lawful k) (f : E → E) (t : Tends k f) (key raw : List ℕ) (order : in_order k raw ≡ true) (i : ℕ)
    → with_key k key (decode k raw) ≡ Some i → {u : Upkept} → u ≡ upkept (Ok tt) (encode k (entry_changed f i (decode k raw))) → KeepsOthers k key raw u
others_changed k law f t key raw order i found e = record {
  keeps = record {
    refused = λ n. absurd (n (ap (λ (x : Upkept). x.answer) e));
    order = λ h. ap (λ (x : Upkept). in_order k x.cache) e ∙ changed_order k f t law raw order i;
  };
  others = λ j n.
      ap (λ (x : Upkept). get_or (decode k x.cache) j free) e
      ∙ changed_other k f t law raw order i j (λ q. n (found ∙ ap Some (sym q)));
}

-- `expire_all`
module _ (raw : List ℕ) where
  all_keeps : Keeps referrals raw (expire_all_call raw)
  unfolding expire_all_call
  all_keeps = go (told (in_order referrals raw))
    where
      go : (in_order referrals raw ≡ true) ⊎ (in_order referrals raw ≡ false) → Keeps referrals raw (expire_all_call raw)
      go (inl t) =
          let e : expire_all_call raw ≡ upkept (Ok tt) (encode referrals (map (on_entry expire_entry) (decode referrals raw))) = choose_yes _ _ t in
          record {
            refused = λ n. absurd (n (ap (λ (x : Upkept). x.answer) e));
            order = λ h. ap (λ (x : Upkept). in_order referrals x.cache) e ∙ all_order referrals expire_entry expire_tends referrals_lawful raw t;
          }
      go (inr t) = kept_as referrals raw (ap (λ (x : Upkept). x.cache) (choose_no _ _ t))

  all_expired_lem : (expire_all_call raw).answer ≡ Ok tt → (j clock : ℕ) (e : Referral) → get_or (decode referrals (expire_all_call raw).cache) j free ≡ used e → expired clock e ≡ true
  unfolding expire_all_call
  all_expired_lem d j clock e h = go (told (in_order referrals raw))
    where
      go : (in_order referrals raw ≡ true) ⊎ (in_order referrals raw ≡ false) → expired clock e ≡ true
      go (inl t) =
          let q : (expire_all_call raw).cache ≡ encode referrals (map (on_entry expire_entry) (decode referrals raw)) = ap (λ (x : Upkept). x.cache) (choose_yes _ _ t) in
          map_expired (decode referrals raw) j clock e
          (ap (λ (ps : List (Place Referral)). get_or ps j free) (sym (ap (decode referrals) q ∙ all_back referrals expire_entry expire_tends referrals_lawful raw t)) ∙ h)
      go (inr t) = absurd (let a : Err NotInOrder ≡ Ok tt = ap (λ (x : Upkept). x.answer) (sym (choose_no _ _ t)) ∙ d in let z : ◌≡◌ {A = ℕ} 0 1 = cc in omega arith)

-- `expire`, by its tests
data Way (raw path : List ℕ) : Type 0 where
  same : ((expire_call raw path).answer ≡ Ok tt → ⊥) → (expire_call raw path).cache ≡ raw → Way raw path
  at : (i : ℕ) → in_order referrals raw ≡ true → with_key referrals (normalised path) (decode referrals raw) ≡ Some i
      → expire_call raw path ≡ upkept (Ok tt) (encode referrals (entry_changed expire_entry i (decode referrals raw))) → Way raw path

never : {a : Result ⊤ UpkeepError} {raw path : List ℕ} → expire_call raw path ≡ upkept a raw → (a ≡ Ok tt → ⊥) → Way raw path
never e n = same (λ d. n (sym (ap (λ (x : Upkept). x.answer) e) ∙ d)) (ap (λ (x : Upkept). x.cache) e)

module _ (raw path : List ℕ) where
  way_of : Way raw path
  unfolding expire_call
  way_of =
      go (told (in_order referrals raw)) (told (good_path path)) (told (leb (length (normalised path)) path_units)) (with_key referrals (normalised path) (decode referrals raw)) refl
    where
      go : (in_order referrals raw ≡ true) ⊎ (in_order referrals raw ≡ false) → (good_path path ≡ true) ⊎ (good_path path ≡ false)
          → (leb (length (normalised path)) path_units ≡ true) ⊎ (leb (length (normalised path)) path_units ≡ false)
          → (r : Option ℕ) → with_key referrals (normalised path) (decode referrals raw) ≡ r → Way raw path
      go (inr t) u v r q = never (choose_no _ _ t) (λ z. let o : ◌≡◌ {A = ℕ} 0 1 = cc in omega arith)
      go (inl t) (inr u) v r q = never (choose_yes _ _ t ∙ choose_no _ _ u) (λ z. let o : ◌≡◌ {A = ℕ} 0 1 = cc in omega arith)
      go (inl t) (inl u) (inr v) r q = never (choose_yes _ _ t ∙ (choose_yes _ _ u ∙ choose_no _ _ v)) (λ z. let o : ◌≡◌ {A = ℕ} 0 1 = cc in omega arith)
      go (inl t) (inl u) (inl v) None q =
          unfold found_expired in
          never (choose_yes _ _ t ∙ (choose_yes _ _ u ∙ (choose_yes _ _ v ∙ ap (λ (x : Option ℕ). found_expired x raw) q))) (λ z. let o : ◌≡◌ {A = ℕ} 0 1 = cc in omega arith)
      go (inl t) (inl u) (inl v) (Some i) q =
          unfold found_expired in
          at i t q (choose_yes _ _ t ∙ (choose_yes _ _ u ∙ (choose_yes _ _ v ∙ ap (λ (x : Option ℕ). found_expired x raw) q)))

  one_keeps : KeepsOthers referrals (normalised path) raw (expire_call raw path)
  one_keeps = go way_of
    where
      go : Way raw path → KeepsOthers referrals (normalised path) raw (expire_call raw path)
      go (same n e) = others_as referrals (normalised path) raw e
      go (at i t q e) = others_changed referrals referrals_lawful expire_entry expire_tends (normalised path) raw t i q e

  one_expired_lem : (expire_call raw path).answer ≡ Ok tt → (j clock : ℕ) (e : Referral) → with_key referrals (normalised path) (decode referrals raw) ≡ Some j
      → get_or (decode referrals (expire_call raw path).cache) j free ≡ used e → expired clock e ≡ true
  one_expired_lem d j clock e f h = go way_of
    where
      go : Way raw path → expired clock e ≡ true
      go (same n x) = absurd (n d)
      go (at i t q x) =
          let same_place : i ≡ j = cc in
          at_expired (decode referrals raw) j clock e
          (ap (λ (ps : List (Place Referral)). get_or ps j free)
          (sym (ap (λ (y : Upkept). decode referrals y.cache) x
          ∙ (changed_back referrals expire_entry expire_tends referrals_lawful raw t i
          ∙ ap (λ (n : ℕ). entry_changed expire_entry n (decode referrals raw)) same_place)))
          ∙ h)

-- `next_dc`
module _ (raw name : List ℕ) where
  moved_keeps : KeepsOthers domains name raw (next_dc_call raw name)
  unfolding next_dc_call found_moved
  moved_keeps = go (told (in_order domains raw)) (with_key domains name (decode domains raw)) refl
    where
      at : (i : ℕ) → in_order domains raw ≡ true → with_key domains name (decode domains raw) ≡ Some i
          → next_dc_call raw name ≡ choose (has_dc (get_or (decode domains raw) i free)) (upkept (Ok tt) (encode domains (entry_changed next_dc i (decode domains raw)))) (upkept (Err NoEntry) raw)
          → (has_dc (get_or (decode domains raw) i free) ≡ true) ⊎ (has_dc (get_or (decode domains raw) i free) ≡ false) → KeepsOthers domains name raw (next_dc_call raw name)
      at i t q e (inl s) = others_changed domains domains_lawful next_dc next_tends name raw t i q (e ∙ choose_yes _ _ s)
      at i t q e (inr s) = others_as domains name raw (ap (λ (x : Upkept). x.cache) (e ∙ choose_no _ _ s))

      go : (in_order domains raw ≡ true) ⊎ (in_order domains raw ≡ false) → (r : Option ℕ) → with_key domains name (decode domains raw) ≡ r → KeepsOthers domains name raw (next_dc_call raw name)
      go (inr t) r q = others_as domains name raw (ap (λ (x : Upkept). x.cache) (choose_no _ _ t))
      go (inl t) None q = others_as domains name raw (ap (λ (x : Upkept). x.cache) (choose_yes _ _ t ∙ ap (λ (x : Option ℕ). found_moved x raw) q))
      go (inl t) (Some i) q = at i t q (choose_yes _ _ t ∙ ap (λ (x : Option ℕ). found_moved x raw) q) (told (has_dc (get_or (decode domains raw) i free)))

pub upkeep_keeps : UpkeepKeeps
upkeep_keeps = record { all = all_keeps; all_expired = all_expired_lem; one = one_keeps; one_expired = one_expired_lem; moved = moved_keeps }
