-- Storing by key and by place: the same.
use Rattle.std.specs.Prelude.{Option, Some, None}
use mathlib.Core.Path.{◌≡◌, refl, sym, ap, ◌∙◌}
use mathlib.Core.Bool.{Bool}
use mathlib.Core.List.{List}
use Prim.Native.Nat.{ℕ}
use lib.ListN.{get_or, set}
use Rattle.cache.specs.order.Entries.{Referral, Domain, Place, free, used}
use Rattle.cache.specs.order.Memory.{referrals, domains}
use Rattle.cache_lookup.specs.Lookup.{with_key, new_place, found_or, on_entry}
use Rattle.cache_lookup.specs.Code.{on_key}
use Rattle.cache_lookup.proofs.LookupLaws.{KeyAt, key_found}
use Rattle.cache_lookup.proofs.KeyLaws.{on_at}
use Rattle.reply_read.specs.referral.Replies as replies
use Rattle.cache_store.specs.entry_after_reply.Stored.{fresh, refreshed, stored, stored_entry, store_place, prefixed, held, held_at, with_dcs, dcs_stored}
use Rattle.cache_store.specs.entry_after_reply.Code.{dcs_to}

-- a DC reply
with_dcs_lem : (names : List (List ℕ)) (p : Place Domain) → on_entry (dcs_to names) p ≡ with_dcs names p
unfolding on_entry dcs_to with_dcs
with_dcs_lem names free = refl
with_dcs_lem names (used d) = refl

pub dcs_stored_key : (name : List ℕ) (names : List (List ℕ)) (ps : List (Place Domain)) (i : ℕ) → with_key domains name ps ≡ Some i
    → on_key domains name (dcs_to names) ps ≡ dcs_stored i names ps
unfolding dcs_stored
dcs_stored_key name names ps i e = on_at domains name (dcs_to names) ps i e ∙ ap (set ps i) (with_dcs_lem names (get_or ps i free))

-- a referral reply: the entry with an equal prefix is refreshed
module _ (q : replies.ReferralReply) (interlink : Bool) (clock : ℕ) (ps : List (Place Referral)) where
  pub stored_key : (i : ℕ) → with_key referrals q.prefix ps ≡ Some i
      → stored q interlink clock ps ≡ on_key referrals q.prefix (λ e. refreshed e q interlink clock) ps
  unfolding stored store_place found_or prefixed held held_at stored_entry on_entry
  stored_key i h =
      let b : KeyAt referrals q.prefix ps i = key_found referrals q.prefix ps i h in
      ap (λ (x : Option ℕ). set ps (found_or (new_place clock ps) x) (used (stored_entry (held x ps) q interlink clock))) h
      ∙ (ap (λ (p : Place Referral). set ps i (used (stored_entry (held_at p) q interlink clock))) b.here
      ∙ sym (on_at referrals q.prefix (λ e. refreshed e q interlink clock) ps i h
      ∙ ap (λ (p : Place Referral). set ps i (on_entry (λ e. refreshed e q interlink clock) p)) b.here))

  -- and where there is none the entry is new
  pub stored_new : with_key referrals q.prefix ps ≡ None → stored q interlink clock ps ≡ set ps (new_place clock ps) (used (fresh q interlink clock))
  unfolding stored store_place found_or prefixed held stored_entry
  stored_new h = ap (λ (x : Option ℕ). set ps (found_or (new_place clock ps) x) (used (stored_entry (held x ps) q interlink clock))) h
