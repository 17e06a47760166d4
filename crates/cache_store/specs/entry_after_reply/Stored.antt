-- A reply stored: document 01, "Storing", and source document 001.
use Rattle.std.specs.Prelude.{ℕ, suc, ◌-◌, Bool, true, false, ◌&&◌, not, List, [], ◌∷◌, ◌++◌, map, length, get_or, take, drop, set, replicate, Option, None, Some}
use Rattle.laws.specs.Choice.{choose}
use Rattle.laws.specs.Lists.{every}
use Rattle.unc.specs.names.Names.{same_name}
use Rattle.unc.specs.names.Paths.{Target}
use Rattle.cache.specs.order.Entries.{Settings, Referral, Domain, Place, free, used}
use Rattle.cache.specs.order.Memory.{referrals}
use Rattle.cache_lookup.specs.Lookup.{with_key, new_place, found_or}
use Rattle.reply_read.specs.referral.Replies as replies
use Rattle.cache_entry.specs.equivalent_targets.Equivalence.{equivalent}

-- "Interlink is set exactly when ReferralServers is set and StorageServers is not." The domain cache is not looked at.
unfoldable pub is_interlink : replies.ReferralReply → List (Place Domain) → Bool
is_interlink q ds = q.referral_servers && not q.storage_servers

-- "A kept hint points to the first equal target": the place of the first target equal to this path, 0 where there is none
unfoldable pub first_equal : ℕ → List ℕ → List Target → ℕ
first_equal n p [] = 0
first_equal n p (t ∷ ts) = choose (same_name t.path p) n (first_equal (suc n) p ts)

-- the path that the hint of an entry points to
unfoldable pub hinted : Referral → List ℕ
hinted e = get_or (map (λ t. t.path) e.targets) e.hint []

-- a place is in the first target set where no set opens up to it
unfoldable pub in_first_set : ℕ → List Target → Bool
in_first_set n ts = every (λ t. not t.opens) (take n (drop 1 ts))

-- "If the TargetFailback is set .., and if the TargetHint is not in the first target set of the TargetList, set the TargetHint to point to the first target"
unfoldable pub failed_back : Bool → List Target → ℕ → ℕ
failed_back failback ts hint = choose (failback && not (in_first_set hint ts)) 0 hint

-- "if the targets .. are equivalent, the client MUST NOT update the TargetList"
unfoldable pub targets_after : Referral → replies.ReferralReply → List Target
targets_after e q = choose (equivalent q.version e.targets q.targets) e.targets q.targets

-- the settings that a reply gives: kind, TTL and TargetFailback as it says them, and the time taken is now
unfoldable pub settings_said : replies.ReferralReply → Bool → ℕ → Settings
settings_said q interlink clock = record { root = q.root; interlink = interlink; failback = q.failback; ttl = q.ttl; taken = clock }

-- An entry refreshed: the prefix keeps its spelling; the settings are the reply's.
unfoldable pub refreshed : Referral → replies.ReferralReply → Bool → ℕ → Referral
refreshed e q interlink clock = record {
  prefix = e.prefix;
  settings = settings_said q interlink clock;
  targets = targets_after e q;
  hint = failed_back q.failback (targets_after e q) (first_equal 0 (hinted e) (targets_after e q));
}

-- A new entry: TargetHint is the first target.
unfoldable pub fresh : replies.ReferralReply → Bool → ℕ → Referral
fresh q interlink clock = record {
  prefix = q.prefix;
  settings = settings_said q interlink clock;
  targets = q.targets;
  hint = 0;
}

-- The place that a store writes: that of the entry with an equal prefix, else the one that a new entry takes.
unfoldable pub store_place : ℕ → List ℕ → List (Place Referral) → ℕ
store_place clock prefix ps = found_or (new_place clock ps) (with_key referrals prefix ps)

-- the entry at a place that was found
unfoldable pub held_at : {E : Type 0} → Place E → Option E
held_at free = None
held_at (used e) = Some e

unfoldable pub held : {E : Type 0} → Option ℕ → List (Place E) → Option E
held None ps = None
held (Some i) ps = held_at (get_or ps i free)

-- the entry of an equal prefix
unfoldable pub prefixed : List ℕ → List (Place Referral) → Option Referral
prefixed prefix ps = held (with_key referrals prefix ps) ps

-- "if an entry has an equal prefix it is refreshed", else the entry is new
unfoldable pub stored_entry : Option Referral → replies.ReferralReply → Bool → ℕ → Referral
stored_entry None q interlink clock = fresh q interlink clock
stored_entry (Some e) q interlink clock = refreshed e q interlink clock

-- the cache then: every other place stays as it was
unfoldable pub stored : replies.ReferralReply → Bool → ℕ → List (Place Referral) → List (Place Referral)
stored q interlink clock ps =
    set ps (store_place clock q.prefix ps) (used (stored_entry (prefixed q.prefix ps) q interlink clock))

-- A DC reply into its domain: the DCs, and DCHint the first.
unfoldable pub with_dcs : List (List ℕ) → Place Domain → Place Domain
with_dcs names free = free
with_dcs names (used d) = used (record { name = d.name; dcs = names; hint = 0 })

unfoldable pub dcs_stored : ℕ → List (List ℕ) → List (Place Domain) → List (Place Domain)
dcs_stored i names ps = set ps i (with_dcs names (get_or ps i free))

unfoldable pub keep_unless : Bool → List ℕ → List (List ℕ) → List (List ℕ)
keep_unless true m ms = ms
keep_unless false m ms = m ∷ ms

-- A domain reply "replaces the domain cache, in reply order, equal names once, without DCs".
unfoldable pub others : List ℕ → List (List ℕ) → List (List ℕ)
others n [] = []
others n (m ∷ ms) = keep_unless (same_name n m) m (others n ms)

unfoldable pub once : List (List ℕ) → List (List ℕ)
once [] = []
once (n ∷ ns) = n ∷ others n (once ns)

unfoldable pub domain_places : ℕ → List (List ℕ) → List (Place Domain)
domain_places count names = map (λ n. used (record { name = n; dcs = []; hint = 0 })) names ++ replicate (count - length names) free
