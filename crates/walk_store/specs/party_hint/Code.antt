-- Shapes of the code, proved equal to the rules; nothing here is to be believed.
-- Words of the hint of the party that answered.
use Rattle.std.specs.Prelude.{ℕ, ◌≤◌, ◌<◌, ◌≡◌, Bool, true, List, [], eqb, length}
use Rattle.laws.specs.Choice.{choose}
use Rattle.cache.specs.places.Layout.{place_count}
use Rattle.cache.specs.order.Order.{good_prefix}
use Rattle.cache.specs.order.Memory.{referrals, domains, decode, encode, in_order}
use Rattle.cache_lookup.specs.Code.{entry_at}
use Rattle.cache_lookup.specs.Lookup.{target_hinted, dc_hinted}
use Rattle.walk_steps.specs.steps.Steps.{Caches, is_in_use}
use Rattle.walk_steps.specs.steps.Held.{caches_of, core_of, question_of}
use Rattle.walk_steps.specs.declared.steps.Kind.{Kind}
use Rattle.walk_steps.specs.declared.steps.Kind.TheVariants as kind
use Rattle.walk_steps.specs.declared.steps.Asking.{Asking}
use Rattle.walk_store.specs.declared.party_hint.Hinted.{Hinted}
use Rattle.walk_store.specs.declared.party_hint.Hinted.TheVariants.{Unset, Target, Dc}
use Rattle.walk_store.specs.declared.party_hint.HintOf.{HintOf}
use Rattle.walk_store.specs.declared.party_hint.HintOf.TheVariants.{Nobody, Targets, Dcs}

-- whose hint a success sets: a root request to a host has none
unfoldable pub whose_of : Kind → ℕ → HintOf
whose_of kind.Dc entry = Nobody
whose_of kind.Root entry = choose (eqb entry 0) Nobody Dcs
whose_of kind.Link entry = Targets
whose_of kind.Sysvol entry = Dcs
whose_of kind.Io entry = Targets

-- both caches, as they are lent
pub record Lent : Type 0 where
  pub refs : List ℕ
  pub doms : List ℕ

abbrev pub lent_caches : List ℕ → List ℕ → Lent
lent_caches refs doms = record { refs = refs; doms = doms }

-- both caches with the hint as it was
unfoldable pub unhinted : Hinted → List ℕ → List ℕ → Lent
unhinted Unset refs doms = lent_caches refs doms
unhinted (Target i old) refs doms = lent_caches (encode referrals (target_hinted i old (decode referrals refs))) doms
unhinted (Dc i old) refs doms = lent_caches refs (encode domains (dc_hinted i old (decode domains doms)))

-- the hint can be set so again
pub record Unhintable (h : Hinted) (refs doms : List ℕ) : Type 0 where
  pub of_target : (i old : ℕ) → h ≡ Target i old
      → (in_order referrals refs ≡ true) × ((i < place_count refs) × (old < length (entry_at referrals i refs).targets))
  pub of_dc : (i old : ℕ) → h ≡ Dc i old → (in_order domains doms ≡ true) × ((i < place_count doms) × (old < length (entry_at domains i doms).dcs))

-- a hint was set: the caches are then these, in order, and it can be taken back
pub record Hinting (refs doms : List ℕ) (h : Hinted) (more then : List ℕ) (c : Caches) : Type 0 where
  pub caches : caches_of more then ≡ c
  pub back : unhinted h more then ≡ lent_caches refs doms
  pub refs_order : in_order referrals more ≡ true
  pub doms_order : in_order domains then ≡ true
  pub able : Unhintable h more then

-- a walk waits for the answer to the question q: both caches are in order, the path is good, what names the entry in use is a part of it,
-- and the entry in use is there with its parties
pub record Using (refs doms path : List ℕ) (q : Asking) : Type 0 where
  pub refs_order : in_order referrals refs ≡ true
  pub doms_order : in_order domains doms ≡ true
  pub good : good_prefix path ≡ true
  pub inside : q.entry ≤ length path
  pub used : (size : ℕ) (hit : Bool) → is_in_use (caches_of refs doms) (core_of path size hit) (question_of q []) ≡ true
